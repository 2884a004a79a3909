-- The digits of an index, written out: one below 10, two below 100, else three.
use Rattle.std.proofs.Common.{◌≡◌, ◌∙◌, ℕ, ◌+◌, ◌/◌, ◌%◌, ◌≤◌, ◌<◌, [], ◌∷◌, arith}
use Rattle.rules.specs.Lines.{digits}
use Rattle.rules.proofs.Digits.{digits_one, digits_more}

pub two_digits : (n : ℕ) → 10 ≤ n → n < 100 → digits n ≡ (48 + n / 10) ∷ (48 + n % 10) ∷ []
two_digits n h l = digits_more n h ∙ rw (digits_one (n / 10) (omega arith))

pub three_digits : (n : ℕ) → 100 ≤ n → n < 256 → digits n ≡ (48 + n / 100) ∷ (48 + n / 10 % 10) ∷ (48 + n % 10) ∷ []
three_digits n h l =
    let e : n / 10 / 10 ≡ n / 100 = omega arith in
    digits_more n (omega arith) ∙ rw (two_digits (n / 10) (omega arith) (omega arith), e)

pub ruleset digits_written = (digits_one, two_digits, three_digits)
