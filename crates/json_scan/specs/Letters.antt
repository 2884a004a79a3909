-- The letters of a name, one after another, as the machine reads them: words for contracts, no rule.
use Rattle.std.specs.Prelude.{◌≡◌, List, [], ◌∷◌, true, ℕ, ◌/◌, ◌%◌, ⊤}
use Rattle.json_rules.proofs.Machine.{Goal, lower, Sample, of_value, letter, quote, colon}

-- a letter that a name may have, and the digits of its escape
pub record Lower (c : ℕ) : Type 0 where
  pub small : lower c ≡ true
  pub high : Sample (of_value (c / 16))
  pub low : Sample (of_value (c % 16))

-- a word of such letters
abbrev pub Spelled : List ℕ → Type 0
Spelled [] = ⊤
Spelled (c ∷ w) = Lower c × Spelled w

-- they, the closing quote and the colon
abbrev pub rest : (w : List ℕ) → Spelled w → List Goal
rest [] p = quote ∷ colon ∷ []
rest (c ∷ w) p = letter c p.0.small p.0.high p.0.low ∷ rest w p.1
