-- The letters of a name are read one after another: a letter and what is left of the name. And the letters of the two names.
use mathlib.Core.Path.{◌≡◌, refl, sym, subst}
use mathlib.Core.List.{List, [], ◌∷◌}
use mathlib.Core.Bool.{true}
use Prim.Native.Nat.{ℕ, ◌+◌, ◌/◌, ◌%◌, ◌≤◌, ◌<◌}
use native.Mathlib.Numerals.{add-one}
use lib.ListN.{length, drop, get_or, drop_of_length-le}
use lib.Seq.{drop-cons}
use Rattle.std.proofs.Common.{Result, Ok, Err}
use Rattle.rules.specs.Base.{pick}
use Rattle.rules.specs.Utf8.{span}
use Rattle.json_rules.specs.Text.{hex}
use Rattle.json_rules.proofs.Machine.{lower, Sample, of_value, valued, letter, letter_t, letter_i, letter_e, letter_l, letter_c, letter_h, letter_d, letter_r, letter_n, colon, itle, hildren}
use Rattle.json_scan.specs.Takes.{Takes}
use Rattle.json_scan.specs.Letters.{Lower, Spelled, rest}
use Rattle.json_scan.specs.declared.signs.Wrong.{Wrong}
use Rattle.json_scan.proofs.Laws.{one_then, one_wrong}

-- the letters of the two names
abbrev small_t : Lower 0x74
unfolding lower span hex pick
small_t = record { small = refl; high = valued 7 0x37 refl refl; low = valued 4 0x34 refl refl }

abbrev small_i : Lower 0x69
unfolding lower span hex pick
small_i = record { small = refl; high = valued 6 0x36 refl refl; low = valued 9 0x39 refl refl }

abbrev small_l : Lower 0x6C
unfolding lower span hex pick
small_l = record { small = refl; high = valued 6 0x36 refl refl; low = valued 12 0x63 refl refl }

abbrev small_e : Lower 0x65
unfolding lower span hex pick
small_e = record { small = refl; high = valued 6 0x36 refl refl; low = valued 5 0x35 refl refl }

abbrev small_c : Lower 0x63
unfolding lower span hex pick
small_c = record { small = refl; high = valued 6 0x36 refl refl; low = valued 3 0x33 refl refl }

abbrev small_h : Lower 0x68
unfolding lower span hex pick
small_h = record { small = refl; high = valued 6 0x36 refl refl; low = valued 8 0x38 refl refl }

abbrev small_d : Lower 0x64
unfolding lower span hex pick
small_d = record { small = refl; high = valued 6 0x36 refl refl; low = valued 4 0x34 refl refl }

abbrev small_r : Lower 0x72
unfolding lower span hex pick
small_r = record { small = refl; high = valued 7 0x37 refl refl; low = valued 2 0x32 refl refl }

abbrev small_n : Lower 0x6E
unfolding lower span hex pick
small_n = record { small = refl; high = valued 6 0x36 refl refl; low = valued 14 0x65 refl refl }

module _ (s : List ℕ) where
  -- what a reader of the letter c answers
  abbrev pub Letter : ℕ → ℕ → Result ℕ Wrong → Type 0
  Letter c i r = (e : lower c ≡ true) → (h : Sample (of_value (c / 16))) → (l : Sample (of_value (c % 16))) → Takes s (letter c e h l ∷ []) i r

  -- what is left of a name is read from i on
  abbrev pub Left : List ℕ → ℕ → Result ℕ Wrong → Type 0
  Left w i r = (p : Spelled w) → Takes s (rest w p) i r

  module _ (name : List ℕ) (k i : ℕ) where
    front : k < length name → drop k name ≡ get_or name k 0 ∷ drop (k + 1) name
    front h = rw add-one (drop-cons name k 0 h)

    pub letter_read : (f : ℕ) (r : Result ℕ Wrong) → k < length name → Letter (get_or name k 0) i (Ok f) → Left (drop (k + 1) name) f r → Left (drop k name) i r
    letter_read f r h a t = subst (λ x. Left x i r) (sym (front h)) (λ p. one_then (a p.0.small p.0.high p.0.low) (t p.1))

    pub letter_wrong : (w : Wrong) (r : Result ℕ Wrong) → k < length name → Letter (get_or name k 0) i (Err w) → r ≡ Err w → Left (drop k name) i r
    letter_wrong w r h a q = subst (λ x. Left x i r) (sym (front h)) (λ p. one_wrong (a p.0.small p.0.high p.0.low) q)

    pub letters_done : (r : Result ℕ Wrong) → length name ≤ k → Left [] i r → Left (drop k name) i r
    letters_done r h t = subst (λ x. Left x i r) (sym (drop_of_length-le name {i = k} h)) t

  -- the two names, and what is left of them after their first letters
  module _ (i : ℕ) (r : Result ℕ Wrong) where
    pub itle_read : Left (0x69 ∷ 0x74 ∷ 0x6C ∷ 0x65 ∷ []) i r → Takes s (itle (colon ∷ [])) i r
    unfolding letter_i letter_t letter_l letter_e lower span hex pick
    itle_read t = t (small_i, (small_t, (small_l, (small_e, tt))))

    pub hildren_read : Left (0x68 ∷ 0x69 ∷ 0x6C ∷ 0x64 ∷ 0x72 ∷ 0x65 ∷ 0x6E ∷ []) i r → Takes s (hildren (colon ∷ [])) i r
    unfolding letter_h letter_i letter_l letter_d letter_r letter_e letter_n lower span hex pick
    hildren_read t = t (small_h, (small_i, (small_l, (small_d, (small_r, (small_e, (small_n, tt)))))))

    pub title_read : Left (0x74 ∷ 0x69 ∷ 0x74 ∷ 0x6C ∷ 0x65 ∷ []) i r → Takes s (letter_t ∷ itle (colon ∷ [])) i r
    unfolding letter_t letter_i letter_l letter_e lower span hex pick
    title_read t = t (small_t, (small_i, (small_t, (small_l, (small_e, tt)))))

    pub children_read : Left (0x63 ∷ 0x68 ∷ 0x69 ∷ 0x6C ∷ 0x64 ∷ 0x72 ∷ 0x65 ∷ 0x6E ∷ []) i r → Takes s (letter_c ∷ hildren (colon ∷ [])) i r
    unfolding letter_c letter_h letter_i letter_l letter_d letter_r letter_e letter_n lower span hex pick
    children_read t = t (small_c, (small_h, (small_i, (small_l, (small_d, (small_r, (small_e, (small_n, tt))))))))
