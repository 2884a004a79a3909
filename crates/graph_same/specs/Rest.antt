-- What is left of a text after what it must begin with: words for contracts, no rules.
use Rattle.std.specs.Prelude.{List, [], ◌∷◌, Bool, false, ℕ, Option, Some, None, eqb, length}
use Rattle.rules.specs.Base.{pick}

-- what follows w in P, if P begins with w
unfoldable pub after : List ℕ → List ℕ → Option (List ℕ)
after [] P = Some P
after (b ∷ w) [] = None
after (b ∷ w) (x ∷ P) = pick (eqb b x) (after w P) None

-- all was met, and nothing is left
abbrev pub ended : Option (List ℕ) → Bool
ended None = false
ended (Some P) = eqb (length P) 0
