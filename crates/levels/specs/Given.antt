-- A stand-in that may be missing, as the rules are told it: whether there is one, and its bytes. Words for contracts, no rule.
use Rattle.std.specs.Prelude.{List, [], Bool, true, false, ℕ, Option, Some, None}
use Rattle.rules.specs.Standin.{Standin, standin_of}

abbrev pub is_given : Option (List ℕ) → Bool
is_given None = false
is_given (Some s) = true

-- (of none, no bytes)
abbrev pub text_of : Option (List ℕ) → List ℕ
text_of None = []
text_of (Some s) = s

-- as the rules speak of it
abbrev pub standin_from : Option (List ℕ) → Standin
standin_from s = standin_of (is_given s) (text_of s)
