-- What becomes of a text that is put into the sink that compares. Words for contracts, and the laws of sinks.
use Rattle.std.specs.Prelude.{◌≡◌, List, [], ◌∷◌, ◌++◌, Bool, true, false, ℕ, Option, Some, None, option_map, option_and_then, eqb, refl}
use Rattle.std.proofs.Common.{ap, ◌∙◌}
use Rattle.rules.specs.Base.{pick}
use Rattle.put.specs.Sinks.{SinkLaws}
use Rattle.graph_same.specs.Rest.{after}
use Rattle.graph_same.specs.declared.meet.Meet.{Meet}

-- any text may be put
abbrev pub meet_fits : ℕ → Meet → Type 0
meet_fits n m = Unit {0}

abbrev pub rest_of : Meet → Option (List ℕ)
rest_of m = option_map (λ t. t.now) m.rest

-- what is left is what follows it
pub record Met (w : List ℕ) (old new : Meet) : Type 0 where
  pub left : rest_of new ≡ option_and_then (after w) (rest_of old)

by_test : (t : Bool) (a b P : List ℕ) → option_and_then (after b) (after a P) ≡ after (a ++ b) P
    → option_and_then (after b) (pick t (after a P) None) ≡ pick t (after (a ++ b) P) None
unfolding pick
by_test true a b P h = h
by_test false a b P h = refl

after_append : (a b P : List ℕ) → option_and_then (after b) (after a P) ≡ after (a ++ b) P
unfolding after
after_append [] b P = refl
after_append (x ∷ a) b [] = refl
after_append (x ∷ a) b (y ∷ P) = by_test (eqb x y) a b P (after_append a b P)

some : (o : Option (List ℕ)) → o ≡ option_and_then (after []) o
unfolding after
some None = refl
some (Some P) = refl

then : (a b : List ℕ) (o : Option (List ℕ)) → option_and_then (after b) (option_and_then (after a) o) ≡ option_and_then (after (a ++ b)) o
then a b None = refl
then a b (Some P) = after_append a b P

pub meet_laws : SinkLaws meet_fits Met
meet_laws = record {
  none = λ s. record { left = some (rest_of s) };
  more = λ a b s t u x y. record { left = y.left ∙ ap (option_and_then (after b)) x.left ∙ then a b (rest_of s) };
  fewer = λ m n s l f. tt;
  rest = λ a n s t x f. tt;
}
