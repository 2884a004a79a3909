-- What `==` tells of two slices of numbers is whether they are the same.
use Rattle.std.proofs.Common.{◌≡◌, refl, List, ℕ, Bool, eqb}
use Rattle.std.specs.Cmp.Lexicographic.{pointwise}
use Rattle.std.proofs.lemmas.Bool.Decides.{Decides-eqb, same_from_decides}
use Rattle.std.proofs.lemmas.Slice.Eq.{slice_eq-Decides, compares_Decides}
use Rattle.rules.specs.Base.{same}

pub same_slices : (a b : List ℕ) (r : Bool) → r ≡ pointwise eqb a b → r ≡ same a b
unfolding same
same_slices a b r h =
    same_from_decides r (same a b) (slice_eq-Decides Decides-eqb a b r h)
    (compares_Decides same (record { empty = refl; shorter = λ y ys. refl; longer = λ x xs. refl; heads = λ x y xs ys. refl }) a b)
