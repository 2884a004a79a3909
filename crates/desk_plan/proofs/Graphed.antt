-- An input begins as a fenced graph does where its first five bytes are the word.
use Rattle.std.proofs.Common.{◌≡◌, sym, ap, List, ℕ, ◌≤◌, Bool, leb, eqb, length, take, length-take, arith}
use Rattle.std.specs.Bool.{Decides}
use Rattle.std.specs.Cmp.Lexicographic.{pointwise}
use Rattle.std.proofs.lemmas.Bool.Decides.{Decides-eqb, same_from_decides}
use Rattle.std.proofs.lemmas.Slice.Eq.{slice_eq-Decides}
use borrow.Author.Tests.{le-leb}
use Rattle.rules.specs.Base.{same, pick, concat}
use Rattle.rules.specs.Utf8.{utf8}
use Rattle.rules.specs.Lines.{letters, bytes}
use Rattle.rules.proofs.Accepts.{same_true}
use Rattle.rules.proofs.Tests.{both}
use Rattle.desk_plan.specs.Loads.{graphed}

tells : (F : List ℕ) → Decides (graphed F) (bytes "graph" ≡ take 5 F)
unfolding graphed same bytes concat letters utf8 pick
tells F = (
  λ e. sym (same_true (take 5 F) (bytes "graph") (both (leb 5 (length F)) (same (take 5 F) (bytes "graph")) e).1),
  λ h.
      (let l : 5 ≤ length F = omega (arith, ap length h, length-take 5 F) in
      rw (le-leb 5 (length F) l, ← h)),
)

pub first_word : (F : List ℕ) (r : Bool) → r ≡ pointwise eqb (bytes "graph") (take 5 F) → r ≡ graphed F
first_word F r h = same_from_decides r (graphed F) (slice_eq-Decides Decides-eqb (bytes "graph") (take 5 F) r h) (tells F)
