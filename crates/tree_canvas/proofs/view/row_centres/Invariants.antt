-- The centres of the first i rows are filled in.
use Rattle.std.proofs.Common.{◌≡◌, ℕ, ◌<◌, length, get_or}
use Rattle.rules.specs.Levels.{view}
use Rattle.rules.specs.Measures as M
use Rattle.levels.specs.Handed.{plan_in}
use Rattle.tree_canvas.proofs.view.row_centres.Given as goal

abbrev pub invariant-loop-i : goal.invariant-loop-i
invariant-loop-i l = record {
  sized : length l.cy ≡ 32;
  filled : (j : ℕ) → j < l.i → get_or l.cy j 0 ≡ M.cy (view (plan_in l.view.shown)) j;
}
