-- The strips before k begin where they are to, and the next begins at `at`.
use Rattle.std.proofs.Common.{◌≡◌, get_or}
use Rattle.levels.specs.Filled.{filled}
use Rattle.tree_view.specs.Sizes.{after}
use Rattle.tree_view.proofs.strips.Strips.line_up.Given as goal

abbrev pub invariant-loop-k : goal.invariant-loop-k
invariant-loop-k g l = record {
  next : l.at ≡ after (λ k. get_or l.initial.self.size k 0) l.start l.gap l.k;
  offset : l.self.offset ≡ filled (after (λ k. get_or l.initial.self.size k 0) l.start l.gap) 0 l.k l.initial.self.offset;
  size : l.self.size ≡ l.initial.self.size;
  center : l.self.center ≡ l.initial.self.center;
}
