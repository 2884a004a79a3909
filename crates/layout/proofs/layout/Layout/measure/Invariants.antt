-- The titles before k are measured.
use Rattle.std.proofs.Common.{◌≡◌, [], replicate}
use Rattle.rules.specs.Plan.{count, plan_of}
use Rattle.rules.specs.Levels.{column_at, columns_of}
use Rattle.rules.specs.Look.{len_of}
use Rattle.levels.specs.Filled.{filled}
use Rattle.levels.specs.Handed.{plan_in}
use Rattle.tree_view.specs.Measured.{lines_at, longest_at}
use Rattle.layout.proofs.layout.Layout.measure.Given as goal

abbrev pub invariant-loop-k : goal.invariant-loop-k
invariant-loop-k l = record {
  nodes : l.self.nodes ≡ count l.shown.plan.table.now;
  columns : l.self.ncols ≡ columns_of (plan_of l.shown.plan.table.now []);
  column : l.self.column ≡ filled (column_at (plan_of l.shown.plan.table.now [])) 0 (count l.shown.plan.table.now) (replicate 256 0);
  lines : l.self.lines ≡ filled (lines_at (plan_in l.shown)) 0 l.k (replicate 256 0);
  longest : l.self.longest ≡ filled (longest_at (len_of l.measure) (plan_in l.shown)) 0 l.k (replicate 256 0);
}
