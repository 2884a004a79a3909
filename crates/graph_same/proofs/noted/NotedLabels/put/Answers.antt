-- A node of the plan is one that was noted.
use Rattle.std.proofs.Common.{arith}
use Rattle.graph_scan.proofs.Plans.{plan_length}
use Rattle.graph_same.proofs.noted.NotedLabels.put.Goals as goal

pub label-requires : goal.label-requires
label-requires g c = let n = c.args.self.now.noted in (n, omega (arith, c.requires.of_plan, plan_length n))
