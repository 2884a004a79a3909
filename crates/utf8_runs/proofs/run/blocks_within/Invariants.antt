-- All bytes that were passed lie within bounds.
use Rattle.std.proofs.Common.{◌≤◌, ◌-◌, length}
use Rattle.utf8_runs.specs.Within.{Within}
use Rattle.utf8_runs.proofs.run.blocks_within.Given as goal

abbrev pub invariant-loop-at : goal.invariant-loop-at
invariant-loop-at g l = (l.from ≤ l.at) × (l.at ≤ length l.s) × Within l.s l.low l.high l.from l.at

abbrev pub decreases-loop-at : goal.decreases-loop-at
decreases-loop-at g l = length l.s - l.at
