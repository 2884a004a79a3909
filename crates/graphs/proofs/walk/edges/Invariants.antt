-- The loop's invariant: what is left to put are the edges to m and to the nodes met after it.
use Rattle.std.proofs.Common.{◌≤◌, ◌<◌, ◌+◌}
use Rattle.rules.specs.Plan.{depth_in}
use Rattle.graph_words.specs.Forms.{rule}
use Rattle.graphs.specs.Entries.{edges_in, backward}
use Rattle.put.proofs.Sinks.{Left}
use Rattle.graphs.proofs.Backward.{onward}
use Rattle.graphs.proofs.walk.edges.Given as goal

abbrev pub invariant-loop-m : goal.invariant-loop-m
invariant-loop-m g l = (l.k ≤ l.m) × (l.m < l.end)
    × Left g.S.Sink.fits g.S.Sink.puts (edges_in (rule l.walk.form) l.walk.table.now l.k (backward l.walk.given l.walk.table.now l.k l.end (depth_in l.walk.table.now l.k + 1)))
    (edges_in (rule l.walk.form) l.walk.table.now l.k (onward l.walk.given l.walk.table.now l.k (depth_in l.walk.table.now l.k + 1) l.m)) l.initial.to l.to

abbrev pub decreases-loop-m : goal.decreases-loop-m
decreases-loop-m g l = l.m
