-- The node's entry and then its edges.
use Rattle.std.proofs.Common.{◌+◌}
use Rattle.rules.specs.Plan.{depth_in}
use Rattle.graph_words.specs.Forms.{rule}
use Rattle.put.proofs.Sinks.{then, front, back}
use Rattle.graphs.specs.Entries.{node_in, edges_in, backward, cell_entries}
use Rattle.graphs.proofs.walk.cell.Goals as goal

pub node-requires-clause-room : goal.node-requires-clause-room
unfolding cell_entries
node-requires-clause-room g c =
    let w = c.args.walk.now in
    let f = rule w.form in
    front g.met.S.Sink.laws (node_in f (g.L.Labels.plan c.args.labels.now) c.args.k)
    (edges_in f w.table.now c.args.k (backward w.given w.table.now c.args.k c.args.end (depth_in w.table.now c.args.k + 1))) c.requires.room

pub edges-requires-clause-room : goal.edges-requires-clause-room
unfolding cell_entries
edges-requires-clause-room g c =
    let w = c.args.walk.now in
    let f = rule w.form in
    back g.met.S.Sink.laws (node_in f (g.L.Labels.plan c.args.labels.now) c.args.k)
    (edges_in f w.table.now c.args.k (backward w.given w.table.now c.args.k c.args.end (depth_in w.table.now c.args.k + 1))) c.requires.room c.node.ensures

pub returns : goal.returns
unfolding cell_entries
returns g c = then g.met.S.Sink.laws c.node.ensures c.edges.ensures
