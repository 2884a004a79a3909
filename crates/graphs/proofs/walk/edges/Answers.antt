-- Each turn keeps the invariant: what is left to put are the edges to m and to the nodes met after it.
use Rattle.std.proofs.Common.{rules, ◌+◌, arith}
use Rattle.rules.specs.Plan.{depth_in}
use Rattle.levels.specs.Cells.{previous_cell}
use Rattle.graph_words.specs.Forms.{rule}
use Rattle.graphs.specs.Entries.{edge_in, edges_in}
use Rattle.put.proofs.Sinks.{all, step, next_fits, end}
use Rattle.graphs.proofs.Backward.{onward, met, edges_some, edges_none}
use Rattle.graphs.proofs.walk.edges.Goals as goal

pub overflow_add-depth : goal.overflow_add-depth
unfolding depth_in
overflow_add-depth g c = omega (arith, c.args.walk.now.ready.depths c.args.k (search rules))

pub loop-m-init : goal.loop-m-init
unfolding depth_in
loop-m-init g c =
    let a = c.args in
    let w = a.walk.now in
    let r = met w.given w.table.now a.k (depth_in w.table.now a.k + 1) a.end (search rules) in
    rw c.previous_cell-m.ensures (r.low, r.high, rw (← r.meets) (all g.met.S.Sink.laws _ c.requires.room))

pub edge-requires-clause-room : goal.edge-requires-clause-room
edge-requires-clause-room g c =
    let a = c.args in
    let w = a.walk.now in
    let l = c.loop-m in
    let i = depth_in w.table.now a.k + 1 in
    let f = rule w.form in
    next_fits g.met.S.Sink.laws (edge_in f w.table.now a.k l.m) (edges_in f w.table.now a.k (onward w.given w.table.now a.k i (previous_cell w.given w.table.now a.k l.m i)))
    l.invariant.2 (edges_some f w.given w.table.now a.k i l.m (search rules))

pub loop-m-smaller : goal.loop-m-smaller
unfolding depth_in
loop-m-smaller g c =
    let a = c.args in
    let w = a.walk.now in
    let l = c.loop-m in
    rw c.previous_cell-m-in-loop-m.ensures (met w.given w.table.now a.k (depth_in w.table.now a.k + 1) l.m (search rules)).high

pub loop-m-preserved : goal.loop-m-preserved
unfolding depth_in
loop-m-preserved g c =
    let a = c.args in
    let w = a.walk.now in
    let l = c.loop-m in
    let i = depth_in w.table.now a.k + 1 in
    let f = rule w.form in
    let r = met w.given w.table.now a.k i l.m (search rules) in
    rw c.previous_cell-m-in-loop-m.ensures (
      r.low,
      (let h = r.high in search rules),
      step g.met.S.Sink.laws (edge_in f w.table.now a.k l.m) (edges_in f w.table.now a.k (onward w.given w.table.now a.k i (previous_cell w.given w.table.now a.k l.m i)))
          l.invariant.2 (edges_some f w.given w.table.now a.k i l.m (search rules)) c.edge.ensures,
    )

pub returns : goal.returns
returns g c =
    let a = c.args in
    let w = a.walk.now in
    let l = c.loop-m in
    end g.met.S.Sink.laws l.invariant.2 (edges_none (rule w.form) w.given w.table.now a.k (depth_in w.table.now a.k + 1) l.m (search rules))
