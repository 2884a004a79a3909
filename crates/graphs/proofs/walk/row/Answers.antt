-- Each turn keeps the invariant: k has a cell in the row or is the end, and what is left to put are the row's entries from k on.
use Rattle.std.proofs.Common.{rules, ap, sym, ◌∙◌, ◌+◌, ◌/◌, length, arith}
use Rattle.graph_words.specs.Forms.{rule}
use Rattle.graphs.specs.Entries.{cell_entries, is_some}
use Rattle.put.proofs.Sinks.{all, step, next_fits, end}
use Rattle.graphs.proofs.Rows.{counted, row_from, row_whole, reached, row_cell, row_out, row_is_some}
use Rattle.graphs.proofs.walk.row.Goals as goal

pub loop-k-init : goal.loop-k-init
loop-k-init g c =
    let a = c.args in
    let w = a.walk.now in
    let f = rule w.form in
    let s = c.requires.labelled.shows in
    let r = reached s f a.depth (length w.table.now / 3) 0 c.next_cell-k.result (counted w.table.now) c.next_cell-k.ensures (search rules) in
    (r.high, r.has, rw (← r.same, ← row_whole s f a.depth) (all g.met.S.Sink.laws _ c.requires.room))

pub cell-requires-clause-node_before_end : goal.cell-requires-clause-node_before_end
cell-requires-clause-node_before_end g c =
    let a = c.args in
    let w = a.walk.now in
    let l = c.loop-k in
    let e = c.next_cell-end in
    let r = reached c.requires.labelled.shows (rule w.form) a.depth (length w.table.now / 3) (l.k + 1) e.result (counted w.table.now) e.ensures (search rules) in
    (omega (arith, r.low), omega (arith, r.high, counted w.table.now))

pub cell-requires-clause-room : goal.cell-requires-clause-room
cell-requires-clause-room g c =
    let a = c.args in
    let w = a.walk.now in
    let f = rule w.form in
    let l = c.loop-k in
    let e = c.next_cell-end in
    let p = g.L.Labels.plan a.labels.now in
    next_fits g.met.S.Sink.laws (cell_entries f w.given w.table.now p l.k e.result) (row_from f w.table.now p a.depth e.result) l.invariant.2
    (row_cell c.requires.labelled.shows f a.depth (length w.table.now / 3) l.k e.result (counted w.table.now) e.ensures (search rules) (l.invariant.1 (search rules)))

pub loop-k-smaller : goal.loop-k-smaller
loop-k-smaller g c =
    let a = c.args in
    let w = a.walk.now in
    let l = c.loop-k in
    let e = c.next_cell-end in
    let r = reached c.requires.labelled.shows (rule w.form) a.depth (length w.table.now / 3) (l.k + 1) e.result (counted w.table.now) e.ensures (search rules) in
    omega (arith, r.low, r.high)

pub loop-k-preserved : goal.loop-k-preserved
loop-k-preserved g c =
    let a = c.args in
    let w = a.walk.now in
    let f = rule w.form in
    let l = c.loop-k in
    let e = c.next_cell-end in
    let s = c.requires.labelled.shows in
    let p = g.L.Labels.plan a.labels.now in
    let r = reached s f a.depth (length w.table.now / 3) (l.k + 1) e.result (counted w.table.now) e.ensures (search rules) in (
      r.high,
      r.has,
      step g.met.S.Sink.laws (cell_entries f w.given w.table.now p l.k e.result) (row_from f w.table.now p a.depth e.result) l.invariant.2
          (row_cell s f a.depth (length w.table.now / 3) l.k e.result (counted w.table.now) e.ensures (search rules) (l.invariant.1 (search rules))) c.cell.ensures,
    )

pub returns-clause-some : goal.returns-clause-some
returns-clause-some g c =
    let a = c.args in
    let w = a.walk.now in
    let f = rule w.form in
    let s = c.requires.labelled.shows in
    let k = c.next_cell-k in
    let n = length w.table.now / 3 in
    let r = reached s f a.depth n 0 k.result (counted w.table.now) k.ensures (search rules) in
    sym (ap is_some (row_whole s f a.depth ∙ r.same) ∙ row_is_some s f a.depth n k.result (counted w.table.now) r.high r.has)

pub returns-clause-put : goal.returns-clause-put
returns-clause-put g c =
    let a = c.args in
    let w = a.walk.now in
    let l = c.loop-k in
    end g.met.S.Sink.laws l.invariant.2
    (row_out c.requires.labelled.shows (rule w.form) a.depth (length w.table.now / 3) l.k (counted w.table.now) l.invariant.0 (search rules))
