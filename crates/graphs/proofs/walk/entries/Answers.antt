-- Each turn keeps the invariant: the entries of the rows before i are put, and it is told whether there is one.
use Rattle.std.proofs.Common.{◌≡◌, ap, sym, ◌∙◌, length, arith}
use mathlib.Core.Bool.{◌||◌}
use Rattle.rules.specs.Base.{concat}
use Rattle.rules.specs.Levels.{view}
use Rattle.levels.proofs.Shown.{rows_view}
use Rattle.graph_words.specs.Forms.{rule}
use Rattle.graphs.specs.Entries.{lead, row_entries, entries_in, all_entries, is_some}
use Rattle.put.proofs.Sinks.{then, after, put_as}
use Rattle.graphs.proofs.AllRows.{no_rows, one_row_more, one_row_some, row_fits}
use Rattle.graphs.proofs.walk.entries.Goals as goal

pub loop-i-init : goal.loop-i-init
loop-i-init g c =
    let f = rule c.args.walk.now.form in
    let p = g.L.Labels.plan c.args.labels.now in
    (sym (ap is_some (no_rows f p)), put_as g.met.S.Sink.laws (sym (no_rows f p)) (g.met.S.Sink.laws.none c.args.to.now))

pub row-some-requires-clause-room : goal.row-some-requires-clause-room
row-some-requires-clause-room g c =
    let f = rule c.args.walk.now.form in
    let p = g.L.Labels.plan c.args.labels.now in
    let l = c.loop-i in
    after g.met.S.Sink.laws (length (concat lead (row_entries f p l.i))) (length (concat lead (all_entries f p))) l.invariant.1
    (row_fits f p l.i (view p).rows (omega (arith, rows_view c.requires.labelled.shows c.rows-rows.result c.rows-rows.ensures))) c.requires.room

pub loop-i-preserved : goal.loop-i-preserved
loop-i-preserved g c =
    let f = rule c.args.walk.now.form in
    let p = g.L.Labels.plan c.args.labels.now in
    let l = c.loop-i in (
      ap (λ b. b || c.row-some.result) l.invariant.0
          ∙ ap (λ b. is_some (concat lead (entries_in f p l.i)) || b) c.row-some.ensures.some
          ∙ sym (one_row_some f p l.i),
      put_as g.met.S.Sink.laws (sym (one_row_more f p l.i)) (then g.met.S.Sink.laws l.invariant.1 c.row-some.ensures.put),
    )

pub returns-clause-some : goal.returns-clause-some
returns-clause-some g c =
    let l = c.loop-i in
    let e : l.i ≡ (view (g.L.Labels.plan c.args.labels.now)).rows = omega (arith, rows_view c.requires.labelled.shows c.rows-rows.result c.rows-rows.ensures) in
    rw e at l.invariant.0

pub returns-clause-put : goal.returns-clause-put
returns-clause-put g c =
    let l = c.loop-i in
    let e : l.i ≡ (view (g.L.Labels.plan c.args.labels.now)).rows = omega (arith, rows_view c.requires.labelled.shows c.rows-rows.result c.rows-rows.ensures) in
    rw e at l.invariant.1
