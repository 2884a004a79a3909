-- The loop's invariant: k has a cell in the row or is the end, and what is left to put are the row's entries from k on.
use Rattle.std.proofs.Common.{◌≡◌, true, ◌≤◌, ◌<◌, ◌-◌}
use Rattle.rules.specs.Base.{concat}
use Rattle.levels.specs.Cells.{cell_in}
use Rattle.graph_words.specs.Forms.{rule}
use Rattle.graphs.specs.Entries.{lead, row_entries}
use Rattle.put.proofs.Sinks.{Left}
use Rattle.graphs.proofs.Rows.{row_from}
use Rattle.graphs.proofs.walk.row.Given as goal

abbrev pub invariant-loop-k : goal.invariant-loop-k
invariant-loop-k g l = (l.k ≤ l.nodes) × (l.k < l.nodes → cell_in l.walk.given l.walk.table.now l.depth l.k ≡ true)
    × Left g.S.Sink.fits g.S.Sink.puts (concat lead (row_entries (rule l.walk.form) (g.L.Labels.plan l.labels) l.depth))
    (row_from (rule l.walk.form) l.walk.table.now (g.L.Labels.plan l.labels) l.depth l.k) l.initial.to l.to

abbrev pub decreases-loop-k : goal.decreases-loop-k
decreases-loop-k g l = l.nodes - l.k
