-- The loop's invariant: the entries of the rows before i are put, and it is told whether there is one.
use Rattle.std.proofs.Common.{◌≡◌}
use Rattle.rules.specs.Base.{concat}
use Rattle.graph_words.specs.Forms.{rule}
use Rattle.graphs.specs.Entries.{lead, entries_in, is_some}
use Rattle.graphs.proofs.walk.entries.Given as goal

abbrev pub invariant-loop-i : goal.invariant-loop-i
invariant-loop-i g l = (l.some ≡ is_some (concat lead (entries_in (rule l.walk.form) (g.L.Labels.plan l.labels) l.i)))
    × g.S.Sink.puts (concat lead (entries_in (rule l.walk.form) (g.L.Labels.plan l.labels) l.i)) l.initial.to l.to
