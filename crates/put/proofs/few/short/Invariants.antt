-- The loop's invariant: what is left to put is the rest of the text.
use Rattle.std.proofs.Common.{drop}
use Rattle.put.proofs.Sinks.{Left}
use Rattle.put.proofs.few.short.Given as goal

abbrev pub invariant-loop-b : goal.invariant-loop-b
invariant-loop-b g l = Left g.S.Sink.fits g.S.Sink.puts l.text (drop l.b-index l.text) l.initial.to l.to
