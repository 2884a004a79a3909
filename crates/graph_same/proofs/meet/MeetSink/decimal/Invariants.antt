-- The loop's invariant: the digits before the i-th were put.
use Rattle.std.proofs.Common.{take}
use Rattle.rules.specs.Lines.{digits}
use Rattle.graph_same.specs.Met.{Met}
use Rattle.graph_same.proofs.meet.MeetSink.decimal.Given as goal

abbrev pub invariant-loop-i : goal.invariant-loop-i
invariant-loop-i l = Met (take l.i (digits l.n)) l.initial.self l.self
