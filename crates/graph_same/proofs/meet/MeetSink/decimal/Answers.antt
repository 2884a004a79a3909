-- Each turn keeps the invariant: one more digit is put.
use Rattle.std.proofs.Common.{rules, sym, ap, [], ◌∷◌}
use Rattle.std.proofs.lemmas.List.{take_more, take_all}
use Rattle.rules.specs.Lines.{digits}
use Rattle.put.proofs.Sinks.{then, put_as}
use Rattle.graph_same.specs.Met.{meet_laws}
use Rattle.graph_same.proofs.meet.MeetSink.decimal.Goals as goal

pub loop-i-init : goal.loop-i-init
loop-i-init c = meet_laws.none c.args.self.now

pub loop-i-preserved : goal.loop-i-preserved
loop-i-preserved c =
    let l = c.loop-i in
    let d = digits c.args.n in
    put_as meet_laws (sym (take_more d l.i 0 (search rules))) (then meet_laws l.invariant (put_as meet_laws (ap (λ b. b ∷ []) c.digit.ensures) c.byte.ensures))

pub returns : goal.returns
returns c =
    let l = c.loop-i in
    put_as meet_laws (take_all l.i (digits c.args.n) (search rules)) l.invariant
