-- Each turn keeps the invariant: what is left to put is the rest of the text.
use Rattle.std.proofs.Common.{rules, [], ◌∷◌, ◌+◌, get_or, drop}
use Rattle.std.proofs.Math.ListN.{drop_of_length-le}
use Rattle.put.proofs.Puts.{one}
use Rattle.put.proofs.Sinks.{all, step, next_fits, end}
use Rattle.put.proofs.few.short.Goals as goal

pub loop-b-init : goal.loop-b-init
loop-b-init g c = all g.met.S.Sink.laws c.args.text.now c.requires

pub byte-requires : goal.byte-requires
byte-requires g c =
    let l = c.loop-b in
    let s = c.args.text.now in
    next_fits g.met.S.Sink.laws (get_or s l.b-index 0 ∷ []) (drop (l.b-index + 1) s) l.invariant (one s l.b-index (search rules))

pub loop-b-preserved : goal.loop-b-preserved
loop-b-preserved g c =
    let l = c.loop-b in
    let s = c.args.text.now in
    step g.met.S.Sink.laws (get_or s l.b-index 0 ∷ []) (drop (l.b-index + 1) s) l.invariant (one s l.b-index (search rules)) c.byte.ensures

pub returns-after-loop-b : goal.returns-after-loop-b
returns-after-loop-b g c =
    let l = c.loop-b in
    let s = c.args.text.now in
    end g.met.S.Sink.laws l.invariant (drop_of_length-le s {i = l.b-index} (search rules))
