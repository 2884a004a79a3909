-- What stands before an entry, and the name; each fits because both do.
use Rattle.std.proofs.Common.{[], ◌∷◌, sym}
use Rattle.rules.specs.Graph.{name}
use Rattle.graph_words.specs.Forms.{rule}
use Rattle.graphs.specs.Entries.{spot_in}
use Rattle.put.proofs.Sinks.{then, front, back, room_of, put_as}
use Rattle.graphs.proofs.Entries.{lead_parts}
use Rattle.graphs.proofs.walk.begin.Goals as goal

pub bytes-requires : goal.bytes-requires
bytes-requires g c =
    let w = c.args.walk.now in
    let laws = g.met.S.Sink.laws in
    let n = name (rule w.form) (spot_in w.table.now c.args.k) in
    front laws (10 ∷ 32 ∷ 32 ∷ 32 ∷ 32 ∷ []) n (room_of laws (lead_parts n) c.requires.room)

pub name_of-requires-clause-room : goal.name_of-requires-clause-room
name_of-requires-clause-room g c =
    let w = c.args.walk.now in
    let laws = g.met.S.Sink.laws in
    let n = name (rule w.form) (spot_in w.table.now c.args.k) in
    back laws (10 ∷ 32 ∷ 32 ∷ 32 ∷ 32 ∷ []) n (room_of laws (lead_parts n) c.requires.room) c.bytes.ensures

pub returns : goal.returns
returns g c =
    let w = c.args.walk.now in
    let laws = g.met.S.Sink.laws in
    put_as laws (sym (lead_parts (name (rule w.form) (spot_in w.table.now c.args.k)))) (then laws c.bytes.ensures c.name_of.ensures)
