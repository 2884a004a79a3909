-- The pieces are the edge by its parts; each fits because the edge does.
use Rattle.std.proofs.Common.{[], ◌∷◌, ◌++◌, sym}
use Rattle.rules.specs.Graph.{name}
use Rattle.graph_words.specs.Forms.{rule}
use Rattle.graphs.specs.Entries.{spot_in, begin_in}
use Rattle.put.proofs.Sinks.{then, front, back, room_of, put_as}
use Rattle.graphs.proofs.Entries.{edge_led}
use Rattle.graphs.proofs.walk.edge.Goals as goal

pub begin-requires-clause-room : goal.begin-requires-clause-room
begin-requires-clause-room g c =
    let w = c.args.walk.now in
    let laws = g.met.S.Sink.laws in
    let f = rule w.form in
    let a = begin_in f w.table.now c.args.k in
    let b = 32 ∷ 45 ∷ 45 ∷ 32 ∷ [] in
    let n = name f (spot_in w.table.now c.args.m) in
    front laws a b (front laws (a ++ b) n (room_of laws (edge_led f (spot_in w.table.now c.args.k) (spot_in w.table.now c.args.m)) c.requires.room))

pub bytes-requires : goal.bytes-requires
bytes-requires g c =
    let w = c.args.walk.now in
    let laws = g.met.S.Sink.laws in
    let f = rule w.form in
    let a = begin_in f w.table.now c.args.k in
    let b = 32 ∷ 45 ∷ 45 ∷ 32 ∷ [] in
    let n = name f (spot_in w.table.now c.args.m) in
    back laws a b (front laws (a ++ b) n (room_of laws (edge_led f (spot_in w.table.now c.args.k) (spot_in w.table.now c.args.m)) c.requires.room)) c.begin.ensures

pub name_of-requires-clause-room : goal.name_of-requires-clause-room
name_of-requires-clause-room g c =
    let w = c.args.walk.now in
    let laws = g.met.S.Sink.laws in
    let f = rule w.form in
    let a = begin_in f w.table.now c.args.k in
    let b = 32 ∷ 45 ∷ 45 ∷ 32 ∷ [] in
    let n = name f (spot_in w.table.now c.args.m) in
    back laws (a ++ b) n (room_of laws (edge_led f (spot_in w.table.now c.args.k) (spot_in w.table.now c.args.m)) c.requires.room) (then laws c.begin.ensures c.bytes.ensures)

pub returns : goal.returns
returns g c =
    let w = c.args.walk.now in
    let laws = g.met.S.Sink.laws in
    put_as laws (sym (edge_led (rule w.form) (spot_in w.table.now c.args.k) (spot_in w.table.now c.args.m)))
    (then laws (then laws c.begin.ensures c.bytes.ensures) c.name_of.ensures)
