-- The pieces are the node by its parts; each fits because the node does.
use Rattle.std.proofs.Common.{◌++◌, sym}
use Rattle.graph_words.specs.Forms.{rule}
use Rattle.graphs.specs.Entries.{begin_in}
use Rattle.put.proofs.Sinks.{then, front, back, room_of, put_as}
use Rattle.graphs.proofs.Entries.{node_label, opens, closes}
use Rattle.graphs.proofs.walk.node.Goals as goal

pub begin-requires-clause-room : goal.begin-requires-clause-room
begin-requires-clause-room g c =
    let w = c.args.walk.now in
    let laws = g.met.S.Sink.laws in
    let a = begin_in (rule w.form) w.table.now c.args.k in
    let t = g.L.Labels.label c.args.labels.now c.args.k in
    let r = room_of laws (node_label (rule w.form) c.requires.labelled c.args.k c.requires.node_in_table) c.requires.room in
    front laws a opens (front laws (a ++ opens) t (front laws (a ++ opens ++ t) closes r))

pub bytes-requires : goal.bytes-requires
bytes-requires g c =
    let w = c.args.walk.now in
    let laws = g.met.S.Sink.laws in
    let a = begin_in (rule w.form) w.table.now c.args.k in
    let t = g.L.Labels.label c.args.labels.now c.args.k in
    let r = room_of laws (node_label (rule w.form) c.requires.labelled c.args.k c.requires.node_in_table) c.requires.room in
    back laws a opens (front laws (a ++ opens) t (front laws (a ++ opens ++ t) closes r)) c.begin.ensures

pub put-requires-clause-room : goal.put-requires-clause-room
put-requires-clause-room g c =
    let w = c.args.walk.now in
    let laws = g.met.S.Sink.laws in
    let a = begin_in (rule w.form) w.table.now c.args.k in
    let t = g.L.Labels.label c.args.labels.now c.args.k in
    let r = room_of laws (node_label (rule w.form) c.requires.labelled c.args.k c.requires.node_in_table) c.requires.room in
    back laws (a ++ opens) t (front laws (a ++ opens ++ t) closes r) (then laws c.begin.ensures c.bytes.ensures)

pub bytes-requires-2 : goal.bytes-requires-2
bytes-requires-2 g c =
    let w = c.args.walk.now in
    let laws = g.met.S.Sink.laws in
    let a = begin_in (rule w.form) w.table.now c.args.k in
    let t = g.L.Labels.label c.args.labels.now c.args.k in
    let r = room_of laws (node_label (rule w.form) c.requires.labelled c.args.k c.requires.node_in_table) c.requires.room in
    back laws (a ++ opens ++ t) closes r (then laws (then laws c.begin.ensures c.bytes.ensures) c.put.ensures)

pub returns : goal.returns
returns g c =
    let laws = g.met.S.Sink.laws in
    put_as laws (sym (node_label (rule c.args.walk.now.form) c.requires.labelled c.args.k c.requires.node_in_table))
    (then laws (then laws (then laws c.begin.ensures c.bytes.ensures) c.put.ensures) c.bytes-2.ensures)
