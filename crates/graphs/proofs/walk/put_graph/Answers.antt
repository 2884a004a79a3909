-- The pieces are the graph by its parts; each fits because the graph does.
use Rattle.std.proofs.Common.{◌++◌, ap, sym}
use Rattle.rules.specs.Base.{concat}
use Rattle.graph_words.specs.Forms.{rule}
use Rattle.graphs.specs.Entries.{lead, all_entries, is_some, closing_by}
use Rattle.put.proofs.Sinks.{then, front, back, room_of, put_as}
use Rattle.graphs.proofs.Joined.{opening, graph_whole, graph_put}
use Rattle.graphs.proofs.walk.put_graph.Goals as goal

pub bytes-requires : goal.bytes-requires
bytes-requires g c =
    let f = rule c.args.walk.now.form in
    let p = g.L.Labels.plan c.args.labels.now in
    let laws = g.met.S.Sink.laws in
    let e = concat lead (all_entries f p) in
    front laws opening e (front laws (opening ++ e) (closing_by (is_some e)) (room_of laws (graph_whole f p) c.requires.room))

pub entries-some-requires-clause-room : goal.entries-some-requires-clause-room
entries-some-requires-clause-room g c =
    let f = rule c.args.walk.now.form in
    let p = g.L.Labels.plan c.args.labels.now in
    let laws = g.met.S.Sink.laws in
    let e = concat lead (all_entries f p) in
    back laws opening e (front laws (opening ++ e) (closing_by (is_some e)) (room_of laws (graph_whole f p) c.requires.room)) c.bytes.ensures

pub closing-requires : goal.closing-requires
closing-requires g c =
    let f = rule c.args.walk.now.form in
    let p = g.L.Labels.plan c.args.labels.now in
    let laws = g.met.S.Sink.laws in
    let e = concat lead (all_entries f p) in
    room_of laws (ap closing_by (sym c.entries-some.ensures.some))
    (back laws (opening ++ e) (closing_by (is_some e)) (room_of laws (graph_whole f p) c.requires.room) (then laws c.bytes.ensures c.entries-some.ensures.put))

pub returns : goal.returns
returns g c =
    let f = rule c.args.walk.now.form in
    let p = g.L.Labels.plan c.args.labels.now in
    let laws = g.met.S.Sink.laws in
    graph_put laws f p c.bytes.ensures c.entries-some.ensures.put (put_as laws (ap closing_by c.entries-some.ensures.some) c.closing.ensures)
