-- What the table and the columns say of node k is its place.
use Rattle.std.proofs.Common.{sym}
use Rattle.graph_words.specs.Forms.{rule}
use Rattle.put.proofs.Sinks.{room_of, put_as}
use Rattle.graphs.proofs.Entries.{row_small, column_small, name_read}
use Rattle.graphs.proofs.walk.name_of.Goals as goal

pub name-requires : goal.name-requires
name-requires g c =
    let w = c.args.walk.now in
    let h = c.requires.node_in_table in
    (row_small w.ready c.args.k h, column_small w.ready c.args.k h, room_of g.met.S.Sink.laws (name_read w.ready (rule w.form) c.args.k h) c.requires.room)

pub returns : goal.returns
returns g c =
    let w = c.args.walk.now in
    put_as g.met.S.Sink.laws (sym (name_read w.ready (rule w.form) c.args.k c.requires.node_in_table)) c.name.ensures
