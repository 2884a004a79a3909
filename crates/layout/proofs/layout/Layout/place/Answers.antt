-- Rows, digits, columns, and the canvas' size: each answer of `tree_view` is the rules', for the measures that were filled.
use Rattle.std.proofs.Common.{◌<◌, refl, ap, replicate, arith}
use Rattle.rules.specs.Levels.{view}
use Rattle.rules.specs.Look.{len_of}
use Rattle.text.proofs.Counted.{len_most}
use Rattle.levels.specs.Handed.{plan_in}
use Rattle.levels.proofs.Shown.{shows, small, count_view, rows_view}
use Rattle.levels.proofs.Handed.{showable}
use Rattle.tree_view.specs.declared.strips.Strips.{Strips}
use Rattle.tree_view.proofs.Limits.{d_le, columns_le, rows_le}
use Rattle.tree_view.proofs.Ruled.{column_offset_at}
use Rattle.tree_view.proofs.Whole.{digits_asks, digits_ruled, columns_ask, rows_ask, width_asks, width_answers, height_asks, height_answers}
use Rattle.layout.proofs.Measured.{columns_answered, rows_answered}
use Rattle.layout.proofs.layout.Layout.place.Goals as goal

pub rows-self-requires-clause-depths_below_32 : goal.rows-self-requires-clause-depths_below_32
rows-self-requires-clause-depths_below_32 c = λ k h. (shows (showable c.args.shown.now)).deep k (omega (arith, c.requires.nodes))

pub index_digits-digits-requires : goal.index_digits-digits-requires
index_digits-digits-requires c =
    let a = shows (showable c.args.shown.now) in
    digits_asks a c.args.self.now.nodes c.requires.nodes c.rows-self.result (rows_view a c.rows-self.result c.rows-self.ensures)

pub overflow_add-digits : goal.overflow_add-digits
overflow_add-digits c =
    let a = shows (showable c.args.shown.now) in
    let r = rows_view a c.rows-self.result c.rows-self.ensures in
    let e = digits_ruled a c.args.self.now.nodes c.requires.nodes c.rows-self.result c.index_digits-digits.result r c.index_digits-digits.ensures in
    record { fits = omega (arith, e, d_le (plan_in c.args.shown.now) (small a)) }

pub tree_columns-columns-requires-clause-wide : goal.tree_columns-columns-requires-clause-wide
tree_columns-columns-requires-clause-wide c =
    let m = c.requires.measured in
    columns_ask (shows (showable c.args.shown.now)) c.args.self.now.nodes c.requires.nodes (len_of c.args.measure) (len_most c.args.measure) c.args.self.now.column c.args.self.now.longest
    (replicate 256 0) (replicate 256 0) (rw c.requires.nodes m.columns_are) refl (rw c.requires.nodes m.longest_are) refl

pub tree_columns-columns-requires-clause-count_bound : goal.tree_columns-columns-requires-clause-count_bound
tree_columns-columns-requires-clause-count_bound c =
    let a = shows (showable c.args.shown.now) in
    let p = plan_in c.args.shown.now in
    let r = rows_view a c.rows-self.result c.rows-self.ensures in
    let e = digits_ruled a c.args.self.now.nodes c.requires.nodes c.rows-self.result c.index_digits-digits.result r c.index_digits-digits.ensures in
    (omega (arith, count_view a c.args.self.now.ncols c.requires.columns, columns_le p (small a)), omega (arith, e, d_le p (small a)))

pub tree_rows-rows-requires-clause-nodes_in_bounds : goal.tree_rows-rows-requires-clause-nodes_in_bounds
tree_rows-rows-requires-clause-nodes_in_bounds c =
    let a = shows (showable c.args.shown.now) in
    (omega (arith, a.whole, c.requires.nodes), rows_ask a c.args.self.now.nodes c.requires.nodes c.args.self.now.lines (replicate 256 0) (rw c.requires.nodes c.requires.measured.lines_are) refl)

pub tree_rows-rows-requires-clause-count_bound : goal.tree_rows-rows-requires-clause-count_bound
tree_rows-rows-requires-clause-count_bound c =
    let a = shows (showable c.args.shown.now) in
    omega (arith, rows_view a c.rows-self.result c.rows-self.ensures, rows_le (plan_in c.args.shown.now) (small a))

pub canvas_width-self-requires-clause-columns_some_and_last_wide : goal.canvas_width-self-requires-clause-columns_some_and_last_wide
canvas_width-self-requires-clause-columns_some_and_last_wide c =
    let a = shows (showable c.args.shown.now) in
    let cs = columns_answered (len_most c.args.measure) a c.requires.measured c.args.self.now.nodes c.args.self.now.ncols c.rows-self.result c.index_digits-digits.result _ _ _ c.requires.nodes
    c.requires.columns c.rows-self.ensures c.index_digits-digits.ensures (c.tree_columns-columns.ensures.offset_value, (c.tree_columns-columns.ensures.width_value, c.tree_columns-columns.ensures.center_value)) in
    (width_asks a c.args.self.now.nodes c.requires.nodes (len_of c.args.measure) (len_most c.args.measure) cs (omega (arith, c.requires.nodes, c.requires.some_node))).0

pub canvas_width-self-requires-clause-width_in_range : goal.canvas_width-self-requires-clause-width_in_range
canvas_width-self-requires-clause-width_in_range c =
    let a = shows (showable c.args.shown.now) in
    let cs = columns_answered (len_most c.args.measure) a c.requires.measured c.args.self.now.nodes c.args.self.now.ncols c.rows-self.result c.index_digits-digits.result _ _ _ c.requires.nodes
    c.requires.columns c.rows-self.ensures c.index_digits-digits.ensures (c.tree_columns-columns.ensures.offset_value, (c.tree_columns-columns.ensures.width_value, c.tree_columns-columns.ensures.center_value)) in
    (width_asks a c.args.self.now.nodes c.requires.nodes (len_of c.args.measure) (len_most c.args.measure) cs (omega (arith, c.requires.nodes, c.requires.some_node))).1

pub canvas_height-self-requires-clause-rows_some : goal.canvas_height-self-requires-clause-rows_some
canvas_height-self-requires-clause-rows_some c =
    let a = shows (showable c.args.shown.now) in
    let rs = rows_answered (len_most c.args.measure) a c.requires.measured c.args.self.now.nodes c.rows-self.result c.tree_rows-rows.result c.requires.nodes c.rows-self.ensures c.tree_rows-rows.ensures in
    (height_asks a c.args.self.now.nodes c.requires.nodes c.tree_rows-rows.result c.rows-self.result rs (rows_view a c.rows-self.result c.rows-self.ensures)).0

pub canvas_height-self-requires-clause-height_in_range : goal.canvas_height-self-requires-clause-height_in_range
canvas_height-self-requires-clause-height_in_range c =
    let a = shows (showable c.args.shown.now) in
    let rs = rows_answered (len_most c.args.measure) a c.requires.measured c.args.self.now.nodes c.rows-self.result c.tree_rows-rows.result c.requires.nodes c.rows-self.ensures c.tree_rows-rows.ensures in
    (height_asks a c.args.self.now.nodes c.requires.nodes c.tree_rows-rows.result c.rows-self.result rs (rows_view a c.rows-self.result c.rows-self.ensures)).1

pub returns-clause-laid : goal.returns-clause-laid
returns-clause-laid c =
    let a = shows (showable c.args.shown.now) in
    let n = c.args.self.now.nodes in
    let all = c.requires.nodes in
    let some : 0 < n = omega (arith, all, c.requires.some_node) in
    let len = len_of c.args.measure in
    let short = len_most c.args.measure in
    let cs = columns_answered short a c.requires.measured n c.args.self.now.ncols c.rows-self.result c.index_digits-digits.result _ _ _ all
    c.requires.columns c.rows-self.ensures c.index_digits-digits.ensures (c.tree_columns-columns.ensures.offset_value, (c.tree_columns-columns.ensures.width_value, c.tree_columns-columns.ensures.center_value)) in
    let r = rows_view a c.rows-self.result c.rows-self.ensures in
    let rs = rows_answered short a c.requires.measured n c.rows-self.result c.tree_rows-rows.result all c.rows-self.ensures c.tree_rows-rows.ensures in
    record {
      centres_are = cs.centres;
      count_is = cs.counted;
      row_offsets_are = ap (λ (q : Strips 32). q.offset) rs;
      row_count_is = r;
      width_is = width_answers a n all len short cs c.canvas_width-self.result some c.canvas_width-self.ensures;
      height_is = height_answers a n all c.tree_rows-rows.result c.rows-self.result rs r c.canvas_height-self.result c.canvas_height-self.ensures;
      offsets_are = λ j b. column_offset_at (view (plan_in c.args.shown.now)) cs (columns_le (plan_in c.args.shown.now) (small a)) j (omega (arith, cs.counted));
    }
