-- A band's middle is its row's centre.
use Rattle.std.proofs.Common.{◌∙◌, ap, length-set, arith}
use Rattle.rules.specs.Levels.{view}
use Rattle.rules.specs.Look.{len_of, marks_in}
use Rattle.rules.specs.Measures as M
use Rattle.levels.specs.Handed.{plan_in}
use Rattle.row_strips.specs.declared.band.Band.{Band}
use Rattle.row_strips.proofs.Made.{made}
use Rattle.row_strips.proofs.Ranges.{row_middles}
use Rattle.layout.proofs.Viewed.{known_in}
use Rattle.tree_canvas.proofs.Measures.{one_more}
use Rattle.tree_canvas.proofs.view.row_centres.Goals as goal

pub band_of-band-requires : goal.band_of-band-requires
band_of-band-requires c =
    let (row_within_height, next_row_below) = (made (known_in c.args.view.now)).bands c.loop-i.i c.loop-i-test.true in record {
      row_within_height = row_within_height;
      next_row_below = next_row_below;
    }

pub bounds-cy-i : goal.bounds-cy-i
bounds-cy-i c = omega (arith, c.loop-i-test.true, (made (known_in c.args.view.now)).rows_few)

pub loop-i-preserved : goal.loop-i-preserved
loop-i-preserved c =
    let v = c.args.view.now in
    let q = known_in v in
    let p = plan_in v.shown in
    let less = c.loop-i-test.true in
    let i = c.loop-i.invariant in
    record {
      sized = simp length-set i.sized;
      filled = one_more (M.cy (view p)) c.loop-i.cy c.loop-i.i _ (omega (arith, less, i.sized, (made q).rows_few)) i.filled
          (ap (λ (b : Band). b.middle) c.band_of-band.ensures ∙ row_middles (len_of v.measure) (marks_in v.marks) (view p) q.numbers c.loop-i.i (omega (arith, less, q.numbers.rows_are)));
    }
