-- The arrays that are filled from a table that is not refused hold the numbers of its plan; and with marks that are seen these are what the laws of rows
-- ask. No code needs the rows' centres there: the list of them that the laws speak of is filled by the rules.
use Rattle.std.proofs.Common.{◌≡◌, refl, sym, ◌∙◌, Bool, ℕ, ◌<◌, List, length, replicate, arith}
use Rattle.rules.specs.Numbers.{bad_depth}
use Rattle.rules.specs.Plan.{count, plan_of}
use Rattle.rules.specs.Standin.{standin_of}
use Rattle.rules.specs.Levels.{view}
use Rattle.rules.specs.Drawing.{Marks}
use Rattle.rules.proofs.Lists.{first_none}
use Rattle.rules.proofs.Replaced.{replaced_bad}
use Rattle.levels.specs.Shown.{plan_shown, Showable}
use Rattle.levels.specs.Filled.{filled}
use Rattle.levels.proofs.Shown.{shows, small}
use Rattle.marks.specs.Lawful.{Lawful}
use Rattle.tree_view.specs.Measured.{Short}
use Rattle.tree_view.specs.Ruled.{ruled_rows}
use Rattle.tree_view.specs.Sizes.{sum_at}
use Rattle.tree_view.proofs.Limits.{rows_le}
use Rattle.tree_view.proofs.Ruled.{row_offset_at}
use Rattle.tree_view.proofs.Whole.{center_at, row_center_at}
use Rattle.row_strips.specs.Known.{Known}
use Rattle.layout.specs.Laid.{IsLayoutOf, Measured, Laid}
use Rattle.layout.proofs.Measured.{column_of, lines_of_law, longest_of}

module _ {len : List ℕ → ℕ} {given : Bool} {S T B : List ℕ} {nodes ncols nrows w h : ℕ} {column lines longest cx xs ys : List ℕ}
    (short : Short len) (a : Showable given S T B) where
  pub laid_out : nodes ≡ count T → 0 < count T → Measured len T (plan_shown given S T B) column lines longest
      → Laid len (view (plan_shown given S T B)) ncols nrows w h cx xs ys
      → IsLayoutOf len (plan_shown given S T B) nodes ncols nrows w h column lines longest cx xs ys
  laid_out all some m l =
      let p = plan_shown given S T B in
      let s = shows a in
      record {
        some = omega arith;
        nodes_are = all ∙ sym s.nodes;
        columns_are = l.count_is;
        rows_are = l.row_count_is;
        width_is = l.width_is;
        height_is = l.height_is;
        column_is = λ k b. column_of short s m k (omega arith);
        lines_are = λ k b. lines_of_law short s m k (omega arith);
        longest_are = λ k b. longest_of short s m k (omega arith);
        centre_is = λ j b. center_at s (count T) refl len ncols l.count_is cx (replicate 256 0) l.centres_are refl j b;
        offset_is = l.offsets_are;
        row_offset_is = λ i b. rw l.row_offsets_are (row_offset_at (view p) (ruled_rows (view p)) refl (rows_le p (small s)) i (omega (arith, l.row_count_is)));
      }

  pub known : {marks : Marks} → Lawful len marks → IsLayoutOf len (plan_shown given S T B) nodes ncols nrows w h column lines longest cx xs ys
      → Known len marks (plan_shown given S T B) w h T nodes column lines longest cx xs ncols ys nrows
  known ok l =
      let p = plan_shown given S T B in
      let s = shows a in
      let r = ruled_rows (view p) in
      let cy = filled (sum_at r.offset r.center) 0 nrows (replicate 32 0) in
      record {
        lawful = ok;
        short = short;
        drawable =
            record {
              some = omega (arith, l.some, l.nodes_are);
              sized = omega (arith, s.few, s.nodes);
              depths = first_none (bad_depth p) (length p) (λ k b. replaced_bad (standin_of given S) (plan_of T B) k ∙ a.table.depths k (omega (arith, s.nodes)));
            };
        small = small s;
        cy = cy;
        numbers =
            record {
              wide = l.width_is;
              high = l.height_is;
              columns_are = l.columns_are;
              rows_are = l.rows_are;
              cx_is = λ j b. l.centre_is j (omega (arith, l.columns_are));
              x_is = λ j b. l.offset_is j (omega (arith, l.columns_are));
              cy_is = λ i b. row_center_at s (count T) refl r nrows refl l.rows_are cy (replicate 32 0) refl refl i (omega (arith, l.rows_are));
              y_is = λ i b. l.row_offset_is i (omega (arith, l.rows_are));
            };
        counted = l.nodes_are;
        room = omega (arith, s.whole, s.nodes, l.nodes_are);
        depths = λ k b. sym (s.depths k);
        columns = l.column_is;
        lines_are = l.lines_are;
        longest_are = l.longest_are;
      }
