-- From the nodes' numbers to the columns, rows and sizes that are made of them: each is the rules', by the laws of `tree_view` at arrays that were filled
-- from the table.
use Rattle.std.proofs.Common.{◌≡◌, refl, ap, ◌∙◌, Bool, ℕ, ◌+◌, ◌-◌, ◌<◌, List, [], length, get_or, replicate}
use Rattle.rules.specs.Plan.{Node, count, plan_of}
use Rattle.rules.specs.Lines.{digits}
use Rattle.rules.specs.Levels.{column_at, columns_of, rows_of, view}
use Rattle.levels.specs.Shown.{Shows}
use Rattle.levels.proofs.Shown.{count_view, rows_view}
use Rattle.levels.specs.Filled.{filled}
use Rattle.tree_view.specs.declared.strips.Strips.{Strips}
use Rattle.tree_view.specs.Measured.{Short, lines_at, longest_at}
use Rattle.tree_view.specs.Sizes.{width_in, offset_in, centre_in, rows_in}
use Rattle.tree_view.specs.Ruled.{RuledColumns, ruled_rows}
use Rattle.tree_view.proofs.Table.{column_at_law, size_at}
use Rattle.tree_view.proofs.Whole.{digits_ruled, columns_answer, rows_answer}
use Rattle.layout.specs.Laid.{Measured}

module _ {len : List ℕ → ℕ} (less : Short len) {given : Bool} {T : List ℕ} {p : List Node} {column lines longest : List ℕ}
    (a : Shows given T p) (m : Measured len T p column lines longest) where
  pub column_of : (k : ℕ) → k < count T → get_or column k 0 ≡ column_at p k
  column_of = column_at_law a column (replicate 256 0) m.columns_are refl

  pub lines_of_law : (k : ℕ) → k < count T → get_or lines k 0 ≡ lines_at p k
  lines_of_law = size_at a (lines_at p) lines (replicate 256 0) m.lines_are refl

  pub longest_of : (k : ℕ) → k < count T → get_or longest k 0 ≡ longest_at len p k
  longest_of = size_at a (longest_at len p) longest (replicate 256 0) m.longest_are refl

  -- the columns and rows that `tree_view` answers are the rules'
  pub columns_answered : (nodes ncols nrows d : ℕ) (xs ws cs : List ℕ) → nodes ≡ count T → ncols ≡ columns_of (plan_of T []) → nrows ≡ rows_of (plan_of T [])
      → d ≡ length (digits (nrows - 1))
      → (xs ≡ filled (offset_in column longest nodes (d + 4)) 0 ncols (replicate 256 0))
      × ((ws ≡ filled (width_in column longest nodes) 0 256 (replicate 256 6)) × (cs ≡ filled (centre_in column longest nodes (d + 4)) 0 ncols (replicate 256 0)))
      → RuledColumns len (view p) ncols xs ws cs
  columns_answered nodes ncols nrows d xs ws cs all columns rows g e =
      columns_answer a nodes all len less column longest (replicate 256 0) (replicate 256 0) (rw all m.columns_are) refl (rw all m.longest_are) refl
      ncols (d + 4) xs ws cs (count_view a ncols columns)
      (ap (λ (x : ℕ). x + 4) (digits_ruled a nodes all nrows d (rows_view a nrows rows) g))
      e.0 e.1.0 e.1.1

  pub rows_answered : (nodes nrows : ℕ) (r : Strips 32) → nodes ≡ count T → nrows ≡ rows_of (plan_of T []) → r ≡ rows_in T lines nodes nrows → r ≡ ruled_rows (view p)
  rows_answered nodes nrows r all rows e =
      e ∙ rows_answer a nodes all lines (replicate 256 0) (rw all m.lines_are) refl nrows (rows_view a nrows rows)
