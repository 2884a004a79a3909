-- The numbers that a drawing of a plan goes by, and what one step of finding them hands to the next. Words for contracts, no rule.
use Rattle.std.specs.Prelude.{◌≡◌, List, [], ℕ, ◌<◌, length, get_or, replicate}
use Rattle.rules.specs.Plan.{Node, count, plan_of}
use Rattle.rules.specs.Levels.{View, column_at, view}
use Rattle.rules.specs.Measures as M
use Rattle.levels.specs.Filled.{filled}
use Rattle.tree_view.specs.Measured.{lines_at, longest_at}
use Rattle.tree_view.specs.Ruled.{ruled_rows}

-- over the length `len` of a line: how many nodes, columns and rows there are, the canvas' size, of each node its column, its lines and its longest
-- line, of each column its centre and where it begins, and where each row begins
pub record IsLayoutOf (len : List ℕ → ℕ) (p : List Node) (nodes ncols nrows width height : ℕ) (column lines longest cx xs ys : List ℕ) : Type 0 where
  pub some : 0 < nodes
  pub nodes_are : nodes ≡ length p
  pub columns_are : ncols ≡ (view p).columns
  pub rows_are : nrows ≡ (view p).rows
  pub width_is : width ≡ M.canvas_width len (view p)
  pub height_is : height ≡ M.canvas_height (view p)
  pub column_is : (k : ℕ) → k < nodes → get_or column k 0 ≡ column_at p k
  pub lines_are : (k : ℕ) → k < nodes → get_or lines k 0 ≡ lines_at p k
  pub longest_are : (k : ℕ) → k < nodes → get_or longest k 0 ≡ longest_at len p k
  pub centre_is : (j : ℕ) → j < ncols → get_or cx j 0 ≡ M.cx len (view p) j
  pub offset_is : (j : ℕ) → j < ncols → get_or xs j 0 ≡ M.column_offset len (view p) j
  pub row_offset_is : (i : ℕ) → i < nrows → get_or ys i 0 ≡ M.row_offset (view p) i

-- the arrays of the nodes' columns, lines and longest lines, as they are filled
pub record Measured (len : List ℕ → ℕ) (T : List ℕ) (p : List Node) (column lines longest : List ℕ) : Type 0 where
  pub columns_are : column ≡ filled (column_at (plan_of T [])) 0 (count T) (replicate 256 0)
  pub lines_are : lines ≡ filled (lines_at p) 0 (count T) (replicate 256 0)
  pub longest_are : longest ≡ filled (longest_at len p) 0 (count T) (replicate 256 0)

-- how many columns and rows there are, the canvas' size, the columns' centres, and where columns and rows begin, as they are filled
pub record Laid (len : List ℕ → ℕ) (v : View) (ncols nrows width height : ℕ) (cx xs ys : List ℕ) : Type 0 where
  pub centres_are : cx ≡ filled (M.cx len v) 0 ncols (replicate 256 0)
  pub count_is : ncols ≡ v.columns
  pub row_offsets_are : ys ≡ (ruled_rows v).offset
  pub row_count_is : nrows ≡ v.rows
  pub width_is : width ≡ M.canvas_width len v
  pub height_is : height ≡ M.canvas_height v
  pub offsets_are : (j : ℕ) → j < ncols → get_or xs j 0 ≡ M.column_offset len v j
