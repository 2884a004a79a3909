-- The text of some rows of the drawing of a view. Words for contracts, no rule.
use Rattle.std.specs.Prelude.{List, Bool, ℕ}
use Rattle.rules.specs.Look.{len_of, marks_in}
use Rattle.levels.specs.Handed.{plan_in}
use Rattle.layout.specs.declared.view.View.{View}
use Rattle.row_laws.specs.Part.{ShowsTo}
use Rattle.row_walk.specs.Told.{text_to, Added, Lent}

-- the first y rows
abbrev pub rows_to : (v : View) (y : ℕ) → List ℕ
rows_to v y = text_to (len_of v.measure) (marks_in v.marks) (plan_in v.shown) y

-- the n rows from row y on are added behind `at`, the answer being the place after them
abbrev pub Adds : (v : View) (store : Bool) (y n at : ℕ) (old new : List ℕ) (r : ℕ) → Type 0
Adds v store y n at old new r = Added (len_of v.measure) (marks_in v.marks) (plan_in v.shown) store y n at old new r

-- a row of the drawing's width is not too wide, and if the text is to be stored, so many bytes hold it
abbrev pub Room : (v : View) (store : Bool) (room : ℕ) → Type 0
Room v store room = Lent (len_of v.measure) (marks_in v.marks) (plan_in v.shown) v.layout.now.width store room

-- the first x cells of the row are those of row y
abbrev pub Shows : (v : View) (y x : ℕ) (row : List ℕ) → Type 0
Shows v y x row = ShowsTo (len_of v.measure) (marks_in v.marks) (plan_in v.shown) y x row
