-- One column of a row of cells. Words for contracts, no rule.
use Rattle.std.specs.Prelude.{List, ◌&&◌, ℕ, leb, get_or}
use Rattle.row_strips.specs.Row.{some}
use Rattle.row_strips.specs.declared.joint.Joint.{Joint}

-- who stands in column j and which lines are there, `first` and `over` being the first columns with a cell of the row and of the one above
abbrev pub joint_by : (first over : ℕ) (here next on : List ℕ) (j : ℕ) → Joint
joint_by first over here next on j =
    record { k = get_or here j 0; up = leb over j && some here j; child = leb first j && some next j; on = leb first j && some on j }
