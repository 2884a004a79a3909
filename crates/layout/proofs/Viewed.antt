-- What the laws of rows ask of the plan, the look and the numbers of a view: the view keeps it.
use Rattle.rules.specs.Look.{len_of, marks_in}
use Rattle.text.proofs.Counted.{len_most}
use Rattle.levels.specs.Handed.{plan_in}
use Rattle.levels.proofs.Handed.{showable}
use Rattle.row_strips.specs.Known.{Known}
use Rattle.layout.specs.declared.view.View.{View}
use Rattle.layout.proofs.Known.{known}

pub known_in : (v : View) → Known (len_of v.measure) (marks_in v.marks) (plan_in v.shown) v.layout.now.width v.layout.now.height v.shown.plan.table.now v.layout.now.nodes
    v.layout.now.column v.layout.now.lines v.layout.now.longest v.layout.now.cx v.layout.now.xs v.layout.now.ncols v.layout.now.ys v.layout.now.nrows
known_in v = known (len_most v.measure) (showable v.shown) v.lawful v.laid
