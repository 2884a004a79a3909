-- What was filled are the numbers of the plan.
use Rattle.text.proofs.Counted.{len_most}
use Rattle.levels.proofs.Handed.{showable}
use Rattle.layout.proofs.Known.{laid_out}
use Rattle.layout.proofs.layout.Layout.lay.Goals as goal

pub returns : goal.returns
returns c = laid_out (len_most c.args.measure) (showable c.args.shown.now) c.place.ensures.nodes c.requires.some_node c.place.ensures.measured c.place.ensures.laid
