-- An accepted title lies within the title bytes.
use Rattle.std.proofs.Common.{arith}
use Rattle.levels.proofs.Accepted.{title_fits}
use Rattle.levels.proofs.lent.ShownPlan.title.Goals as goal

pub shown_title-requires : goal.shown_title-requires
shown_title-requires c =
    let plan = c.args.self.now.plan in
    (omega (arith, plan.accepted.whole, c.requires), title_fits plan.accepted c.args.k c.requires)

pub shown_title-requires-in-None : goal.shown_title-requires-in-None
shown_title-requires-in-None c =
    let plan = c.args.self.now.plan in
    (omega (arith, plan.accepted.whole, c.requires), title_fits plan.accepted c.args.k c.requires)
