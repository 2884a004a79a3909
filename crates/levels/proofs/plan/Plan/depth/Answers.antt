-- An accepted depth is below 32.
use Rattle.rules.specs.Plan.{depth_in}
use Rattle.levels.proofs.Accepted.{depth_small}
use Rattle.levels.proofs.plan.Plan.depth.Goals as goal

pub returns-clause-below_32 : goal.returns-clause-below_32
unfolding depth_in
returns-clause-below_32 c = depth_small c.args.self.now.accepted c.args.k c.requires
