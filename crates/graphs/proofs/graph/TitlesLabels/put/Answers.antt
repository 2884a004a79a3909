-- A node of the plan is one of the table.
use Rattle.std.proofs.Common.{arith}
use Rattle.levels.proofs.Shown.{shows}
use Rattle.levels.proofs.Handed.{showable}
use Rattle.graphs.proofs.graph.TitlesLabels.put.Goals as goal

pub title-requires : goal.title-requires
title-requires g c = omega (arith, c.requires.of_plan, (shows (showable c.args.self.now.shown.now)).nodes)
