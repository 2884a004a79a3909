-- A block more of bytes within bounds.
use Rattle.std.proofs.Common.{◌+◌, arith}
use Rattle.std.proofs.lemmas.Grind.{common_steps}
use Rattle.utf8_runs.proofs.Within.{within_part}
use Rattle.utf8_runs.proofs.run.blocks_within.Goals as goal

pub loop-at-preserved : goal.loop-at-preserved
loop-at-preserved g c =
    let a = c.args in
    let at = c.loop-at.at in
    let p = (within_part a.s.now a.low a.high at (at + g.row.N) (omega arith) (omega arith)).0 (c.all_within.ensures.0 c.if-all_within.true) in
    grind (arith, common_steps, p)
