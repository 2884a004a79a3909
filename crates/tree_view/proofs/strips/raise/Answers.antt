-- After k nodes each entry is the greatest size that those ask for; a turn raises the entry of one key.
use Rattle.std.proofs.Common.{◌*◌, get_or, refl}
use Rattle.std.proofs.Math.ListN.{length-set, length-replicate}
use Rattle.tree_view.specs.Sizes.{most}
use Rattle.tree_view.proofs.Sizes.{replicate_at, most_more}
use Rattle.tree_view.proofs.strips.raise.Goals as goal

pub loop-k-init : goal.loop-k-init
unfolding most
loop-k-init g c = rw c.requires.sizes_start_at_least (record { sized = length-replicate g.row.N c.args.least; raised = λ i h. replicate_at g.row.N c.args.least i h })

pub loop-k-preserved : goal.loop-k-preserved
loop-k-preserved g c =
    let l = c.loop-k in
    record {
      sized = simp length-set l.invariant.sized;
      raised =
          most_more (λ k. get_or c.args.key.now (g.row.STEP * k) 0) (λ k. get_or c.args.asked.now k 0) c.args.least g.row.N l.k _ _ l.size l.invariant.sized refl
          (c.requires.within.keyed l.k c.loop-k-test.true) c.max.ensures l.invariant.raised;
    }
