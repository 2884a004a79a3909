-- After k nodes each entry is the greatest size that those ask for; a turn raises the entry of one key.
use Rattle.std.proofs.Common.{◌≡◌, ℕ, ◌*◌, ◌<◌, length, get_or}
use Rattle.tree_view.specs.Sizes.{most}
use Rattle.tree_view.proofs.strips.raise.Given as goal

abbrev pub invariant-loop-k : goal.invariant-loop-k
invariant-loop-k g l = record {
  sized : length l.size ≡ g.row.N;
  raised : (i : ℕ) → i < g.row.N → get_or l.size i 0 ≡ most (λ k. get_or l.key (g.row.STEP * k) 0) (λ k. get_or l.asked k 0) l.least l.k i;
}
