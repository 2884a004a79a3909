-- Each turn sets one entry, and adds one size and the gap; the next strip begins in range, and so does this one end.
use Rattle.std.proofs.Common.{ℕ, ◌+◌, List, get_or, refl, ap, arith}
use Rattle.levels.specs.Filled.{filled}
use Rattle.tree_view.specs.Sizes.{after}
use Rattle.tree_view.proofs.Sizes.{fill_more, after_more}
use Rattle.tree_view.proofs.strips.Strips.line_up.Goals as goal

pub loop-k-init : goal.loop-k-init
unfolding after filled
loop-k-init g c = record { next = refl; offset = refl; size = refl; center = refl }

pub overflow_add-at : goal.overflow_add-at
overflow_add-at g c =
    let l = c.loop-k in
    let S = λ (k : ℕ). get_or c.args.self.now.size k 0 in
    record { fits = omega (arith, ap (λ (s : List ℕ). get_or s l.k 0) l.invariant.size, after_more S c.args.start c.args.gap l.k, c.requires.offsets_in_range (l.k + 1) (omega arith)) }

pub overflow_add-at-in-loop-k : goal.overflow_add-at-in-loop-k
overflow_add-at-in-loop-k g c =
    let l = c.loop-k in
    let S = λ (k : ℕ). get_or c.args.self.now.size k 0 in
    record { fits = omega (arith, l.invariant.next, ap (λ (s : List ℕ). get_or s l.k 0) l.invariant.size, after_more S c.args.start c.args.gap l.k, c.requires.offsets_in_range (l.k + 1) (omega arith)) }

pub loop-k-preserved : goal.loop-k-preserved
loop-k-preserved g c =
    let l = c.loop-k in
    let S = λ (k : ℕ). get_or c.args.self.now.size k 0 in
    record {
      next = omega (arith, l.invariant.next, ap (λ (s : List ℕ). get_or s l.k 0) l.invariant.size, after_more S c.args.start c.args.gap l.k);
      offset = fill_more _ l.k _ l.self.offset _ l.invariant.offset l.invariant.next;
      size = l.invariant.size;
      center = l.invariant.center;
    }
