-- Before each turn r lines are drawn, and the others are those of what is left of the title.
use Rattle.std.proofs.Common.{refl, ap, sym, ◌∙◌, arith, rules}
use Rattle.utf8.specs.Begun.{begun}
use Rattle.utf8.proofs.Begun.{begun_points}
use Rattle.canvas.proofs.Titles.{found, no_lines, more_lines}
use Rattle.canvas.proofs.draw.Canvas.write_lines.Goals as goal

pub loop-at-init : goal.loop-at-init
loop-at-init c =
    let a = c.args in
    (search rules, c.requires.0, refl, no_lines a.x a.y a.title.now a.self.now)

pub overflow_add-y : goal.overflow_add-y
overflow_add-y c =
    let l = c.loop-at in
    let f = found c.args.title.now c.next_line-line.result.now l.at l.r l.invariant.0 l.invariant.1 l.invariant.2 c.next_line-line.ensures.line in
    record { fits = omega (arith, f.below) }

pub write_line-requires : goal.write_line-requires
write_line-requires c =
    let l = c.loop-at in
    let n = c.next_line-line in
    let f = found c.args.title.now n.result.now l.at l.r l.invariant.0 l.invariant.1 l.invariant.2 n.ensures.line in
    (f.sound, n.ensures.points ∙ ap begun (sym n.ensures.line) ∙ begun_points n.result.now f.sound)

pub returns-then-at-title : goal.returns-then-at-title
returns-then-at-title c =
    let a = c.args in
    let l = c.loop-at in
    let f = found a.title.now c.next_line-line.result.now l.at l.r l.invariant.0 l.invariant.1 l.invariant.2 c.next_line-line.ensures.line in
    rw (f.last c.if-at-title.true) (more_lines a.x a.y a.title.now l.r c.next_line-line.result.now f.is l.invariant.3 c.write_line.ensures)

pub overflow_add-r : goal.overflow_add-r
overflow_add-r c =
    let l = c.loop-at in
    let f = found c.args.title.now c.next_line-line.result.now l.at l.r l.invariant.0 l.invariant.1 l.invariant.2 c.next_line-line.ensures.line in
    record { fits = omega (arith, f.below) }

pub loop-at-smaller : goal.loop-at-smaller
loop-at-smaller c =
    let l = c.loop-at in
    let f = found c.args.title.now c.next_line-line.result.now l.at l.r l.invariant.0 l.invariant.1 l.invariant.2 c.next_line-line.ensures.line in
    omega (arith, f.fits)

pub loop-at-preserved : goal.loop-at-preserved
loop-at-preserved c =
    let a = c.args in
    let l = c.loop-at in
    let f = found a.title.now c.next_line-line.result.now l.at l.r l.invariant.0 l.invariant.1 l.invariant.2 c.next_line-line.ensures.line in
    let g = f.next (omega (arith, f.fits)) in
    (omega (arith, f.fits), g.0, g.1, more_lines a.x a.y a.title.now l.r c.next_line-line.result.now f.is l.invariant.3 c.write_line.ensures)
