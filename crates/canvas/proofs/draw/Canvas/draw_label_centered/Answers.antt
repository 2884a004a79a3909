-- The box, and then the lines.
use Rattle.std.proofs.Common.{ap, sym, ◌+◌, ◌-◌, ◌/◌, arith}
use Rattle.rules.specs.Base.{half_up}
use Rattle.canvas.specs.Label.{title_lines}
use Rattle.canvas.proofs.Drawn.{draws_then, draws_as}
use Rattle.canvas.proofs.draw.Canvas.draw_label_centered.Goals as goal

pub overflow_sub-x : goal.overflow_sub-x
unfolding half_up
overflow_sub-x c = omega arith

pub overflow_sub-x-2 : goal.overflow_sub-x-2
unfolding half_up
overflow_sub-x-2 c = omega arith

pub returns : goal.returns
unfolding half_up
returns c =
    let a = c.args in
    draws_then c.draw_box.ensures (draws_as (ap (title_lines (a.cx - (a.t + 1) / 2) (a.cy - a.n / 2) a.title.now) (sym c.requires.lines_counted)) c.write_lines.ensures)
