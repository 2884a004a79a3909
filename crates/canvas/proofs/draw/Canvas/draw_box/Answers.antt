-- One stroke after another, in the order of `frame`.
use Rattle.rules.specs.Drawing.{frame}
use Rattle.canvas.proofs.Drawn.{draws_then}
use Rattle.canvas.proofs.draw.Canvas.draw_box.Goals as goal

pub returns : goal.returns
unfolding frame
returns c = draws_then (draws_then (draws_then c.border.ensures c.down.ensures) c.down-2.ensures) c.border-2.ensures
