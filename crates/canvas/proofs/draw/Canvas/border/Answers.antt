-- One stroke after another.
use Rattle.canvas.proofs.Drawn.{draws_then}
use Rattle.canvas.proofs.draw.Canvas.border.Goals as goal

pub returns : goal.returns
returns c = draws_then (draws_then c.symbol.ensures c.across.ensures) c.symbol-2.ensures
