-- One mark more.
use Rattle.canvas.proofs.Lines.{down_more}
use Rattle.canvas.proofs.draw.Canvas.down.Goals as goal

pub loop-k-preserved : goal.loop-k-preserved
loop-k-preserved c = down_more _ _ _ _ c.loop-k.invariant c.symbol.ensures
