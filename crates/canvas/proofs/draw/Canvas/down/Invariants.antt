-- Before each turn the line down has k marks.
use Rattle.std.proofs.Common.{[], ◌∷◌}
use Rattle.rules.specs.Strokes.{down}
use Rattle.canvas.specs.Drawn.{Draws}
use Rattle.canvas.proofs.draw.Canvas.down.Given as goal

abbrev pub invariant-loop-k : goal.invariant-loop-k
invariant-loop-k l = Draws (down l.x l.y l.k l.mark ∷ []) l.initial.self l.self
