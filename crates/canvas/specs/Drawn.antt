-- A canvas that was drawn on: the word of every drawer's contract, no rule.
use Rattle.std.specs.Prelude.{◌≡◌, List}
use Rattle.rules.specs.Strokes.{Stroke}
use Rattle.canvas.specs.Stroked.{stroked}
use Rattle.canvas.specs.declared.draw.Canvas.{Canvas}

-- the same memory and size, with these strokes on it
pub record Draws (ss : List Stroke) (old new : Canvas) : Type 0 where
  pub same_memory : new.cells.ghost_name ≡ old.cells.ghost_name
  pub same_width : new.width ≡ old.width
  pub same_height : new.height ≡ old.height
  pub stroked_are : new.cells.now ≡ stroked old.width old.height ss old.cells.now
