-- Before each turn r lines are drawn, and the others are those of what is left of the title.
use Rattle.std.proofs.Common.{◌≡◌, true, ◌-◌, ◌≤◌, length, drop}
use Rattle.rules.specs.Utf8.{valid}
use Rattle.rules.specs.Lines.{lines_of}
use Rattle.canvas.specs.Drawn.{Draws}
use Rattle.canvas.specs.Label.{title_lines}
use Rattle.canvas.proofs.draw.Canvas.write_lines.Given as goal

abbrev pub invariant-loop-at : goal.invariant-loop-at
invariant-loop-at l = (l.at ≤ length l.title)
    × (valid (drop l.at l.title) ≡ true)
    × (drop l.r (lines_of l.title) ≡ lines_of (drop l.at l.title))
    × Draws (title_lines l.x l.y l.title l.r) l.initial.self l.self

abbrev pub decreases-loop-at : goal.decreases-loop-at
decreases-loop-at l = length l.title - l.at
