-- One stroke after another.
use Rattle.std.proofs.Common.{ap, [], ◌∷◌, ◌+◌, ◌-◌, ◌∙◌}
use Rattle.rules.specs.Strokes.{across, down}
use Rattle.canvas.proofs.Drawn.{draws_then, draws_as}
use Rattle.canvas.proofs.draw.Canvas.draw_axis.Goals as goal

pub returns : goal.returns
returns c =
    let a = c.args in
    draws_then (draws_then c.symbol.ensures (draws_as (ap (λ w. across (a.x + 1) 1 (w - a.x) a.marks.horizontal ∷ []) c.symbol.ensures.same_width) c.across.ensures))
    (draws_as (ap (λ h. down a.x 2 (h - 1) a.marks.vertical ∷ []) (c.across.ensures.same_height ∙ c.symbol.ensures.same_height)) c.down.ensures)
