-- Strokes on a canvas, and then strokes; none; and others that leave the same.
use Rattle.std.proofs.Common.{◌≡◌, sym, List, [], ◌++◌, ◌∙◌, refl, ℕ, ◌<◌}
use Rattle.rules.specs.Strokes.{Stroke, over}
use Rattle.canvas.specs.Drawn.{Draws}
use Rattle.canvas.specs.declared.draw.Canvas.{Canvas}
use Rattle.canvas.proofs.Stroked.{then, stroked_nil, stroked_same}

pub draws_then : {ss ts : List Stroke} {old mid new : Canvas} → Draws ss old mid → Draws ts mid new → Draws (ss ++ ts) old new
draws_then {ss} {ts} {old} {mid} {new} x y =
    record {
      same_memory = y.same_memory ∙ x.same_memory;
      same_width = y.same_width ∙ x.same_width;
      same_height = y.same_height ∙ x.same_height;
      stroked_are = then old.width old.height ss ts old.cells.now mid.cells.now new.cells.now old.fits x.stroked_are (rw (x.same_width, x.same_height) at y.stroked_are);
    }

pub draws_none : {self : Canvas} → Draws [] self self
draws_none {self} = record { same_memory = refl; same_width = refl; same_height = refl; stroked_are = stroked_nil self.width self.height self.cells.now self.fits }

-- other strokes that leave the same at every point
pub draws_same : {ss ts : List Stroke} {old new : Canvas} → ((x y mark : ℕ) → x < old.width → y < old.height → over mark ss x y ≡ over mark ts x y)
    → Draws ss old new → Draws ts old new
draws_same {ss} {ts} {old} e d =
    record {
      same_memory = d.same_memory;
      same_width = d.same_width;
      same_height = d.same_height;
      stroked_are = d.stroked_are ∙ stroked_same old.width old.height ss ts old.cells.now old.fits e;
    }

-- the same strokes, in other words
pub draws_as : {ss ts : List Stroke} {old new : Canvas} → ss ≡ ts → Draws ss old new → Draws ts old new
draws_as {ss} {ts} {old} {new} e d = rw (sym e) d
