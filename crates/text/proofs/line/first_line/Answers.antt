-- What the first line says of all lines, with its length as it was told.
use Rattle.text.proofs.Counted.{line_counts}
use Rattle.text.proofs.line.first_line.Goals as goal

pub returns : goal.returns
returns c = line_counts _ _ _ _ _ c.next_line-line.ensures.line c.next_line-line.ensures.points c.length_by.ensures
