-- Where a 0 is found the arguments are split there; where none is, there is one.
use Rattle.std.proofs.Common.{◌∙◌, rules, sym}
use Rattle.desk_line.proofs.Split.{none_left, parted, alone}
use Rattle.desk_line.proofs.arguments.split.Goals as goal

pub returns-then-is_empty-clause-none : goal.returns-then-is_empty-clause-none
returns-then-is_empty-clause-none c = none_left _ (search rules)

pub returns-in-Some-clause-parts : goal.returns-in-Some-clause-parts
returns-in-Some-clause-parts c = parted _ _ (sym c.end_of.ensures ∙ c.in-Some.is)

pub returns-in-None-clause-parts : goal.returns-in-None-clause-parts
returns-in-None-clause-parts c = alone _ (search rules) (sym c.end_of.ensures ∙ search rules)
