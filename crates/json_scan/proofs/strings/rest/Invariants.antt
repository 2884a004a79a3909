-- The loop's invariant: whatever is read of what is left of the name from i on is read of the name from `at` on.
use Rattle.std.proofs.Common.{ℕ, drop, Result}
use Rattle.json_scan.specs.declared.signs.Wrong.{Wrong}
use Rattle.json_scan.proofs.Spelling.{Left}
use Rattle.json_scan.proofs.strings.rest.Given as goal

abbrev pub invariant-loop-c : goal.invariant-loop-c
invariant-loop-c l = (r : Result ℕ Wrong) → Left l.text (drop l.c-index l.name) l.i r → Left l.text l.name l.at r
