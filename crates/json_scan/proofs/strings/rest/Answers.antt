-- Each turn keeps the invariant: whatever is read of what is left of the name from i on is read of the name from `at` on.
use Rattle.std.proofs.Common.{rules, refl, arith}
use Rattle.json_rules.specs.Text.{space}
use Rattle.json_rules.proofs.Machine.{quote, colon, exactly}
use Rattle.json_scan.proofs.Laws.{one_then, one_wrong}
use Rattle.json_scan.proofs.Spelling.{letter_read, letter_wrong, letters_done}
use Rattle.json_scan.proofs.strings.rest.Goals as goal

pub returns-in_err-i : goal.returns-in_err-i
returns-in_err-i c =
    let l = c.loop-c in
    l.invariant _ (letter_wrong c.args.text.now c.args.name.now l.c-index l.i _ _ (omega arith) c.in_err-i.ensures (search rules))

pub loop-c-preserved : goal.loop-c-preserved
loop-c-preserved c =
    λ r t.
    let l = c.loop-c in
    l.invariant r (letter_read c.args.text.now c.args.name.now l.c-index l.i _ r (omega arith) c.in_ok-i.ensures t)

pub returns-in_err-q : goal.returns-in_err-q
unfolding quote exactly
returns-in_err-q c =
    let l = c.loop-c in
    l.invariant _ (letters_done c.args.text.now c.args.name.now l.c-index l.i _ (omega arith) (λ p. one_wrong (c.in_err-q.ensures _) (search rules)))

pub returns : goal.returns
unfolding quote exactly colon space
returns c =
    let l = c.loop-c in
    l.invariant _
    (letters_done c.args.text.now c.args.name.now l.c-index l.i _ (omega arith) (λ p. one_then (c.in_ok-q.ensures _) (c.sign.ensures refl refl)))
