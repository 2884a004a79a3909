-- What passes every refusal is accepted, and its stand-in may stand in.
use Rattle.std.proofs.Common.{◌≡◌, true, option_map, ap, rules}
use Rattle.rules.specs.Answers.{done}
use Rattle.rules.specs.declared.Answer.{Answer as Said}
use Rattle.levels.specs.Accepted.{after_all}
use Rattle.levels.specs.Given.{standin_from}
use Rattle.refusals.proofs.Refused.{accepted_from, fine_from}
use Rattle.refusals.proofs.accept.shown_plan.Goals as goal

pub invariant_of-result : goal.invariant_of-result
invariant_of-result c =
    let a = c.args in
    let passed : done (after_all a.some a.profile (standin_from (option_map (λ t. t.now) a.standin)) a.table.now a.titles.now (Said.Done 0)) ≡ true = search rules in
    record { accepted = accepted_from a.some a.profile _ a.table.now a.titles.now passed }

pub invariant_of-result-2 : goal.invariant_of-result-2
invariant_of-result-2 c =
    let a = c.args in
    let passed : done (after_all a.some a.profile (standin_from (option_map (λ t. t.now) a.standin)) a.table.now a.titles.now (Said.Done 0)) ≡ true = search rules in
    record { fine = λ x e. fine_from a.some a.profile _ a.table.now a.titles.now passed (ap (option_map (λ t. t.now)) e) }
