-- A table that no refusal meets is accepted; of any other the refusal is the answer.
use Rattle.std.proofs.Common.{option_map, refl}
use Rattle.levels.specs.Given.{standin_from}
use Rattle.graph_words.specs.Forms.{rule}
use Rattle.graphs.proofs.Graphs.{ready, accepted_shown, refused_answer}
use Rattle.graphs.proofs.graph.graph_in.Goals as goal

pub returns-in-Err-clause-answered : goal.returns-in-Err-clause-answered
returns-in-Err-clause-answered c =
    let a = c.args in
    (refused_answer (rule a.form) (standin_from (option_map (λ t. t.now) a.standin)) a.table.now a.titles.now a.out.now c.in-Err.ensures.refused c.in-Err.ensures.not_done).0

pub returns-in-Err-clause-left : goal.returns-in-Err-clause-left
returns-in-Err-clause-left c =
    let a = c.args in
    (refused_answer (rule a.form) (standin_from (option_map (λ t. t.now) a.standin)) a.table.now a.titles.now a.out.now c.in-Err.ensures.refused c.in-Err.ensures.not_done).1

pub invariant_of-walk : goal.invariant_of-walk
invariant_of-walk c =
    let s = c.in-Ok in
    record { ready = ready (rw (s.ensures.table, s.ensures.titles) at s.shown.plan.accepted) _ _ refl c.columns.ensures.1 }

pub returns-clause-answered : goal.returns-clause-answered
returns-clause-answered c =
    let a = c.args in
    let s = c.in-Ok in
    (accepted_shown (rule a.form) s.shown a.standin a.out.now s.ensures.table s.ensures.titles s.ensures.standin s.ensures.fine c.fill.ensures).0

pub returns-clause-left : goal.returns-clause-left
returns-clause-left c =
    let a = c.args in
    let s = c.in-Ok in
    (accepted_shown (rule a.form) s.shown a.standin a.out.now s.ensures.table s.ensures.titles s.ensures.standin s.ensures.fine c.fill.ensures).1
