-- The plan that a value of `ShownPlan` shows. Words for contracts, no rule.
use Rattle.std.specs.Prelude.{List, option_map}
use Rattle.rules.specs.Plan.{Node}
use Rattle.rules.specs.Standin.{Standin}
use Rattle.levels.specs.Shown.{plan_shown}
use Rattle.levels.specs.Given.{is_given, text_of, standin_from}
use Rattle.levels.specs.declared.lent.ShownPlan.{ShownPlan}

-- its stand-in
abbrev pub standin_in : ShownPlan → Standin
standin_in s = standin_from (option_map (λ t. t.now) s.standin)

-- its plan, with every empty title replaced where a stand-in is given
abbrev pub plan_in : ShownPlan → List Node
plan_in s = plan_shown (is_given (option_map (λ t. t.now) s.standin)) (text_of (option_map (λ t. t.now) s.standin)) s.plan.table.now s.plan.titles.now
