-- A value of `ShownPlan` keeps that its table is accepted and that its stand-in may stand in.
use Rattle.std.proofs.Common.{◌≡◌, Bool, true, false, List, ℕ, refl, Option, Some, None, option_map, Bor}
use Rattle.std.specs.Bool.{then_some}
use mathlib.Core.Bool.{false≢true}
use Rattle.rules.specs.Standin.{standin_of}
use Rattle.levels.specs.Shown.{plan_shown, Fine, Showable}
use Rattle.levels.specs.Given.{is_given, text_of, standin_from}
use Rattle.levels.specs.Handed.{plan_in}
use Rattle.levels.specs.declared.lent.ShownPlan.{ShownPlan}

fine : (o : Option (Bor (List ℕ))) → ((x : Bor (List ℕ)) → o ≡ Some x → Fine x.now) → is_given (option_map (λ t. t.now) o) ≡ true
    → Fine (text_of (option_map (λ t. t.now) o))
fine None f e = absurd (false≢true e)
fine (Some x) f e = f x refl

pub showable : (s : ShownPlan) → Showable (is_given (option_map (λ t. t.now) s.standin)) (text_of (option_map (λ t. t.now) s.standin)) s.plan.table.now s.plan.titles.now
showable s = record { table = s.plan.accepted; standin = fine s.standin s.fine }

-- the plan that is shown of a table with a stand-in that is given or not
pub handed : (s : ShownPlan) (given : Bool) (S : Bor (List ℕ)) {T B : List ℕ} → s.plan.table.now ≡ T → s.plan.titles.now ≡ B → s.standin ≡ then_some given S
    → plan_in s ≡ plan_shown given S.now T B
handed s given S {T} {B} t b e = rw (t, b, e) (go given)
  where
    go : (g : Bool) → plan_shown (is_given (option_map (λ t. t.now) (then_some g S))) (text_of (option_map (λ t. t.now) (then_some g S))) T B ≡ plan_shown g S.now T B
    go true = refl
    go false = refl

pub standin_handed : (given : Bool) (S : Bor (List ℕ)) → standin_from (option_map (λ t. t.now) (then_some given S)) ≡ standin_of given S.now
standin_handed true S = refl
standin_handed false S = refl
