use Rattle.std.proofs.Common.{sym, subst}
use Rattle.std.proofs.lemmas.List.Elements.{All-get_or}
use Rattle.screen_layout.specs.declared.plan.ScreenPlan.{ScreenPlan}
use Rattle.screen_layout.specs.Plans.{IsPlanOf}
use Rattle.screen_layout.proofs.test_showing.show_all.Goals as goal

pub show_plan-requires-clause-plan : goal.show_plan-requires-clause-plan
show_plan-requires-clause-plan c =
    subst (λ (plan : ScreenPlan). IsPlanOf c.args.layout.now plan) (sym c.plan-item.is)
    (All-get_or (IsPlanOf c.args.layout.now) c.args.plans.now c.loop-plan.plan-index c.plan-item.result c.loop-plan-test.true c.requires.plans)
