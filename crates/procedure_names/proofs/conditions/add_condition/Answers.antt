use Rattle.std.proofs.Common.{◌++◌, List, sym, subst, refl}
use Rattle.std.specs.List.{AllZip}
use Rattle.procedure_names.specs.declared.conditions.KnownCondition.{KnownCondition}
use Rattle.procedure_names.specs.Conditions.{condition_on}
use Rattle.procedure_names.specs.SeenConditions.{IsKnownCondition}
use Rattle.procedure_names.proofs.KnownConditions.{pushed}
use Rattle.procedure_names.proofs.conditions.add_condition.Goals as goal

pub returns-in_ok-push : goal.returns-in_ok-push
returns-in_ok-push c = λ items made spot l h.
    let here = rw c.in-Some.is at l in
    subst (λ (all : List KnownCondition). AllZip (IsKnownCondition items) all (made ++ condition_on c.args.entry.now spot)) (sym c.in_ok-push.ensures.items)
    (pushed items made c.args.all.now.items (record { entry = c.args.entry; item = c.in-Some.item }) spot c.args.entry.now here refl h)
