use Rattle.std.proofs.Common.{Some}
use Rattle.procedure_names.specs.Conditions.{NamedCondition, conditions}
use Rattle.value_rules.specs.Kinds.{is_bad_condition}
use Rattle.procedure_names.specs.Scoped.{front_in, items_in}
use Rattle.value_rules.proofs.Marks.{mark_within}
use Rattle.value_rules.proofs.values.is_bad_condition.Goals as goal

pub is_bad-requires : goal.is_bad-requires
is_bad-requires c =
    let front = front_in c.args.scope.now in
    let items = items_in c.args.scope.now in
    let is = rw c.in-One.is at (c.in_ok-at.ensures front c.requires.scope.conditions) in
    mark_within (λ (some : NamedCondition). is_bad_condition (Some some)) (conditions front items) c.args.judged.now.bad.items c.in-One.at is.0 c.requires.judged is.1
