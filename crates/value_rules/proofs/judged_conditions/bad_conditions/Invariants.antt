-- The marks so far.
use Rattle.std.proofs.Common.{◌≡◌, take, map, Some}
use Rattle.procedure_names.specs.Conditions.{NamedCondition, conditions}
use Rattle.value_rules.specs.Kinds.{is_bad_condition}
use Rattle.procedure_names.specs.Scoped.{front_in, items_in}
use Rattle.value_rules.proofs.judged_conditions.bad_conditions.Given as goal

abbrev pub invariant-loop-at : goal.invariant-loop-at
invariant-loop-at l = l.marks.items ≡ map (λ (one : NamedCondition). is_bad_condition (Some one)) (take l.at (conditions (front_in l.scope) (items_in l.scope)))
