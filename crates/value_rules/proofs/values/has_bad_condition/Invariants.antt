-- Those that are left give what all of them give.
use Rattle.std.proofs.Common.{◌≡◌, drop}
use Rattle.std.specs.List.{list_any}
use Rattle.statement_parts.specs.Seen.{seen_all}
use Rattle.procedure_names.specs.Conditions.{found_condition}
use Rattle.value_rules.specs.Kinds as k
use Rattle.procedure_names.specs.Scoped.{front_in, items_in}
use Rattle.value_rules.proofs.values.has_bad_condition.Given as goal

abbrev pub invariant-loop-name : goal.invariant-loop-name
invariant-loop-name l = list_any (λ name. k.is_bad_condition (found_condition (front_in l.scope) (items_in l.scope) name)) (seen_all (drop l.name-index l.names)) ≡ list_any (λ name. k.is_bad_condition (found_condition (front_in l.scope) (items_in l.scope) name)) (seen_all l.names)
