-- The 88 entries that the code has judged, as the definitions see them.
use Rattle.std.specs.Prelude.{◌≡◌, map, Some}
use Rattle.procedure_names.specs.declared.scope.Scope.{Scope}
use Rattle.procedure_names.specs.Conditions.{conditions}
use Rattle.procedure_names.specs.Scoped.{front_in, items_in}
use Rattle.value_rules.specs.Kinds.{is_bad_condition}
use Rattle.value_rules.specs.declared.judged_conditions.JudgedConditions.{JudgedConditions}

-- each 88 entry of the program is marked as it is judged
abbrev pub AreJudged : Scope → JudgedConditions → Type 0
AreJudged scope judged = judged.bad.items ≡ map (λ one. is_bad_condition (Some one)) (conditions (front_in scope) (items_in scope))
