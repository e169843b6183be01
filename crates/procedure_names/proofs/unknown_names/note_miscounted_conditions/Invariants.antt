-- What was found so far.
use Rattle.std.proofs.Common.{◌≡◌, ◌++◌, take, map}
use Rattle.std.specs.Prelude.{is_some, option_map, filter}
use Rattle.name_rules.specs.Subscripts.{is_miscounted}
use Rattle.name_rules.specs.Faults.{faults_at}
use Rattle.procedure_names.specs.Conditions.{found_condition}
use Rattle.procedure_names.specs.Scoped.{front_in, items_in}
use Rattle.procedure_names.specs.SeenNames.{seen_condition}
use Rattle.procedure_names.proofs.unknown_names.note_miscounted_conditions.Given as goal

abbrev pub invariant-loop-mention : goal.invariant-loop-mention
invariant-loop-mention l =
    l.faults.found.items
    ≡ l.initial.faults.found.items
    ++ faults_at 13 (map (λ one. one.line) (filter (λ one. is_miscounted (is_some one.reference.subscript) (option_map (λ named. named.spot) (found_condition (front_in l.scope) (items_in l.scope) one.reference))) (map seen_condition (take l.mention-index l.mentions))))
