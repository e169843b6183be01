-- The faults of those so far.
use Rattle.std.proofs.Common.{◌≡◌, ◌++◌, ◌==◌, List, All, take, map}
use Rattle.std.specs.Prelude.{filter}
use Rattle.cob_base.specs.declared.divisions.Front.{Front}
use Rattle.data_names.specs.Items.{DataItem}
use Rattle.name_rules.specs.Faults.{faults_at}
use Rattle.procedure_names.specs.Conditions.{count_of_conditions}
use Rattle.procedure_names.specs.SeenNames.{IsFoundAsCondition, seen_condition}
use Rattle.procedure_names.proofs.unknown_names.note_unknown_conditions.Given as goal

abbrev pub invariant-loop-mention : goal.invariant-loop-mention
invariant-loop-mention l = (front : Front) (items : List DataItem) → All (IsFoundAsCondition front items) l.mentions
    → l.faults.found.items ≡ l.initial.faults.found.items ++ faults_at 1 (map (λ one. one.line) (filter (λ one. count_of_conditions front items one.reference == 0) (take l.mention-index (map seen_condition l.mentions))))
