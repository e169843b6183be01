-- What was found so far.
use Rattle.std.proofs.Common.{◌≡◌, ◌++◌, take, map}
use Rattle.std.specs.Prelude.{filter}
use Rattle.data_names.specs.References.{found}
use Rattle.data_names.specs.Table.{items_of}
use Rattle.name_rules.specs.SeenMentions.{seen_mention}
use Rattle.front_rules.specs.Kinds.{is_no_integer}
use Rattle.name_rules.specs.Faults.{faults_at}
use Rattle.front_rules.proofs.kinds.note_subscripts.Given as goal

abbrev pub invariant-loop-mention : goal.invariant-loop-mention
invariant-loop-mention l =
    l.faults.found.items
    ≡ l.initial.faults.found.items ++ faults_at 6 (map (λ one. one.line) (filter (λ one. is_no_integer (found (items_of l.table) one.reference)) (map seen_mention (take l.mention-index l.subscripts))))
