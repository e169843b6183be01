-- What was found so far.
use Rattle.std.proofs.Common.{◌≡◌, ◌++◌, take, map}
use Rattle.std.specs.Prelude.{is_some}
use Rattle.std.specs.Prelude.{filter}
use Rattle.data_names.specs.References.{found}
use Rattle.data_names.specs.Table.{items_of}
use Rattle.name_rules.specs.SeenMentions.{seen_mention}
use Rattle.name_rules.specs.Subscripts.{is_miscounted}
use Rattle.name_rules.specs.Faults.{faults_at}
use Rattle.name_rules.proofs.subscripts.note_miscounted_in.Given as goal

abbrev pub invariant-loop-mention : goal.invariant-loop-mention
invariant-loop-mention l =
    l.faults.found.items
    ≡ l.initial.faults.found.items
    ++ faults_at 13 (map (λ one. one.line) (filter (λ one. is_miscounted (is_some one.reference.subscript) (found (items_of l.table) one.reference)) (map seen_mention (take l.mention-index l.mentions))))
