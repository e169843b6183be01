-- Those of the entries so far.
use Rattle.std.proofs.Common.{take, map}
use Rattle.std.specs.List.{flat_map}
use Rattle.data_names.specs.Table.{items_of}
use Rattle.name_rules.specs.Mentions.{mention, references_of_screen}
use Rattle.name_rules.specs.SeenMentions.{AddsMentions}
use Rattle.name_rules.proofs.mentions.add_screens.Given as goal

abbrev pub invariant-loop-entry : goal.invariant-loop-entry
invariant-loop-entry l = AddsMentions (items_of l.table) (flat_map (λ entry. map (mention entry.line) (references_of_screen entry)) (take l.entry-index l.entries)) l.initial.mentions.items l.mentions.items
