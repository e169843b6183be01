-- Those of the clauses so far.
use Rattle.std.proofs.Common.{take}
use Rattle.std.specs.List.{flat_map}
use Rattle.data_names.specs.Table.{items_of}
use Rattle.name_rules.proofs.MentionsOf.{of_alternate}
use Rattle.name_rules.specs.SeenMentions.{AddsMentions}
use Rattle.name_rules.proofs.mentions.add_alternates.Given as goal

abbrev pub invariant-loop-clause : goal.invariant-loop-clause
invariant-loop-clause l = AddsMentions (items_of l.table) (flat_map (of_alternate l.line) (take l.clause-index l.clauses)) l.initial.mentions.items l.mentions.items
