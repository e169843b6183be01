-- Those of the items so far.
use Rattle.std.proofs.Common.{take, map}
use Rattle.data_names.specs.Table.{items_of}
use Rattle.name_rules.specs.Mentions.{mention}
use Rattle.name_rules.specs.SeenMentions.{AddsMentions}
use Rattle.statement_parts.specs.Seen.{seen_all}
use Rattle.procedure_names.proofs.mentions.add_items.Given as goal

abbrev pub invariant-loop-item : goal.invariant-loop-item
invariant-loop-item l = AddsMentions (items_of l.table) (map (mention l.one.line) (take l.item-index (seen_all l.item-items))) l.initial.mentions.items l.mentions.items
