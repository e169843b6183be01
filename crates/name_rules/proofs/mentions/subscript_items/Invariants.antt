-- Those of the references so far.
use Rattle.std.proofs.Common.{[], take, map}
use Rattle.std.specs.List.{flat_map}
use Rattle.data_names.specs.Table.{items_of}
use Rattle.name_rules.specs.Mentions.{mention, item_of_subscript}
use Rattle.name_rules.specs.SeenMentions.{AddsMentions, seen_mention}
use Rattle.name_rules.proofs.mentions.subscript_items.Given as goal

abbrev pub invariant-loop-one : goal.invariant-loop-one
invariant-loop-one l =
    AddsMentions (items_of l.table) (flat_map (λ one. map (mention one.line) (item_of_subscript one.reference.subscript)) (take l.one-index (map seen_mention l.references))) [] l.subscripts.items
