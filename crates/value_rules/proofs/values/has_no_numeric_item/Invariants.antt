-- Those that are left give what all of them give.
use Rattle.std.proofs.Common.{◌≡◌, drop}
use Rattle.std.specs.List.{list_any}
use Rattle.data_names.specs.Table.{items_of}
use Rattle.statement_parts.specs.Seen.{seen_all}
use Rattle.name_rules.specs.Mentions.{picture_found}
use Rattle.value_rules.specs.Kinds as k
use Rattle.value_rules.proofs.values.has_no_numeric_item.Given as goal

abbrev pub invariant-loop-item : goal.invariant-loop-item
invariant-loop-item l = list_any (λ item. k.is_no_numeric (picture_found (items_of l.table) item)) (seen_all (drop l.item-index l.items)) ≡ list_any (λ item. k.is_no_numeric (picture_found (items_of l.table) item)) (seen_all l.items)
