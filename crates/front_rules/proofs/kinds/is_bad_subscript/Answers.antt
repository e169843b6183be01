use Rattle.name_rules.proofs.WithinTable.{within_table}
use Rattle.front_rules.proofs.kinds.is_bad_subscript.Goals as goal

pub item_at-requires : goal.item_at-requires
item_at-requires c = let is = rw c.in-One.is at c.requires.found in within_table c.args.table.now c.in-One.at is.0 is.1
