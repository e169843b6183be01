use Rattle.name_rules.proofs.WithinTable.{within_table}
use Rattle.name_rules.proofs.subscripts.is_miscounted.Goals as goal

pub facts_at-requires-clause-within : goal.facts_at-requires-clause-within
facts_at-requires-clause-within c = let is = rw c.in-One.is at c.requires.found in within_table c.args.table.now c.in-One.at is.0 is.1
