use Rattle.std.proofs.Common.{rules}
use Rattle.statement_parts.proofs.Rows.{simple_hidden, simple_not}
use Rattle.statement_parts.proofs.leaves.+conditions.Goals as goal

pub add_simple-returns-in-Or : goal.add_simple-returns-in-Or
add_simple-returns-in-Or t c = search (rules, simple_hidden)

pub add_simple-returns-in-And : goal.add_simple-returns-in-And
add_simple-returns-in-And t c = search (rules, simple_hidden)

pub add_simple-returns-in-Not : goal.add_simple-returns-in-Not
add_simple-returns-in-Not t c = search (rules, simple_not)
