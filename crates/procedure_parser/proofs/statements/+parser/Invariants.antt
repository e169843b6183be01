use Rattle.std.proofs.Common.{◌+◌, ◌*◌}
use Rattle.procedure_parser.proofs.statements.+parser.Given as goal

abbrev pub decreases-by_verb : goal.decreases-by_verb
decreases-by_verb l = 5 * l.depth + 3

abbrev pub decreases-statement_by_word : goal.decreases-statement_by_word
decreases-statement_by_word l = 5 * l.depth + 0

abbrev pub decreases-statement : goal.decreases-statement
decreases-statement l = 5 * l.depth + 1

abbrev pub decreases-statements : goal.decreases-statements
decreases-statements l = 5 * l.depth + 2
