use Rattle.std.proofs.Common.{◌+◌, ◌*◌}
use Rattle.condition_parser.proofs.expressions.+expressions.Given as goal

abbrev pub decreases-parentheses_by_word : goal.decreases-parentheses_by_word
decreases-parentheses_by_word l = 20 * l.depth + 0

abbrev pub decreases-parentheses : goal.decreases-parentheses
decreases-parentheses l = 20 * l.depth + 1

abbrev pub decreases-atom : goal.decreases-atom
decreases-atom l = 20 * l.depth + 2

abbrev pub decreases-factor : goal.decreases-factor
decreases-factor l = 20 * l.depth + 3

abbrev pub decreases-scaled : goal.decreases-scaled
decreases-scaled l = 20 * l.depth + 4

abbrev pub decreases-more_scaled : goal.decreases-more_scaled
decreases-more_scaled l = 20 * l.depth + 5

abbrev pub decreases-term : goal.decreases-term
decreases-term l = 20 * l.depth + 6

abbrev pub decreases-added : goal.decreases-added
decreases-added l = 20 * l.depth + 7

abbrev pub decreases-more_added : goal.decreases-more_added
decreases-more_added l = 20 * l.depth + 8

abbrev pub decreases-expr : goal.decreases-expr
decreases-expr l = 20 * l.depth + 9
