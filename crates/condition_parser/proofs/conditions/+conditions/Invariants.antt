use Rattle.std.proofs.Common.{◌+◌, ◌*◌}
use Rattle.condition_parser.proofs.conditions.+conditions.Given as goal

abbrev pub decreases-parentheses_by_word : goal.decreases-parentheses_by_word
decreases-parentheses_by_word l = 20 * l.depth + 0

abbrev pub decreases-parentheses : goal.decreases-parentheses
decreases-parentheses l = 20 * l.depth + 1

abbrev pub decreases-simple : goal.decreases-simple
decreases-simple l = 20 * l.depth + 2

abbrev pub decreases-single : goal.decreases-single
decreases-single l = 20 * l.depth + 3

abbrev pub decreases-and_single : goal.decreases-and_single
decreases-and_single l = 20 * l.depth + 4

abbrev pub decreases-more_and : goal.decreases-more_and
decreases-more_and l = 20 * l.depth + 5

abbrev pub decreases-all_of : goal.decreases-all_of
decreases-all_of l = 20 * l.depth + 6

abbrev pub decreases-or_all_of : goal.decreases-or_all_of
decreases-or_all_of l = 20 * l.depth + 7

abbrev pub decreases-more_or : goal.decreases-more_or
decreases-more_or l = 20 * l.depth + 8

abbrev pub decreases-cond : goal.decreases-cond
decreases-cond l = 20 * l.depth + 9
