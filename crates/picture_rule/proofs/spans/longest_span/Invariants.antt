use Rattle.std.proofs.Common.{◌≡◌, ℕ, List, length}
use Rattle.std.specs.Prelude.{count_by}
use Rattle.picture_rule.specs.Picture.{AllAmong, is_digit_mark}
use Rattle.picture_rule.specs.Reading.{counted}
use Rattle.picture_rule.specs.Span.{Reads}
use Rattle.picture_rule.proofs.spans.longest_span.Given as goal

-- The marks so far are wanted and counted, and the text goes on with what the rest writes.
abbrev pub invariant-loop-mark : goal.invariant-loop-mark
invariant-loop-mark l = (marks : List ℕ) × AllAmong l.wanted marks × Reads l.text marks l.rest × (l.length ≡ counted (length marks)) × (l.digits ≡ counted (count_by is_digit_mark marks))

abbrev pub decreases-loop-mark : goal.decreases-loop-mark
decreases-loop-mark l = length l.rest
