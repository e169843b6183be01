use Rattle.std.proofs.Common.{length}
use Rattle.picture_rule.proofs.Extends.{GoesOn}
use Rattle.picture_rule.proofs.reading.write_out.Given as goal

-- The marks so far are written out, and the text goes on with what the rest writes.
abbrev pub invariant-loop-run : goal.invariant-loop-run
invariant-loop-run l = GoesOn l.text l.marks.items l.rest

abbrev pub decreases-loop-run : goal.decreases-loop-run
decreases-loop-run l = length l.rest
