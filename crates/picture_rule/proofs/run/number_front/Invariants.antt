use Rattle.std.proofs.Common.{◌≡◌, ℕ, length}
use Rattle.picture_rule.specs.Reading.{counted, digits_from}
use Rattle.picture_rule.proofs.run.number_front.Given as goal

-- The digits so far write n, and what is left goes on from there.
abbrev pub invariant-loop-rest : goal.invariant-loop-rest
invariant-loop-rest l = (n : ℕ) × (l.value ≡ counted n) × (digits_from 0 l.text ≡ digits_from n l.rest)

abbrev pub decreases-loop-rest : goal.decreases-loop-rest
decreases-loop-rest l = length l.rest
