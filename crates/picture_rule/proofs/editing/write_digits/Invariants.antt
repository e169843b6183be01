use Rattle.std.proofs.Common.{◌≡◌, ◌+◌, ℕ, ◌<◌, get_or}
use Rattle.picture_rule.specs.Editing.{digit_at, raised}
use Rattle.picture_rule.proofs.editing.write_digits.Given as goal

-- The digits so far are written.
abbrev pub invariant-loop-k : goal.invariant-loop-k
invariant-loop-k l = (k : ℕ) → k < l.k → get_or l.out k 0 ≡ digit_at l.digits l.units k + raised l.digits l.negative k
