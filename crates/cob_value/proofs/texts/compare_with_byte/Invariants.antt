use Rattle.std.proofs.Common.{◌≡◌, ℕ, ◌<◌, get_or}
use Rattle.cob_value.proofs.texts.compare_with_byte.Given as goal

-- the bytes so far are this one
abbrev pub invariant-loop-each : goal.invariant-loop-each
invariant-loop-each l = (k : ℕ) → k < l.each-index → get_or l.bytes k 0 ≡ l.byte
