use Rattle.std.proofs.Common.{◌≡◌, ℕ, ◌<◌, get_or}
use Rattle.cob_value.proofs.texts.fit.Given as goal

-- the places so far are filled
abbrev pub invariant-loop-i : goal.invariant-loop-i
invariant-loop-i l = (k : ℕ) → k < l.i → get_or l.out k 0 ≡ get_or l.bytes k 32
