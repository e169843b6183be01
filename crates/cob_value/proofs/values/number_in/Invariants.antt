use Rattle.std.proofs.Common.{take}
use Rattle.cob_value.proofs.Digits.{Amount}
use Rattle.cob_value.proofs.values.number_in.Given as goal

abbrev pub invariant-loop-byte : goal.invariant-loop-byte
invariant-loop-byte l = Amount (take l.byte-index l.bytes) l.number l.byte-index
