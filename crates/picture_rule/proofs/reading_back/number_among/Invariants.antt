use Rattle.std.proofs.Common.{take}
use Rattle.picture_rule.proofs.Amounts.{Amount}
use Rattle.picture_rule.proofs.reading_back.number_among.Given as goal

abbrev pub invariant-loop-byte : goal.invariant-loop-byte
invariant-loop-byte l = Amount (take l.byte-index l.bytes) l.number l.byte-index
