use Rattle.std.proofs.Common.{take}
use Rattle.picture_rule.proofs.Amounts.{Places}
use Rattle.picture_rule.proofs.reading_back.millionths_among.Given as goal

abbrev pub invariant-loop-byte : goal.invariant-loop-byte
invariant-loop-byte l = Places (take l.byte-index l.bytes) l.number l.places
