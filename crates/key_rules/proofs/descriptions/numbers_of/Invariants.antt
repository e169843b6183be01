-- The names so far.
use Rattle.std.proofs.Common.{take}
use Rattle.key_rules.specs.Descriptions.{AreNumbers}
use Rattle.key_rules.proofs.descriptions.numbers_of.Given as goal

abbrev pub invariant-loop-number : goal.invariant-loop-number
invariant-loop-number l = AreNumbers (take l.number l.files) l.names
