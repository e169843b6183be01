-- The operands so far.
use Rattle.std.proofs.Common.{◌≡◌, ◌++◌, take}
use Rattle.statement_parts.specs.Seen.{seen_all}
use Rattle.statement_parts.proofs.values.add_operands.Given as goal

abbrev pub invariant-loop-operand : goal.invariant-loop-operand
invariant-loop-operand l = seen_all l.all.items ≡ seen_all l.initial.all.items ++ take l.operand-index l.operands
