-- Those of the paragraphs so far.
use Rattle.std.proofs.Common.{◌≡◌, take}
use Rattle.procedure_rules.specs.Performed.{arrows_from}
use Rattle.procedure_rules.proofs.performed.arrows_of.Given as goal

abbrev pub invariant-loop-number : goal.invariant-loop-number
invariant-loop-number l = l.arrows.items ≡ arrows_from l.scope.program.now.paragraphs 0 (take l.number l.paragraphs)
