-- Those of the statements so far.
use Rattle.std.proofs.Common.{◌≡◌, ◌++◌, take}
use Rattle.std.specs.List.{flat_map}
use Rattle.statement_parts.specs.Seen.{seen_all}
use Rattle.procedure_rules.specs.Performed.{arrow_of}
use Rattle.procedure_rules.proofs.performed.add_arrows_of.Given as goal

abbrev pub invariant-loop-one : goal.invariant-loop-one
invariant-loop-one l =
    l.arrows.items ≡ l.initial.arrows.items ++ flat_map (λ one. arrow_of l.scope.program.now.paragraphs l.from one.item) (take l.one-index (seen_all l.statements))
