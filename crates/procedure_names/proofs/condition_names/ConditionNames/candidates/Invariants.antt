-- All that match are among the numbers so far.
use Rattle.std.proofs.Common.{List}
use Rattle.procedure_names.specs.Conditions.{NamedCondition}
use Rattle.procedure_names.specs.ConditionNames.{AreConditionNames, IsCover}
use Rattle.procedure_names.proofs.condition_names.ConditionNames.candidates.Given as goal

abbrev pub invariant-loop-qualifier : goal.invariant-loop-qualifier
invariant-loop-qualifier l = (all : List NamedCondition) → AreConditionNames all l.self → IsCover all l.reference l.best
