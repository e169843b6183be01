-- The numbers of the 88 entries so far.
use Rattle.std.proofs.Common.{List, take}
use Rattle.std.specs.List.{AllZip}
use Rattle.data_names.specs.Table.{items_of}
use Rattle.procedure_names.specs.Conditions.{NamedCondition}
use Rattle.procedure_names.specs.ConditionNames.{ArePaired}
use Rattle.procedure_names.specs.SeenConditions.{IsKnownCondition}
use Rattle.procedure_names.proofs.condition_names.numbers_of.Given as goal

abbrev pub invariant-loop-at : goal.invariant-loop-at
invariant-loop-at l = (named : List NamedCondition) → AllZip (IsKnownCondition (items_of l.table)) l.all named → ArePaired (take l.at named) l.asked l.numbers
