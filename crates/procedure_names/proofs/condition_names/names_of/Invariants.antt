-- The names of the 88 entries so far.
use Rattle.std.proofs.Common.{List, take}
use Rattle.std.specs.List.{AllZip}
use Rattle.data_names.specs.Items.{DataItem}
use Rattle.procedure_names.specs.Conditions.{NamedCondition}
use Rattle.procedure_names.specs.ConditionNames.{AreNumbered}
use Rattle.procedure_names.specs.SeenConditions.{IsKnownCondition}
use Rattle.procedure_names.proofs.condition_names.names_of.Given as goal

abbrev pub invariant-loop-at : goal.invariant-loop-at
invariant-loop-at l = (items : List DataItem) (named : List NamedCondition) → AllZip (IsKnownCondition items) l.all named → AreNumbered (take l.at named) l.names
