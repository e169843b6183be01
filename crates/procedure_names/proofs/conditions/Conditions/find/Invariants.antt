-- What the numbers so far come to.
use Rattle.cob_base.specs.declared.divisions.Front.{Front}
use Rattle.data_names.specs.Table.{items_of}
use Rattle.procedure_names.specs.Conditions.{conditions}
use Rattle.procedure_names.specs.SeenConditions.{AreConditions}
use Rattle.procedure_names.proofs.Choices.{SoFar}
use Rattle.procedure_names.proofs.conditions.Conditions.find.Given as goal

abbrev pub invariant-loop-at : goal.invariant-loop-at
invariant-loop-at l = (front : Front) → AreConditions front (items_of l.table) l.self → SoFar (conditions front (items_of l.table)) l.reference l.numbers l.at-index l.found
