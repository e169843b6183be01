-- The sections so far.
use Rattle.std.proofs.Common.{◌<◌, ◌^◌, List, length, drop}
use Rattle.data_names.specs.Parts.{working_storage}
use Rattle.data_names.specs.Items.{DataItem, AreDataItems}
use Rattle.procedure_names.proofs.KnownConditions.{Gathered, all_sections}
use Rattle.procedure_names.proofs.conditions.conditions_of.Given as goal

abbrev pub invariant-loop-description : goal.invariant-loop-description
invariant-loop-description l = (items : List DataItem) → length items < 2 ^ 64 → AreDataItems l.front items
    → Gathered l.front items (all_sections (drop l.description-index l.description-items) (working_storage l.front)) l.all.items l.items
