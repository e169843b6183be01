-- The entries so far.
use Rattle.std.proofs.Common.{◌<◌, ◌≤◌, ◌+◌, ◌^◌, List, length, drop, None}
use Rattle.std.specs.List.{AllZip}
use Rattle.data_names.specs.Parts.{item_entries}
use Rattle.data_names.specs.Items.{DataItem}
use Rattle.procedure_names.specs.Conditions.{NamedCondition}
use Rattle.procedure_names.specs.SeenConditions.{IsKnownCondition, IsStepTo}
use Rattle.procedure_names.proofs.conditions.add_section.Given as goal

abbrev pub invariant-loop-entry : goal.invariant-loop-entry
invariant-loop-entry l = (items : List DataItem) (made : List NamedCondition) → length items < 2 ^ 64 → l.before + length (item_entries l.entries) ≤ length items → AllZip (IsKnownCondition items) l.initial.all.items made
    → IsStepTo items made None (record { items = l.before; last = None }) l.entries (drop l.entry-index l.entries) l.all.items l.place
