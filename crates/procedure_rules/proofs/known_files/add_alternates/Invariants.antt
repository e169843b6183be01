-- The clauses still to come add what is missing.
use Rattle.std.proofs.Common.{◌≡◌, ◌||◌, ℕ, drop, Some}
use Rattle.std.specs.Prelude.{slice_get}
use Rattle.std.specs.List.{list_any}
use Rattle.data_names.specs.Items.{DataItem}
use Rattle.data_names.specs.Spots.{Spot, spots}
use Rattle.procedure_rules.specs.KnownFiles.{has_number, is_alternate}
use Rattle.procedure_names.specs.Scoped.{items_in}
use Rattle.procedure_rules.proofs.known_files.add_alternates.Given as goal

abbrev pub invariant-loop-clause : goal.invariant-loop-clause
invariant-loop-clause l = (number : ℕ) (spot : Spot DataItem) → slice_get (spots (items_in l.scope)) number ≡ Some spot
    → (has_number l.keys number || list_any (is_alternate (items_in l.scope) spot) (drop l.clause-index l.clauses)) ≡ (has_number l.initial.keys number || list_any (is_alternate (items_in l.scope) spot) l.clauses)
