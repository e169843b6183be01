-- The places so far: with those of the clauses to come they are the places of all.
use Rattle.std.proofs.Common.{◌++◌, List, drop}
use Rattle.sharing_table.specs.declared.shape.KeyPlace.{KeyPlace}
use Rattle.data_names.specs.Table.{items_of}
use Rattle.entry_clauses.specs.Clauses.{alternates}
use Rattle.cobol_checker.specs.Sound.{AreKeysIn}
use Rattle.cobol_checker.specs.Shapes.{AreKeyPlaces}
use Rattle.cobol_checker.proofs.shapes.alternates.Given as goal

abbrev pub invariant-loop-clause : goal.invariant-loop-clause
invariant-loop-clause l = record {
  inside : AreKeysIn (items_of l.table) l.begins (alternates (drop l.clause-index l.clauses));
  places : (later : List KeyPlace) → AreKeyPlaces (items_of l.table) l.begins (alternates (drop l.clause-index l.clauses)) later
      → AreKeyPlaces (items_of l.table) l.begins (alternates l.clauses) (l.places.items ++ later);
}
