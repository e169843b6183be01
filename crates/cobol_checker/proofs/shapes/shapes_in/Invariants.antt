-- The shapes so far: with those of the files to come they are the shapes of all.
use Rattle.std.proofs.Common.{◌++◌, List, drop}
use Rattle.sharing_table.specs.declared.shape.Shape.{Shape}
use Rattle.data_names.specs.Table.{items_of}
use Rattle.cobol_checker.specs.Sound.{AreSoundFiles}
use Rattle.cobol_checker.specs.Shapes.{AreShapesOf}
use Rattle.cobol_checker.proofs.shapes.shapes_in.Given as goal

abbrev pub invariant-loop-file : goal.invariant-loop-file
invariant-loop-file l = record {
  sound : AreSoundFiles l.front (items_of l.table) (drop l.file-index l.files);
  shapes : (later : List Shape) → AreShapesOf l.front (items_of l.table) (drop l.file-index l.files) later
      → AreShapesOf l.front (items_of l.table) l.files (l.shapes ++ later);
}
