use Rattle.std.proofs.Common.{◌≡◌, ◌++◌, ◌+◌, false, length, drop}
use Rattle.cobol_words.specs.Quoted.{quoted}
use Rattle.cobol_words.specs.Taking.{text_of}
use Rattle.cobol_words.proofs.literal.undoubled.Given as goal

abbrev pub invariant-loop-cell : goal.invariant-loop-cell
invariant-loop-cell l = record {
  so_far : l.bytes.items ++ (quoted l.mark l.marked (text_of (drop l.cell-index l.cells))).bytes ≡ (quoted l.mark false (text_of l.cells)).bytes;
  whole : l.cell-index + (quoted l.mark l.marked (text_of (drop l.cell-index l.cells))).more ≡ length l.cells;
}
