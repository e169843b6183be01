use Rattle.std.proofs.Common.{◌≡◌, ◌++◌, List, drop}
use Rattle.cobol_words.specs.Joined.{Piece, cells}
use Rattle.cobol_words.specs.Cutting.{IsCutter, ahead}
use Rattle.cobol_words.proofs.joining.read_text.Given as goal

abbrev pub invariant-loop-byte : goal.invariant-loop-byte
invariant-loop-byte l = record {
  kept : IsCutter l.cutter;
  found : (after : List Piece) → ahead l.cutter (cells l.line (drop l.byte-index l.text) ++ after) ≡ ahead l.initial.cutter (cells l.line l.text ++ after);
}
