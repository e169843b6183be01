use Rattle.std.proofs.Common.{List, drop}
use Rattle.cobol_words.specs.Joined.{Piece}
use Rattle.cobol_words.specs.Text.{joined_all}
use Rattle.cobol_words.specs.Cutting.{IsCutter, HasRead, HasJoined}
use Rattle.cobol_words.proofs.joining.join_all.Given as goal

abbrev pub invariant-loop-line : goal.invariant-loop-line
invariant-loop-line l = record {
  kept : IsCutter l.cutter;
  joined : (text : List Piece) → HasRead l.initial.cutter text → HasJoined l.cutter l.last (drop l.line-index l.lines) (joined_all text l.first l.lines);
}
