use Rattle.std.proofs.Common.{◌≡◌, ◌++◌, ◌-◌, List, replicate}
use Rattle.cobol_words.specs.declared.cutter.Stage.TheVariants as stages
use Rattle.cobol_words.specs.Joined.{Piece, cells}
use Rattle.cobol_words.specs.Cutting.{IsCutter, ahead}
use Rattle.cobol_words.proofs.joining.read_spaces.Given as goal

abbrev pub invariant-loop : goal.invariant-loop
invariant-loop l = record {
  kept : IsCutter l.cutter;
  stage : l.cutter.stage ≡ stages.Literal l.mark;
  found : (after : List Piece) → ahead l.cutter (cells l.line (replicate (l.count - l.counter) 32) ++ after) ≡ ahead l.initial.cutter (cells l.line (replicate l.count 32) ++ after);
}
