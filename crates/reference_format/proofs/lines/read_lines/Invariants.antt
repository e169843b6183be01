use Rattle.std.proofs.Common.{◌≡◌, ◌+◌, ◌≤◌, length, map}
use Rattle.cob_base.specs.Lines.{LinesOf, lines_or_fault, judged, placed, cut_into_lines}
use Rattle.reference_format.proofs.Reading.{with_front}
use Rattle.reference_format.proofs.lines.read_lines.Given as goal

-- the lines so far and those of the rest are the lines of the text
abbrev pub invariant-loop-rest : goal.invariant-loop-rest
invariant-loop-rest l = record {
  so_far : with_front l.lines (lines_or_fault (map judged (placed l.number l.fixed (cut_into_lines l.rest)))) ≡ LinesOf l.text;
  counted : l.number + length l.rest ≤ length l.text + 1;
}

abbrev pub decreases-loop-rest : goal.decreases-loop-rest
decreases-loop-rest l = length l.rest
