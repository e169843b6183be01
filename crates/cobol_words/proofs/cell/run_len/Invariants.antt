use Rattle.std.proofs.Common.{◌≡◌, ◌+◌, drop}
use Rattle.std.specs.List.{prefix_len}
use Rattle.cobol_words.specs.Runs.{is_run_byte}
use Rattle.cobol_words.proofs.cell.run_len.Given as goal

abbrev pub invariant-loop-len : goal.invariant-loop-len
invariant-loop-len l = l.len + prefix_len (λ cell. is_run_byte cell.byte) (drop l.len l.cells) ≡ prefix_len (λ cell. is_run_byte cell.byte) l.cells
