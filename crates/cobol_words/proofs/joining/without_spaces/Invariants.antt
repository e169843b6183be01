use Rattle.std.proofs.Common.{◌≡◌, length}
use Rattle.cob_base.specs.Bytes.{behind_spaces}
use Rattle.cobol_words.proofs.joining.without_spaces.Given as goal

abbrev pub invariant-loop-rest : goal.invariant-loop-rest
invariant-loop-rest l = behind_spaces l.rest ≡ behind_spaces l.text

abbrev pub decreases-loop-rest : goal.decreases-loop-rest
decreases-loop-rest l = length l.rest
