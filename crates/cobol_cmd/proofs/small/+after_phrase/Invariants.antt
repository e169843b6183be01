use Rattle.std.proofs.Common.{length}
use Rattle.cobol_cmd.proofs.small.+after_phrase.Given as goal

abbrev pub decreases-after_phrase : goal.decreases-after_phrase
decreases-after_phrase l = length l.words.now
