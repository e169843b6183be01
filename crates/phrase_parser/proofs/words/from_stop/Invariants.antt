use Rattle.std.proofs.Common.{◌≡◌, length}
use Rattle.cob_base.specs.Form.{from_first, is_there}
use Rattle.cob_base.specs.Phrases as phrases
use Rattle.phrase_parser.proofs.words.from_stop.Given as goal

abbrev pub invariant-loop-words : goal.invariant-loop-words
invariant-loop-words l = from_first (λ token. is_there (phrases.is_stop token)) l.words ≡ from_first (λ token. is_there (phrases.is_stop token)) l.initial.words

abbrev pub decreases-loop-words : goal.decreases-loop-words
decreases-loop-words l = length l.words
