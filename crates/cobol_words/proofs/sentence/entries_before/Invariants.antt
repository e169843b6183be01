use Rattle.std.proofs.Common.{◌≡◌, ◌++◌, ◌∷◌, [], length}
use Rattle.cobol_words.specs.Entries.{EntriesOf}
use Rattle.cobol_words.proofs.Sentences.{with_words, cut_so_far}
use Rattle.cobol_words.proofs.sentence.entries_before.Given as goal

abbrev pub invariant-loop-word : goal.invariant-loop-word
invariant-loop-word l = with_words l.words (cut_so_far l.front.items l.behind.items) ≡ EntriesOf (l.fn.words ++ l.fn.last ∷ [])

abbrev pub decreases-loop-word : goal.decreases-loop-word
decreases-loop-word l = length l.words
