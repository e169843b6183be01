use Rattle.std.proofs.Common.{◌≡◌, List, length, true, false}
use Rattle.cobol_words.specs.Joined.{Piece}
use Rattle.cobol_words.specs.Taking.{Follows, HasNoQuote, IsSolid, found_after, wants_none}
use Rattle.cobol_words.proofs.chunk.cut_words.Given as goal

abbrev pub invariant-words : goal.invariant-words
invariant-words l = record {
  solid : IsSolid l.rest;
  quotes : wants_none l.before.wish ≡ true → HasNoQuote l.rest;
  found : (text : List Piece) → Follows false text → found_after l.words l.before l.rest text ≡ found_after l.initial.words l.fn.start l.cells text;
}

abbrev pub decreases-words : goal.decreases-words
decreases-words l = length l.rest
