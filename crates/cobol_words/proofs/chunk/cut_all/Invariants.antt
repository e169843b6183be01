use Rattle.std.proofs.Common.{◌≡◌, ◌+◌, ◌*◌, List, length, true}
use Rattle.cobol_words.specs.Joined.{Piece}
use Rattle.cobol_words.specs.Taking.{Follows, HasNoQuote, IsSolid, found_after, is_wished, wants_none}
use Rattle.cobol_words.proofs.chunk.cut_all.Given as goal

abbrev pub invariant-loop-rest : goal.invariant-loop-rest
invariant-loop-rest l = record {
  solid : IsSolid l.rest;
  quotes : wants_none l.before.wish ≡ true → HasNoQuote l.rest;
  found : (text : List Piece) → Follows true text → found_after l.words l.before l.rest text ≡ found_after l.initial.words l.fn.start l.cells text;
}

abbrev pub decreases-loop-rest : goal.decreases-loop-rest
decreases-loop-rest l = 2 * length l.rest + is_wished l.before
