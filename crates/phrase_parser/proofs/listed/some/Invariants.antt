use Rattle.std.proofs.Common.{◌≡◌, ◌-◌, List, Bool}
use Rattle.cob_base.specs.declared.tokens.Token.{Token}
use Rattle.phrase_parser.specs.Reading.{Outcome, read_more, read_some}
use Rattle.phrase_parser.specs.Repeats.{Tests, Repeats}
use Rattle.phrase_parser.proofs.Lists.{with_front}
use Rattle.phrase_parser.proofs.listed.some.Given as goal

abbrev pub invariant-loop-turn : goal.invariant-loop-turn
invariant-loop-turn g l = (opened : List Token → Bool) (read_one : List Token → Outcome g.row.T.Denot) → Tests opened (goal.O-post g l.opens) → Repeats read_one l.depth (goal.F-post g l.one)
    → with_front l.all (read_more opened read_one (l._turn-end - l._turn) l.rest) ≡ read_some opened read_one l.fn.words
