use Rattle.std.proofs.Common.{◌≡◌, ◌-◌, List, Bool}
use Rattle.cob_base.specs.declared.tokens.SeenEntry.{SeenEntry}
use Rattle.phrase_parser.specs.Reading.{read_more, read_some}
use Rattle.phrase_parser.specs.EntryReading.{EntryOutcome}
use Rattle.phrase_parser.specs.Repeats.{Tests, RepeatsEntries}
use Rattle.phrase_parser.proofs.Lists.{with_front}
use Rattle.phrase_parser.proofs.listed.some_entries.Given as goal

abbrev pub invariant-loop-turn : goal.invariant-loop-turn
invariant-loop-turn g l = (begun : List SeenEntry → Bool) (read_one : List SeenEntry → EntryOutcome g.row.T.Denot) → Tests begun (goal.O-post g l.begins) → RepeatsEntries read_one (goal.F-post g l.one)
    → with_front l.all (read_more begun read_one (l._turn-end - l._turn) l.rest) ≡ read_some begun read_one l.fn.entries
