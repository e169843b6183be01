use Rattle.std.proofs.Common.{◌∙◌}
use Rattle.cob_base.specs.Form.{opens}
use Rattle.cob_base.specs.Form.Form.{some}
use Rattle.cob_base.specs.ScreenEntries.{screen_clause}
use Rattle.phrase_parser.specs.Reading.{read, read_many}
use Rattle.entry_parser.proofs.ScreenDispatch.{opens_screen_clauses_is}
use Rattle.entry_parser.proofs.screen_entries.screen_clauses.Goals as goal

pub returns : goal.returns
unfolding read_many
returns c = c.many.ensures (opens screen_clause) (opens (some screen_clause)) (read screen_clause)
    (record { tells = λ w r h. h }) (record { tells = λ w r h. h ∙ opens_screen_clauses_is w.now }) (record { gives = λ alloc w r h. h.1 })
