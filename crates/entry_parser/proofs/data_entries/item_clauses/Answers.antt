use Rattle.std.proofs.Common.{◌∙◌}
use Rattle.cob_base.specs.Form.{opens}
use Rattle.cob_base.specs.Form.Form.{some}
use Rattle.cob_base.specs.DataEntries.{item_clause}
use Rattle.phrase_parser.specs.Reading.{read, read_many}
use Rattle.entry_parser.proofs.DataDispatch.{opens_item_clauses_is}
use Rattle.entry_parser.proofs.data_entries.item_clauses.Goals as goal

pub returns : goal.returns
unfolding read_many
returns c = c.many.ensures (opens item_clause) (opens (some item_clause)) (read item_clause)
    (record { tells = λ w r h. h }) (record { tells = λ w r h. h ∙ opens_item_clauses_is w.now }) (record { gives = λ alloc w r h. h.1 })
