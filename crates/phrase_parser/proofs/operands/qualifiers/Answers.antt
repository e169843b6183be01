use Rattle.std.proofs.Common.{◌∙◌}
use Rattle.cob_base.specs.Form.{opens}
use Rattle.cob_base.specs.Form.Form.{some}
use Rattle.cob_base.specs.Phrases.{qualifier}
use Rattle.phrase_parser.specs.Reading.{read, read_many}
use Rattle.phrase_parser.proofs.Dispatch.{opens_qualifiers_is}
use Rattle.phrase_parser.proofs.operands.qualifiers.Goals as goal

pub returns : goal.returns
unfolding read_many
returns c = c.many.ensures (opens qualifier) (opens (some qualifier)) (read qualifier)
    (record { tells = λ w r h. h }) (record { tells = λ w r h. h ∙ opens_qualifiers_is w.now }) (record { gives = λ alloc w r h. h.1 })
