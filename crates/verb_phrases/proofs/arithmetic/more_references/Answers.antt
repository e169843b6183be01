use Rattle.std.proofs.Common.{◌∙◌}
use Rattle.cob_base.specs.Form.{opens}
use Rattle.cob_base.specs.Form.Form.{some}
use Rattle.cob_base.specs.Phrases.{reference}
use Rattle.phrase_parser.specs.Reading.{read, read_many}
use Rattle.verb_phrases.proofs.ArithmeticDispatch.{opens_references_is}
use Rattle.verb_phrases.proofs.arithmetic.more_references.Goals as goal

pub returns : goal.returns
unfolding read_many
returns c = c.many.ensures (opens (reference c.args.depth)) (opens (some (reference c.args.depth))) (read (reference c.args.depth))
    (record { tells = λ w r h. h c.args.depth })
    (record { tells = λ w r h. h c.args.depth ∙ opens_references_is c.args.depth w.now }) (record { gives = λ alloc w r h. h.1 })
