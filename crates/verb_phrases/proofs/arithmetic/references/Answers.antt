use Rattle.cob_base.specs.Form.{opens}
use Rattle.cob_base.specs.Phrases.{reference}
use Rattle.cob_base.specs.Statements.{references}
use Rattle.phrase_parser.specs.Reading.{read}
use Rattle.verb_phrases.proofs.arithmetic.references.Goals as goal

pub returns : goal.returns
unfolding references
returns c = c.some.ensures (opens (reference c.args.depth)) (read (reference c.args.depth))
    (record { tells = λ w r h. h c.args.depth }) (record { gives = λ alloc w r h. h.1 })
