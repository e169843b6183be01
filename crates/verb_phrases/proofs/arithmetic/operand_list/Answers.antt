use Rattle.cob_base.specs.Form.{opens}
use Rattle.cob_base.specs.Phrases.{operand}
use Rattle.cob_base.specs.Statements.{operand_list}
use Rattle.phrase_parser.specs.Reading.{read}
use Rattle.verb_phrases.proofs.arithmetic.operand_list.Goals as goal

pub returns : goal.returns
unfolding operand_list
returns c = c.some.ensures (opens (operand c.args.depth)) (read (operand c.args.depth))
    (record { tells = λ w r h. h c.args.depth }) (record { gives = λ alloc w r h. h.1 })
