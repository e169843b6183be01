use Rattle.cob_base.specs.Form.{opens}
use Rattle.cob_base.specs.StatementPhrases.{open_phrase}
use Rattle.phrase_parser.specs.Reading.{read}
use Rattle.verb_phrases.proofs.file_phrases.open_phrases.Goals as goal

pub returns : goal.returns
returns c = c.some.ensures (opens (open_phrase c.args.depth)) (read (open_phrase c.args.depth))
    (record { tells = λ w r h. h c.args.depth }) (record { gives = λ alloc w r h. h.1 })
