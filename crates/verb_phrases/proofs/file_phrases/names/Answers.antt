use Rattle.cob_base.specs.Form.{opens}
use Rattle.cob_base.specs.Phrases.{name}
use Rattle.phrase_parser.specs.Reading.{read}
use Rattle.verb_phrases.proofs.file_phrases.names.Goals as goal

pub returns : goal.returns
returns c = c.some.ensures (opens name) (read name) (record { tells = λ w r h. h }) (record { gives = λ alloc w r h. h.1 })
