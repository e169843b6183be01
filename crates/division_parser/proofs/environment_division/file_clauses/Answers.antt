use Rattle.cob_base.specs.Form.{opens}
use Rattle.cob_base.specs.Form.Form.{some}
use Rattle.cob_base.specs.FileEntries.{file_clause}
use Rattle.phrase_parser.specs.Reading.{read, read_many}
use Rattle.std.proofs.Common.{◌∙◌}
use Rattle.division_parser.proofs.FileDispatch.{opens_file_clauses_is}
use Rattle.division_parser.proofs.environment_division.file_clauses.Goals as goal

pub returns : goal.returns
unfolding read_many
returns c = c.many.ensures (opens file_clause) (opens (some file_clause)) (read file_clause)
    (record { tells = λ w r h. h }) (record { tells = λ w r h. h ∙ opens_file_clauses_is w.now }) (record { gives = λ alloc w r h. h.1 })
