use Rattle.procedure_names.specs.SeenNames.{taken_names}
use Rattle.procedure_names.proofs.Taken.{taken_one}
use Rattle.procedure_names.proofs.double_paragraphs.take.Goals as goal

pub returns-in_ok-take_name-in-Some : goal.returns-in_ok-take_name-in-Some
returns-in_ok-take_name-in-Some c = λ front before h.
    taken_one front before c.args.paragraph.now c.in-Some.name c.in_ok-take_name-in-Some.field-0 c.take_name.new.names c.in-Some.is (c.in_ok-take_name-in-Some.ensures (taken_names front before) h)
