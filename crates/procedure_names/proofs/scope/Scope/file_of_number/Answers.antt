use Rattle.std.proofs.Common.{◌≡◌, subst, Option}
use Rattle.std.specs.Prelude.{IfOk}
use Rattle.cob_base.specs.declared.divisions.FileDescription.{FileDescription}
use Rattle.data_names.specs.Parts.{files}
use Rattle.procedure_names.specs.Firsts.{at_number}
use Rattle.procedure_names.specs.Names.{file_of_description}
use Rattle.procedure_names.specs.Scoped.{front_in}
use Rattle.procedure_names.proofs.scope.Scope.file_of_number.Goals as goal

pub returns-in-Some : goal.returns-in-Some
returns-in-Some c =
    rw c.in-Some.is
    (subst (λ (d : Option FileDescription). IfOk c.file_of_description.result (λ file. at_number (files (front_in c.args.self.now)) file ≡ file_of_description (front_in c.args.self.now) d)) c.description_at.ensures c.file_of_description.ensures)
