use Rattle.procedure_names.specs.Scoped.{front_in, items_in}
use Rattle.procedure_names.proofs.ScopeOf.{no_record, record_under}
use Rattle.procedure_names.proofs.scope.Scope.record_of_file.Goals as goal

pub returns-in-Some : goal.returns-in-Some
returns-in-Some c =
    let front = front_in c.args.self.now in
    let items = items_in c.args.self.now in
    let is = rw c.in-Some.is at (c.in_ok-description.ensures front items c.requires.descriptions) in
    record_under front items c.args.file.now c.in-Some.description is.0 is.1

pub returns-in-None : goal.returns-in-None
returns-in-None c =
    let front = front_in c.args.self.now in
    let items = items_in c.args.self.now in
    no_record front items c.args.file.now (rw c.in-None.is at (c.in_ok-description.ensures front items c.requires.descriptions))
