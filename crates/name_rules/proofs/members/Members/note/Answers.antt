use Rattle.name_rules.proofs.Twins.{outside_groups, nameless}
use Rattle.name_rules.proofs.members.Members.note.Goals as goal

pub returns-in-None : goal.returns-in-None
returns-in-None c = λ before h.
    let made = outside_groups before c.args.line c.args.group c.args.name.now c.args.self.now c.args.faults.now.found.items c.in-None.is h in
    (made.found, made.members)

pub returns-in-None-name : goal.returns-in-None-name
returns-in-None-name c = λ before h.
    let made = nameless before c.args.line c.args.group c.args.name.now c.args.self.now c.args.faults.now.found.items c.in-None-name.is h in
    (made.found, made.members)
