use Rattle.procedure_rules.proofs.performed.end_of.Goals as goal

pub returns-in-None : goal.returns-in-None
returns-in-None c = rw c.in-None.is c.paragraph_named-in-None.ensures
