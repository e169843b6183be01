use Rattle.std.proofs.Common.{[], ◌∙◌, sym, ap}
use Rattle.picture_rule.specs.Reading.{marks_of}
use Rattle.picture_rule.proofs.Extends.{stops_none, stops_other}
use Rattle.picture_rule.proofs.Fronts.{front_shorter}
use Rattle.picture_rule.proofs.spans.wanted_run.Goals as goal

pub returns-in-None-clause-none : goal.returns-in-None-clause-none
returns-in-None-clause-none c = stops_none _ _ c.in-None.ensures.none

pub returns-then-contains-clause-found : goal.returns-then-contains-clause-found
returns-then-contains-clause-found c =
    let found = c.in-Some.ensures.found in
    let front = rw c.in-Mark.is at found.2 in
    (found.0, found.1, record { among = sym c.contains.ensures.value ∙ c.if-contains.true; is = front; shorter = front_shorter _ _ _ _ front })

pub returns-else-contains-clause-none : goal.returns-else-contains-clause-none
returns-else-contains-clause-none c =
    stops_other _ _ _ _ [] c.in-Some.ensures.found.2 (ap marks_of c.in-Mark.is) (sym c.contains.ensures.value ∙ c.if-contains.false)

pub returns-in-Credit-clause-none : goal.returns-in-Credit-clause-none
returns-in-Credit-clause-none c = stops_other _ _ _ _ _ c.in-Some.ensures.found.2 (ap marks_of c.in-Credit.is) c.requires.credit

pub returns-in-Debit-clause-none : goal.returns-in-Debit-clause-none
returns-in-Debit-clause-none c = stops_other _ _ _ _ _ c.in-Some.ensures.found.2 (ap marks_of c.in-Debit.is) c.requires.debit
