use Rattle.picture_rule.proofs.Outlines.{only_letters, only_numeric, only_edited, found_edited}
use Rattle.picture_rule.proofs.reading.outline_of.Goals as goal

pub returns-in-Some-clause-only : goal.returns-in-Some-clause-only
returns-in-Some-clause-only c marks form s =
    let f = c.in-Some.ensures.found in only_letters _ _ f.0 f.1 marks form f.2 f.3 (c.in-Some.ensures.only marks form) s

pub returns-in-Some-numeric-clause-only : goal.returns-in-Some-numeric-clause-only
returns-in-Some-numeric-clause-only c marks form s =
    let f = c.in-Some-numeric.ensures.found in only_numeric _ _ f.0 f.1 marks form f.2 f.3 (c.in_default.ensures.only marks form) (c.in-Some-numeric.ensures.only marks form) s

pub returns-clause-found : goal.returns-clause-found
returns-clause-found c = found_edited _ _ c.edited.ensures.found

pub returns-clause-only : goal.returns-clause-only
returns-clause-only c marks form s = only_edited _ _ marks form (c.in_default.ensures.only marks form) (c.in_default-numeric.ensures.only marks form) (c.edited.ensures.only marks form) s
