use Rattle.cobol_checker.proofs.Definite.{never_both, one_fault}
use Rattle.cobol_checker.proofs.laws.checks_are_definite.Goals as goal

pub returns-clause-never_both : goal.returns-clause-never_both
returns-clause-never_both c program fault is refused = never_both program fault is refused

pub returns-clause-one_fault : goal.returns-clause-one_fault
returns-clause-one_fault c program fault other one two = one_fault program fault other one two
