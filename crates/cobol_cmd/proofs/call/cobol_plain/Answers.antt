use Rattle.std.proofs.Common.{sym, ◌∙◌}
use Rattle.cobol_cmd.proofs.Judged.{refused_tells, complete_tells, only_tells, done_tells, cut_tells}
use Rattle.cobol_cmd.proofs.call.cobol_plain.Goals as goal

pub returns-clause-refused : goal.returns-clause-refused
returns-clause-refused g c = λ asked files is_asked is_held. record {
  only = λ is. only_tells c.programs_are_definite.ensures.programs c.checks_are_definite.ensures.never_both asked files _ _ _ _ _ _ _ _ _ c.answer.ensures.tells is_asked is_held (sym c.status.ensures ∙ is);
  always = λ refused. rw c.status.ensures (refused_tells c.programs_are_definite.ensures.programs c.checks_are_definite.ensures.never_both asked files _ _ _ _ _ _ _ refused.0 _ _ c.answer.ensures.tells is_asked is_held refused.1);
}

pub returns-clause-complete : goal.returns-clause-complete
returns-clause-complete g c = λ asked text output files is_asked is_held found short prints no_read no_put.
    rw c.status.ensures (complete_tells c.programs_are_definite.ensures.programs c.checks_are_definite.ensures.never_both asked files _ _ _ _ _ _ _ text output _ _ c.answer.ensures.tells is_asked is_held found short prints no_read no_put)

pub returns-clause-done : goal.returns-clause-done
returns-clause-done g c = λ is. done_tells _ _ _ _ _ _ _ _ _ c.answer.ensures.tells (sym c.status.ensures ∙ is)

pub returns-clause-cut_short : goal.returns-clause-cut_short
returns-clause-cut_short g c = λ is. cut_tells _ _ _ _ _ _ _ _ _ c.answer.ensures.tells (sym c.status.ensures ∙ is)
