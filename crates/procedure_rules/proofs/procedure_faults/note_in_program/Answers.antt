use Rattle.std.proofs.Common.{◌∙◌, ap}
use Rattle.statement_parts.specs.Statements.{statements}
use Rattle.statement_parts.specs.Seen.{seen_all}
use Rattle.procedure_names.specs.Scoped.{front_in}
use Rattle.procedure_rules.proofs.procedure_faults.note_in_program.Goals as goal

pub mentions_of-requires-clause-conditions : goal.mentions_of-requires-clause-conditions
mentions_of-requires-clause-conditions c = (front_in c.args.known.now.scope.now, c.requires.scope.conditions)

pub note_in_statements-requires-clause-statements : goal.note_in_statements-requires-clause-statements
note_in_statements-requires-clause-statements c = ap seen_all c.as_slice-all.ensures.value ∙ c.in_ok-statements.ensures ∙ ap statements c.as_slice.ensures

pub note_in_statements-requires-clause-mentions : goal.note_in_statements-requires-clause-mentions
note_in_statements-requires-clause-mentions c = c.in_ok-mentions.ensures (front_in c.args.known.now.scope.now) c.requires.scope.conditions
