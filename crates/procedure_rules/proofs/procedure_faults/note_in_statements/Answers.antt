use Rattle.std.proofs.Common.{◌∙◌, ap, subst, ◌++◌, List, map}
use Rattle.std.specs.Prelude.{filter}
use Rattle.cob_base.specs.declared.statements.Located.{Located}
use Rattle.cob_base.specs.declared.statements.Statement.{Statement}
use Rattle.name_rules.specs.Faults.{faults_at}
use Rattle.procedure_rules.specs.Reading.{has_bad_lock}
use Rattle.procedure_names.specs.Scoped.{front_in, items_in}
use Rattle.procedure_names.specs.SeenNames.{AreStatementMentions}
use Rattle.procedure_names.proofs.Noted.{ten_parts}
use Rattle.procedure_rules.proofs.procedure_faults.note_in_statements.Goals as goal

pub note_miscounted_in_statements-requires-clause-mentions : goal.note_miscounted_in_statements-requires-clause-mentions
note_miscounted_in_statements-requires-clause-mentions c =
    subst (λ (some : List (Located Statement)). AreStatementMentions (front_in c.args.known.now.scope.now) (items_in c.args.known.now.scope.now) some c.args.mentions.now) c.requires.statements c.requires.mentions

pub returns : goal.returns
returns c =
    let scope = c.args.known.now.scope.now in
    let late = c.note_keys_and_forms.new.faults.found.items in
    let forms = c.in_ok-note_keys_and_forms.ensures in
    let locks = c.in_ok-note_bad_locks.ensures
    ∙ ap (λ (some : List (Located Statement)). late ++ faults_at 12 (map (λ (one : Located Statement). one.line) (filter (λ (one : Located Statement). has_bad_lock (front_in scope) (items_in scope) one.item) some))) c.requires.statements in
    (forms.0, forms.1, ten_parts _ _ _ _ _ _ _ _ _ _ _ _ _ _ _ c.in_ok-note_names_and_kinds.ensures forms.2 locks c.in_ok-note_miscounted_in_statements.ensures)
