use Rattle.std.proofs.Common.{◌∙◌, sym, ap, subst, ◌==◌, not, ◌++◌, List, map}
use Rattle.std.specs.Prelude.{filter}
use Rattle.cob_base.specs.declared.statements.Located.{Located}
use Rattle.cob_base.specs.declared.statements.Statement.{Statement}
use Rattle.data_names.specs.References.{count_of_matches}
use Rattle.name_rules.specs.declared.mentions.Mention.{Mention}
use Rattle.name_rules.specs.Mentions as m
use Rattle.name_rules.specs.SeenMentions.{AreFoundAs}
use Rattle.name_rules.specs.Faults.{faults_at}
use Rattle.statement_parts.specs.Statements.{statements}
use Rattle.procedure_names.specs.declared.mentions.ConditionMention.{ConditionMention}
use Rattle.procedure_names.specs.Names.{is_known}
use Rattle.procedure_names.specs.Mentions.{Asked, asked_names, item_mentions, subscript_mentions, condition_mentions}
use Rattle.procedure_names.specs.Scoped.{front_in, items_in}
use Rattle.procedure_names.specs.SeenNames.{AreFoundConditions, AreStatementMentions}
use Rattle.procedure_names.proofs.Noted.{noted_parts, noted_twice}
use Rattle.procedure_names.proofs.unknown_names.note_unknown_in_statements.Goals as goal

pub returns : goal.returns
returns c =
    let scope = c.args.scope.now in
    let front = front_in scope in
    let items = items_in scope in
    let all = statements scope.program.now.paragraphs in
    let h = subst (λ (some : List (Located Statement)). AreStatementMentions front items some c.args.mentions.now) c.requires.statements c.requires.mentions in
    let first = subst (λ (made : List Mention). AreFoundAs items (item_mentions all) made) (sym c.as_slice.ensures.value) h.items_are in
    let second = subst (λ (made : List Mention). AreFoundAs items (subscript_mentions all) made) (sym c.as_slice-2.ensures.value) h.subscripts_are in
    let third = subst (λ (made : List ConditionMention). AreFoundConditions front items (condition_mentions all) made) (sym c.as_slice-3.ensures.value) h.conditions_are in
    let both = noted_parts 1 (λ (one : m.Mention). one.line) (λ (one : m.Mention). count_of_matches items one.reference == 0) (item_mentions all) (subscript_mentions all) _ _ _
    (c.in_ok-note_unknown.ensures items (item_mentions all) first) (c.in_ok-note_unknown-2.ensures items (subscript_mentions all) second) in
    let names = c.in_ok-note_unknown_names.ensures
    ∙ ap (λ (some : List (Located Statement)). c.note_unknown_conditions.new.faults.found.items ++ faults_at 1 (map (λ (one : Asked). one.line) (filter (λ (one : Asked). not (is_known scope.program.now items one.name)) (asked_names some)))) c.requires.statements in
    noted_twice 1 _ _ _ _ _ (noted_twice 1 _ _ _ _ _ (noted_twice 1 _ _ _ _ _ both (c.in_ok-note_unknown_conditions.ensures front items (condition_mentions all) third)) names) c.in_ok-note_end.ensures
