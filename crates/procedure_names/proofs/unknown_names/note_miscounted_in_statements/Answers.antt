use Rattle.std.proofs.Common.{◌∙◌, ap, ◌++◌, List, map}
use Rattle.std.specs.Prelude.{filter, is_some, option_map}
use Rattle.data_names.specs.References.{found}
use Rattle.name_rules.specs.Mentions as m
use Rattle.name_rules.specs.SeenMentions.{seen_mention}
use Rattle.name_rules.specs.Subscripts.{is_miscounted}
use Rattle.name_rules.specs.Faults.{faults_at}
use Rattle.statement_parts.specs.Statements.{statements}
use Rattle.procedure_names.specs.Conditions.{found_condition}
use Rattle.procedure_names.specs.Mentions.{item_mentions, subscript_mentions}
use Rattle.procedure_names.specs.Scoped.{front_in, items_in}
use Rattle.procedure_names.specs.SeenNames.{seen_condition}
use Rattle.procedure_names.proofs.Noted.{noted_parts, noted_twice}
use Rattle.procedure_names.proofs.unknown_names.note_miscounted_in_statements.Goals as goal

pub returns : goal.returns
returns c =
    let scope = c.args.scope.now in
    let front = front_in scope in
    let items = items_in scope in
    let all = statements scope.program.now.paragraphs in
    let h = c.requires.mentions in
    let line = λ (one : m.Mention). one.line in
    let test = λ (one : m.Mention). is_miscounted (is_some one.reference.subscript) (found items one.reference) in
    let other = λ (one : m.Mention). is_miscounted (is_some one.reference.subscript) (option_map (λ named. named.spot) (found_condition front items one.reference)) in
    let old = c.args.faults.now.found.items in
    let mid = c.note_miscounted_in.new.faults.found.items in
    let late = c.note_miscounted_in-2.new.faults.found.items in
    let one = c.in_ok-note_miscounted_in.ensures ∙ ap (λ (some : List m.Mention). old ++ faults_at 13 (map line (filter test some))) (ap (map seen_mention) c.as_slice.ensures.value ∙ h.items_are.seen) in
    let two = c.in_ok-note_miscounted_in-2.ensures ∙ ap (λ (some : List m.Mention). mid ++ faults_at 13 (map line (filter test some))) (ap (map seen_mention) c.as_slice-2.ensures.value ∙ h.subscripts_are.seen) in
    let three = c.in_ok-note_miscounted_conditions.ensures ∙ ap (λ (some : List m.Mention). late ++ faults_at 13 (map line (filter other some))) (ap (map seen_condition) c.as_slice-3.ensures.value ∙ h.conditions_are.seen) in
    noted_twice 13 _ _ _ _ _ (noted_parts 13 line test (item_mentions all) (subscript_mentions all) old mid late one two) three
