use Rattle.std.proofs.Common.{◌∙◌, ap, subst, ◌++◌, List, map}
use Rattle.std.specs.Prelude.{filter}
use Rattle.cob_base.specs.declared.statements.Located.{Located}
use Rattle.cob_base.specs.declared.statements.Statement.{Statement}
use Rattle.data_names.specs.References.{found}
use Rattle.name_rules.specs.Mentions as m
use Rattle.front_rules.specs.Kinds.{is_no_integer}
use Rattle.name_rules.specs.Faults.{faults_at}
use Rattle.statement_parts.specs.Statements.{statements}
use Rattle.name_rules.specs.SeenMentions.{seen_mention}
use Rattle.procedure_names.specs.UnknownNames.{unknown_in_statements, ambiguous_in_statements}
use Rattle.procedure_names.specs.DoubleParagraphs.{double_paragraphs}
use Rattle.procedure_rules.specs.Kinds.{is_of_wrong_kind, wrong_kinds_in_statements}
use Rattle.procedure_names.specs.Scoped.{front_in, items_in}
use Rattle.procedure_names.specs.SeenNames.{AreStatementMentions}
use Rattle.procedure_names.proofs.Noted.{four_parts}
use Rattle.procedure_rules.proofs.procedure_faults.note_names_and_kinds.Goals as goal

pub note_wrong_kinds_in_statements-requires-clause-found : goal.note_wrong_kinds_in_statements-requires-clause-found
note_wrong_kinds_in_statements-requires-clause-found c = c.requires.mentions.subscripts_are.found

pub returns : goal.returns
returns c =
    let scope = c.args.known.now.scope.now in
    let items = items_in scope in
    let program = scope.program.now in
    let all = statements program.paragraphs in
    let h = subst (λ (some : List (Located Statement)). AreStatementMentions (front_in scope) items some c.args.mentions.now) c.requires.statements c.requires.mentions in
    let second = c.in_ok-note_ambiguous_in_statements.ensures program items h in
    let late = c.note_double_paragraphs.new.faults.found.items in
    let wrong = λ (some : List (Located Statement)) (others : List m.Mention).
    map (λ (one : Located Statement). one.line) (filter (λ (one : Located Statement). is_of_wrong_kind program items one.item) some)
    ++ map (λ (one : m.Mention). one.line) (filter (λ (one : m.Mention). is_no_integer (found items one.reference)) others) in
    let last = c.in_ok-note_wrong_kinds_in_statements.ensures ∙ ap (λ (some : List (Located Statement)). late ++ faults_at 6 (wrong some (map seen_mention c.args.mentions.now.subscripts.items))) c.requires.statements
    ∙ ap (λ (others : List m.Mention). late ++ faults_at 6 (wrong all others)) h.subscripts_are.seen in
    four_parts (faults_at 1 (unknown_in_statements program items)) (faults_at 2 (ambiguous_in_statements program items)) (faults_at 3 (double_paragraphs program)) (faults_at 6 (wrong_kinds_in_statements program items))
    c.args.faults.now.found.items c.note_unknown_in_statements.new.faults.found.items c.note_ambiguous_in_statements.new.faults.found.items late c.note_wrong_kinds_in_statements.new.faults.found.items
    c.in_ok-note_unknown_in_statements.ensures second c.in_ok-note_double_paragraphs.ensures last
