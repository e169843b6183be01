use Rattle.std.proofs.Common.{◌∙◌, ap, ◌++◌, Bool, List, map}
use Rattle.std.specs.List.{flat_map}
use Rattle.std.specs.Prelude.{filter}
use Rattle.cob_base.specs.declared.line.Line.{Line}
use Rattle.cob_base.specs.declared.paragraphs.Paragraph.{Paragraph}
use Rattle.cob_base.specs.declared.paragraphs.Sentence.{Sentence}
use Rattle.cob_base.specs.declared.statements.Located.{Located}
use Rattle.cob_base.specs.declared.statements.Statement.{Statement}
use Rattle.name_rules.specs.Faults.{faults_at}
use Rattle.statement_parts.specs.Statements.{statements}
use Rattle.procedure_rules.specs.Keys.{has_bad_key}
use Rattle.procedure_rules.specs.Faults.{lines_where}
use Rattle.procedure_rules.specs.Phrases.{has_refused_retry, is_outside_statement, is_outside_sentence, left_out_of_procedure}
use Rattle.procedure_names.specs.Scoped.{front_in, items_in}
use Rattle.procedure_names.proofs.Noted.{four_parts}
use Rattle.procedure_rules.proofs.procedure_faults.note_keys_and_forms.Goals as goal

pub returns : goal.returns
returns c =
    let scope = c.args.known.now.scope.now in
    let old = c.args.faults.now.found.items in
    let third = c.note_cycles.new.faults.found.items in
    let fourth = c.note_refused_retries.new.faults.found.items in
    let passing : (Statement → Bool) → List (Located Statement) → List Line = λ (test : Statement → Bool) (some : List (Located Statement)). map (λ (one : Located Statement). one.line) (filter (λ (one : Located Statement). test one.item) some) in
    let outside : List (Located Statement) → List Paragraph → List Line = λ (some : List (Located Statement)) (paragraphs : List Paragraph).
    map (λ (one : Located Statement). one.line) (filter (λ (one : Located Statement). is_outside_statement one.item) some)
    ++ map (λ (one : Located Sentence). one.line) (filter (λ (one : Located Sentence). is_outside_sentence one.item) (flat_map (λ (paragraph : Paragraph). paragraph.sentences) paragraphs)) in
    let keys = c.in_ok-note_bad_keys.ensures ∙ ap (λ (some : List (Located Statement)). old ++ faults_at 7 (passing (has_bad_key (front_in scope) (items_in scope)) some)) c.requires.statements in
    let retries = c.in_ok-note_refused_retries.ensures ∙ ap (λ (some : List (Located Statement)). third ++ faults_at 9 (passing has_refused_retry some)) c.requires.statements in
    let left = c.in_ok-note_left_out.ensures ∙ ap (λ (some : List (Located Statement)). fourth ++ faults_at 10 (outside some c.as_slice.result.now)) c.requires.statements
    ∙ ap (λ (paragraphs : List Paragraph). fourth ++ faults_at 10 (outside (statements scope.program.now.paragraphs) paragraphs)) c.as_slice.ensures in
    let program = scope.program.now in
    let cycles = c.in_ok-note_cycles.ensures.0 in (
      cycles,
      c.in_ok-note_cycles.ensures.1,
      four_parts (faults_at 7 (lines_where program (has_bad_key (front_in scope) (items_in scope)))) (faults_at 8 cycles) (faults_at 9 (lines_where program has_refused_retry)) (faults_at 10 (left_out_of_procedure program.paragraphs))
          old c.note_bad_keys.new.faults.found.items third fourth c.note_left_out.new.faults.found.items keys c.in_ok-note_cycles.ensures.2 retries left,
    )
