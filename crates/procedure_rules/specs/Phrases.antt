-- Reasons 9 and 10: RETRY phrases that are read and refused, and what is left out of the language.
use Rattle.std.specs.Prelude.{Bool, true, false, List, ◌++◌, map, filter}
use Rattle.std.specs.List.{list_any, flat_map}
use Rattle.cob_base.specs.declared.line.Line.{Line}
use Rattle.cob_base.specs.declared.paragraphs.Paragraph.{Paragraph}
use Rattle.cob_base.specs.declared.paragraphs.Sentence.{Sentence}
use Rattle.cob_base.specs.declared.paragraphs.Sentence.TheVariants as sentences
use Rattle.cob_base.specs.declared.statements.OpenPhrase.{OpenPhrase}
use Rattle.cob_base.specs.declared.statements.OpenPhrase.TheVariants as phrases
use Rattle.cob_base.specs.declared.statements.Retry.{Retry}
use Rattle.cob_base.specs.declared.statements.Retry.TheVariants as retry
use Rattle.cob_base.specs.declared.statements.Statement.{Statement}
use Rattle.cob_base.specs.declared.statements.Statement.TheVariants as s
use Rattle.statement_parts.specs.Statements.{statements}
use Rattle.statement_parts.specs.Phrases.{retries_of}

-- RETRY FOREVER and RETRY FOR n SECONDS
abbrev pub is_refused_retry : Retry → Bool
is_refused_retry (retry.Times number) = false
is_refused_retry (retry.Seconds number) = true
is_refused_retry retry.Forever = true

abbrev pub has_refused_retry : Statement → Bool
has_refused_retry statement = list_any is_refused_retry (retries_of statement)

abbrev pub is_outside_phrase : OpenPhrase → Bool
is_outside_phrase (phrases.Files mode sharing asked files) = false
is_outside_phrase phrases.Outside = true

-- an outside statement, or OPEN with an outside mode
abbrev pub is_outside_statement : Statement → Bool
is_outside_statement s.Outside = true
is_outside_statement (s.Open phrases) = list_any is_outside_phrase phrases
is_outside_statement _ = false

abbrev pub is_outside_sentence : Sentence → Bool
is_outside_sentence (sentences.Statements all) = false
is_outside_sentence sentences.Outside = true

abbrev pub left_out_of_procedure : List Paragraph → List Line
left_out_of_procedure paragraphs =
    map (λ one. one.line) (filter (λ one. is_outside_statement one.item) (statements paragraphs))
    ++ map (λ one. one.line) (filter (λ one. is_outside_sentence one.item) (flat_map (λ paragraph. paragraph.sentences) paragraphs))
