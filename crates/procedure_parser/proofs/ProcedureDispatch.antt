-- At which words sentences open.
use Rattle.std.proofs.Common.{◌≡◌, ◌∷◌, refl, arith}
use Rattle.std.specs.Prelude.{◌||◌}
use Rattle.cob_base.specs.declared.parse_fault.TheConstants.{MAX_OPEN}
use Rattle.cob_base.specs.declared.keywords.Keyword.TheVariants as k
use Rattle.cob_base.specs.declared.line.Line.{Line}
use Rattle.cob_base.specs.declared.tokens.Token.TheVariants as tokens
use Rattle.cob_base.specs.Form.{Words, opens}
use Rattle.cob_base.specs.Phrases.{same_key, name}
use Rattle.cob_base.specs.Statements.{to_period, statement, statements}
use Rattle.cob_base.specs.Procedure.{section, declaratives, outside_sentence, sentence_words, sentence}
use Rattle.phrase_parser.specs.Reading.{read, is_read}
use Rattle.procedure_parser.specs.StatementChoices.{opens_statement_at}
use Rattle.procedure_parser.proofs.StatementDispatch.{opens_statement_is}

pub opens_section_is : (w : Words) → opens section w ≡ is_read (read section w)
unfolding section to_period name same_key
opens_section_is (tokens.Name n ∷ tokens.Key k.Section ∷ w) = refl
opens_section_is (tokens.Name n ∷ _) = refl
opens_section_is _ = refl

opens-outside-sentence : (w : Words) → opens outside_sentence w ≡ is_read (read outside_sentence w)
unfolding outside_sentence section declaratives to_period name same_key
opens-outside-sentence (tokens.Name n ∷ tokens.Key k.Section ∷ w) = refl
opens-outside-sentence (tokens.Name n ∷ _) = refl
opens-outside-sentence (tokens.Key k.Declaratives ∷ w) = refl
opens-outside-sentence _ = refl

pub opens_statements_is : (w : Words) → opens (statements MAX_OPEN) w ≡ opens_statement_at w
unfolding statements statement
opens_statements_is w = opens_statement_is MAX_OPEN w (omega arith)

pub opens_sentence_is : (line : Line) (w : Words) → opens (sentence line) w ≡ (opens_statement_at w || is_read (read outside_sentence w))
unfolding sentence sentence_words statements statement outside_sentence
opens_sentence_is line w = rw (opens_statement_is MAX_OPEN w (omega arith), opens-outside-sentence w) refl
