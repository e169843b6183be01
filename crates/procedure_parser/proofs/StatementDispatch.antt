-- At which words statements open, and what they are there.
use Rattle.std.proofs.Common.{◌≡◌, ℕ, zero, suc, ◌<◌, true, [], ◌∷◌, Err, refl, arith}
use Rattle.cob_base.specs.declared.keywords.Keyword.TheVariants as k
use Rattle.cob_base.specs.declared.keywords.Verb.TheVariants as v
use Rattle.cob_base.specs.declared.tokens.Token.TheVariants as tokens
use Rattle.cob_base.specs.declared.statements.Located.{Located}
use Rattle.cob_base.specs.declared.statements.Statement.{Statement}
use Rattle.cob_base.specs.Form.Form.{part}
use Rattle.cob_base.specs.Form.{Form, Words, opens}
use Rattle.cob_base.specs.Phrases.{key, name, reference, operand}
use Rattle.cob_base.specs.Conditions.{cond}
use Rattle.cob_base.specs.StatementPhrases.{open_phrase}
use Rattle.cob_base.specs.Statements.{same_verb, to_period, references, operand_list, added, subtracted, multiplied, divided, through, perform_paragraphs, accept_rest, add_rest, close_rest, compute_rest, continue_rest, delete_rest, display_rest, divide_rest, exit_rest, if_rest, move_rest, multiply_rest, open_rest, perform_rest, read_rest, rewrite_rest, start_rest, stop_rest, subtract_rest, unlock_rest, write_rest, outside_rest, any_statement, statement_within, statement, statements}
use Rattle.phrase_parser.specs.Reading.{read_some, read}
use Rattle.procedure_parser.specs.StatementChoices.{opens_verb, opens_statement_at, by_verb_at, one_too_many, statement_at}

pub opens_through_is : (w : Words) → opens through w ≡ opens (key k.Through) w
unfolding through name
opens_through_is [] = refl
opens_through_is (v ∷ w) = refl

any-opens : (d : ℕ) (one : Form true (Located Statement)) (w : Words) → opens (any_statement d one) w ≡ opens_statement_at w
unfolding opens_statement_at opens_verb any_statement same_verb to_period references operand_list added subtracted multiplied divided perform_paragraphs accept_rest add_rest close_rest compute_rest continue_rest delete_rest display_rest divide_rest exit_rest if_rest move_rest multiply_rest open_rest perform_rest read_rest rewrite_rest start_rest stop_rest subtract_rest unlock_rest write_rest outside_rest name reference operand cond open_phrase
any-opens d one (tokens.Verb v.Accept line ∷ w) = refl
any-opens d one (tokens.Verb v.Add line ∷ w) = refl
any-opens d one (tokens.Verb v.Close line ∷ w) = refl
any-opens d one (tokens.Verb v.Compute line ∷ w) = refl
any-opens d one (tokens.Verb v.Continue line ∷ w) = refl
any-opens d one (tokens.Verb v.Delete line ∷ w) = refl
any-opens d one (tokens.Verb v.Display line ∷ w) = refl
any-opens d one (tokens.Verb v.Divide line ∷ w) = refl
any-opens d one (tokens.Verb v.Exit line ∷ w) = refl
any-opens d one (tokens.Verb v.If line ∷ w) = refl
any-opens d one (tokens.Verb v.Move line ∷ w) = refl
any-opens d one (tokens.Verb v.Multiply line ∷ w) = refl
any-opens d one (tokens.Verb v.Open line ∷ w) = refl
any-opens d one (tokens.Verb v.Perform line ∷ w) = refl
any-opens d one (tokens.Verb v.Read line ∷ w) = refl
any-opens d one (tokens.Verb v.Rewrite line ∷ w) = refl
any-opens d one (tokens.Verb v.Start line ∷ w) = refl
any-opens d one (tokens.Verb v.Stop line ∷ w) = refl
any-opens d one (tokens.Verb v.Subtract line ∷ w) = refl
any-opens d one (tokens.Verb v.Unlock line ∷ w) = refl
any-opens d one (tokens.Verb v.Write line ∷ w) = refl
any-opens d one (tokens.Verb v.Outside line ∷ w) = refl
any-opens d one _ = refl

pub opens_statement_is : (d : ℕ) (w : Words) → 0 < d → opens (statement d) w ≡ opens_statement_at w
unfolding statement statement_within
opens_statement_is zero w h = absurd (omega (arith, h))
opens_statement_is (suc d) w h = any-opens d (part (statement_within d)) w

one-too-many : (w : Words) → statement_at zero w ≡ read (statement zero) w
unfolding statement_at statement statement_within
one-too-many (tokens.Verb verb line ∷ w) = refl
one-too-many _ = refl

pub no_statements_is : (w : Words) → read (statements zero) w ≡ Err (one_too_many w)
unfolding statements statement statement_within one_too_many read_some
no_statements_is (tokens.Verb verb line ∷ w) = refl
no_statements_is _ = refl

opened : (d : ℕ) (w : Words) → statement_at (suc d) w ≡ read (statement (suc d)) w
unfolding statement_at by_verb_at statement statement_within any_statement same_verb to_period references operand_list added subtracted multiplied divided perform_paragraphs accept_rest add_rest close_rest compute_rest continue_rest delete_rest display_rest divide_rest exit_rest if_rest move_rest multiply_rest open_rest perform_rest read_rest rewrite_rest start_rest stop_rest subtract_rest unlock_rest write_rest outside_rest name reference operand cond open_phrase
opened d (tokens.Verb v.Accept line ∷ w) = refl
opened d (tokens.Verb v.Add line ∷ w) = refl
opened d (tokens.Verb v.Close line ∷ w) = refl
opened d (tokens.Verb v.Compute line ∷ w) = refl
opened d (tokens.Verb v.Continue line ∷ w) = refl
opened d (tokens.Verb v.Delete line ∷ w) = refl
opened d (tokens.Verb v.Display line ∷ w) = refl
opened d (tokens.Verb v.Divide line ∷ w) = refl
opened d (tokens.Verb v.Exit line ∷ w) = refl
opened d (tokens.Verb v.If line ∷ w) = refl
opened d (tokens.Verb v.Move line ∷ w) = refl
opened d (tokens.Verb v.Multiply line ∷ w) = refl
opened d (tokens.Verb v.Open line ∷ w) = refl
opened d (tokens.Verb v.Perform line ∷ w) = refl
opened d (tokens.Verb v.Read line ∷ w) = refl
opened d (tokens.Verb v.Rewrite line ∷ w) = refl
opened d (tokens.Verb v.Start line ∷ w) = refl
opened d (tokens.Verb v.Stop line ∷ w) = refl
opened d (tokens.Verb v.Subtract line ∷ w) = refl
opened d (tokens.Verb v.Unlock line ∷ w) = refl
opened d (tokens.Verb v.Write line ∷ w) = refl
opened d (tokens.Verb v.Outside line ∷ w) = refl
opened d _ = refl

pub statement_at_is : (d : ℕ) (w : Words) → statement_at d w ≡ read (statement d) w
statement_at_is zero w = one-too-many w
statement_at_is (suc d) w = opened d w

pub above : (n : ℕ) → ¬ (n ≡ 0) → 0 < n
above zero e = absurd (e refl)
above (suc n) e = omega arith
