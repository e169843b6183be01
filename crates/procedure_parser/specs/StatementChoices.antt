-- What the verbs of statements choose, by cases, as the code does.
use Rattle.std.specs.Prelude.{ℕ, zero, suc, Bool, true, false, ◌∷◌, Ok, Err}
use Rattle.cob_base.specs.declared.parse_fault.Misfit.{Misfit}
use Rattle.cob_base.specs.declared.parse_fault.Misfit.TheVariants.{Nesting, NoFit}
use Rattle.cob_base.specs.declared.keywords.Keyword.TheVariants as k
use Rattle.cob_base.specs.declared.keywords.Verb.{Verb}
use Rattle.cob_base.specs.declared.keywords.Verb.TheVariants as v
use Rattle.cob_base.specs.declared.tokens.Token.TheVariants as tokens
use Rattle.cob_base.specs.declared.statements.Located.{Located}
use Rattle.cob_base.specs.declared.statements.Statement.{Statement}
use Rattle.cob_base.specs.Form.{Words, opens}
use Rattle.cob_base.specs.Phrases.{key}
use Rattle.cob_base.specs.Statements.{accept_rest, add_rest, close_rest, compute_rest, continue_rest, delete_rest, display_rest, divide_rest, exit_rest, if_rest, move_rest, multiply_rest, open_rest, perform_rest, read_rest, rewrite_rest, start_rest, stop_rest, subtract_rest, unlock_rest, write_rest, outside_rest, located, statement}
use Rattle.phrase_parser.specs.Reading.{Outcome, ◌>>=◌, read}

-- every verb but STOP opens a statement by itself
unfoldable pub opens_verb : Verb → Words → Bool
opens_verb v.Stop w = opens (key k.Run) w
opens_verb _ w = true

unfoldable pub opens_statement_at : Words → Bool
opens_statement_at (tokens.Verb verb line ∷ w) = opens_verb verb w
opens_statement_at _ = false

unfoldable pub by_verb_at : ℕ → Verb → Words → Outcome Statement
by_verb_at d v.Accept w = read (accept_rest d (statement d)) w
by_verb_at d v.Add w = read (add_rest d (statement d)) w
by_verb_at d v.Close w = read close_rest w
by_verb_at d v.Compute w = read (compute_rest d (statement d)) w
by_verb_at d v.Continue w = read continue_rest w
by_verb_at d v.Delete w = read (delete_rest d (statement d)) w
by_verb_at d v.Display w = read display_rest w
by_verb_at d v.Divide w = read (divide_rest d (statement d)) w
by_verb_at d v.Exit w = read exit_rest w
by_verb_at d v.If w = read (if_rest d (statement d)) w
by_verb_at d v.Move w = read (move_rest d) w
by_verb_at d v.Multiply w = read (multiply_rest d (statement d)) w
by_verb_at d v.Open w = read (open_rest d) w
by_verb_at d v.Perform w = read (perform_rest d (statement d)) w
by_verb_at d v.Read w = read (read_rest d (statement d)) w
by_verb_at d v.Rewrite w = read (rewrite_rest d (statement d)) w
by_verb_at d v.Start w = read (start_rest d (statement d)) w
by_verb_at d v.Stop w = read stop_rest w
by_verb_at d v.Subtract w = read (subtract_rest d (statement d)) w
by_verb_at d v.Unlock w = read unlock_rest w
by_verb_at d v.Write w = read (write_rest d (statement d)) w
by_verb_at d v.Outside w = read outside_rest w

-- why no statement is read where none may open
unfoldable pub one_too_many : Words → Misfit
one_too_many (tokens.Verb verb line ∷ w) = Nesting
one_too_many _ = NoFit

unfoldable pub statement_at : ℕ → Words → Outcome (Located Statement)
statement_at zero (tokens.Verb verb line ∷ w) = Err Nesting
statement_at (suc d) (tokens.Verb verb line ∷ w) = (by_verb_at d verb w >>= λ x. Ok ((line, x.0), x.1)) >>= λ x. Ok (located x.0, x.1)
statement_at d _ = Err NoFit
