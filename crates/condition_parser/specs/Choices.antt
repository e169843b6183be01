-- What the next words choose, by cases, as the code does.
use Rattle.std.specs.Prelude.{ℕ, zero, suc, List, ◌∷◌, Ok, Err, Option, Some, None}
use Rattle.cob_base.specs.declared.parse_fault.Misfit.TheVariants.{Nesting, NoFit}
use Rattle.cob_base.specs.declared.keywords.Mark.TheVariants as marks
use Rattle.cob_base.specs.declared.tokens.Token.TheVariants.{Mark as Sign}
use Rattle.cob_base.specs.declared.expressions.Expr.{Expr}
use Rattle.cob_base.specs.declared.conditions.Cond.{Cond}
use Rattle.cob_base.specs.declared.statements.Located.{Located}
use Rattle.cob_base.specs.declared.statements.Statement.{Statement}
use Rattle.cob_base.specs.Form.{Words, before}
use Rattle.cob_base.specs.Phrases.{sign}
use Rattle.cob_base.specs.Expressions as expressions
use Rattle.cob_base.specs.Conditions as conditions
use Rattle.cob_base.specs.Statements.{statements}
use Rattle.phrase_parser.specs.Reading.{Outcome, ◌>>=◌, read}

unfoldable pub expression_parentheses_at : ℕ → Words → Outcome Expr
expression_parentheses_at zero (Sign marks.LeftParenthesis ∷ w) = Err Nesting
expression_parentheses_at (suc d) (Sign marks.LeftParenthesis ∷ w) = read (before (expressions.expr d) (sign marks.RightParenthesis)) w
expression_parentheses_at d _ = Err NoFit

unfoldable pub condition_parentheses_at : ℕ → Words → Outcome Cond
condition_parentheses_at zero (Sign marks.LeftParenthesis ∷ w) = Err Nesting
condition_parentheses_at (suc d) (Sign marks.LeftParenthesis ∷ w) = read (before (conditions.cond d) (sign marks.RightParenthesis)) w
condition_parentheses_at d _ = Err NoFit
