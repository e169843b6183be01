-- What stands in expressions and conditions, whatever parentheses and operators are around it.
--
-- The types whose names begin with Row_of are lists of expressions or conditions as they stand inside one.
use Rattle.std.specs.Prelude.{List, [], ◌∷◌, ◌++◌}
use Rattle.cob_base.specs.declared.operands.Reference.{Reference}
use Rattle.cob_base.specs.declared.expressions.Expr.{Expr, Row_of-Expr, end_of-Expr, more_of-Expr, Row_of-Expr-Sum-1-2, end_of-Expr-Sum-1-2, more_of-Expr-Sum-1-2, Row_of-Expr-Product-1-2, end_of-Expr-Product-1-2, more_of-Expr-Product-1-2}
use Rattle.cob_base.specs.declared.expressions.Expr.TheVariants as e
use Rattle.cob_base.specs.declared.conditions.Cond.{Cond, Row_of-Cond, end_of-Cond, more_of-Cond}
use Rattle.cob_base.specs.declared.conditions.Cond.TheVariants as c

abbrev mutual
  -- the items of an expression, in the order of the text
  pub items_of_expr : Expr → List Reference
  items_of_expr (e.Sum' a first b more) = items_of_first first ++ items_of_terms more
  items_of_expr (e.Product' a first b more) = items_of_first first ++ items_of_factors more
  items_of_expr (e.Signed' sign a value) = items_of_first value
  items_of_expr (e.Reference item) = item ∷ []
  items_of_expr (e.Number number) = []
  items_of_expr e.Zero = []

  pub items_of_first : {m : _} → Row_of-Expr m → List Reference
  items_of_first end_of-Expr = []
  items_of_first (more_of-Expr one rest) = items_of_expr one ++ items_of_first rest

  pub items_of_terms : {m : _} → Row_of-Expr-Sum-1-2 m → List Reference
  items_of_terms end_of-Expr-Sum-1-2 = []
  items_of_terms (more_of-Expr-Sum-1-2 sign one rest) = items_of_expr one ++ items_of_terms rest

  pub items_of_factors : {m : _} → Row_of-Expr-Product-1-2 m → List Reference
  items_of_factors end_of-Expr-Product-1-2 = []
  items_of_factors (more_of-Expr-Product-1-2 scale one rest) = items_of_expr one ++ items_of_factors rest

abbrev mutual
  -- the simple conditions that a condition is made of, in the order of the text
  pub simple_in : Cond → List Cond
  simple_in (c.Or' m each) = simple_in_row each
  simple_in (c.And' m each) = simple_in_row each
  simple_in (c.Not' m one) = simple_in_row one
  simple_in (c.Relation left negated relation right) = c.Relation left negated relation right ∷ []
  simple_in (c.Numeric item negated) = c.Numeric item negated ∷ []
  simple_in (c.Name name) = c.Name name ∷ []

  pub simple_in_row : {m : _} → Row_of-Cond m → List Cond
  simple_in_row end_of-Cond = []
  simple_in_row (more_of-Cond one rest) = simple_in one ++ simple_in_row rest
