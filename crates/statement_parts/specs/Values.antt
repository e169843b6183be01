-- What a statement does with values: what it moves, adds, counts by and compares.
use Rattle.std.specs.Prelude.{List, [], ◌∷◌, ◌++◌, map}
use Rattle.std.specs.List.{flat_map}
use Rattle.cob_base.specs.declared.operands.Reference.{Reference}
use Rattle.cob_base.specs.declared.operands.Operand.{Operand}
use Rattle.cob_base.specs.declared.statements.Varying.{Varying}
use Rattle.cob_base.specs.declared.conditions.Cond.{Cond}
use Rattle.cob_base.specs.declared.conditions.Cond.TheVariants as c
use Rattle.cob_base.specs.declared.statements.Statement.{Statement}
use Rattle.cob_base.specs.declared.statements.Statement.TheVariants as s
use Rattle.statement_parts.specs.Leaves.{items_of_expr}
use Rattle.statement_parts.specs.Phrases.{times_of, varying_of, tests_of, retries_of, number_of_retry}

-- ---- moves

-- an operand that is moved into an item
pub record Moving : Type 0 where
  pub from : Operand
  pub to : Reference

abbrev pub moving : Operand → Reference → Moving
moving from to = record { from = from; to = to }

-- what VARYING moves: FROM into its item
abbrev pub move_of_varying : Varying → Moving
move_of_varying varying = moving varying.from varying.item

abbrev pub moves_of_words : Statement → List Moving
moves_of_words (s.Move from to) = map (moving from) to
moves_of_words _ = []

-- what a statement moves, but for records
abbrev pub moves_of : Statement → List Moving
moves_of statement = moves_of_words statement ++ map move_of_varying (varying_of statement)

-- ---- arithmetic

-- the operands of arithmetic, as they are written before the receivers
abbrev pub operands_of_words : Statement → List Operand
operands_of_words (s.Add' operands to on not_on) = operands
operands_of_words (s.AddGiving' operands to giving on not_on) = operands ++ to ∷ []
operands_of_words (s.Subtract' operands from on not_on) = operands
operands_of_words (s.SubtractGiving' operands from giving on not_on) = operands ++ from ∷ []
operands_of_words (s.Multiply' operand by on not_on) = operand ∷ []
operands_of_words (s.MultiplyGiving' operand by giving on not_on) = operand ∷ (by ∷ [])
operands_of_words (s.Divide' operand into on not_on) = operand ∷ []
operands_of_words (s.DivideGiving' first division second giving on not_on) = first ∷ (second ∷ [])
operands_of_words _ = []

-- the operands of arithmetic, with what VARYING adds
abbrev pub operands_of : Statement → List Operand
operands_of statement = operands_of_words statement ++ map (λ varying. varying.by) (varying_of statement)

-- items that are operands and receivers at once, and those of expressions
abbrev pub numeric_items_of_words : Statement → List Reference
numeric_items_of_words (s.Add' operands to on not_on) = to
numeric_items_of_words (s.Subtract' operands from on not_on) = from
numeric_items_of_words (s.Multiply' operand by on not_on) = by
numeric_items_of_words (s.Divide' operand into on not_on) = into
numeric_items_of_words (s.Compute' to value on not_on) = items_of_expr value
numeric_items_of_words _ = []

-- those, with the item that VARYING adds to
abbrev pub numeric_items_of : Statement → List Reference
numeric_items_of statement = numeric_items_of_words statement ++ map (λ varying. varying.item) (varying_of statement)

-- receivers that get a result: those of GIVING and COMPUTE
abbrev pub results_of : Statement → List Reference
results_of (s.AddGiving' operands to giving on not_on) = giving
results_of (s.SubtractGiving' operands from giving on not_on) = giving
results_of (s.MultiplyGiving' operand by giving on not_on) = giving
results_of (s.DivideGiving' first division second giving on not_on) = giving
results_of (s.Compute' to value on not_on) = to
results_of _ = []

-- ---- counts

-- the numbers of TIMES and of RETRY phrases
abbrev pub counts_of : Statement → List Operand
counts_of statement = times_of statement ++ flat_map number_of_retry (retries_of statement)

-- ---- comparisons

-- two operands that are compared
pub record Comparing : Type 0 where
  pub left : Operand
  pub right : Operand

abbrev pub comparison_of_test : Cond → List Comparing
comparison_of_test (c.Relation left negated relation right) = record { left = left; right = right } ∷ []
comparison_of_test _ = []

-- the relations that a statement tests
abbrev pub comparisons_of : Statement → List Comparing
comparisons_of statement = flat_map comparison_of_test (tests_of statement)
