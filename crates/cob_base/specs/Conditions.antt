-- The grammar of conditions. The number says how many parentheses may still open.
use Rattle.std.specs.Prelude.{ℕ, zero, suc, Bool, true, false, ◌∷◌, Option, Some, None}
use Rattle.cob_base.specs.declared.keywords.Keyword.{Keyword}
use Rattle.cob_base.specs.declared.keywords.Keyword.TheVariants as k
use Rattle.cob_base.specs.declared.keywords.Mark.{Mark}
use Rattle.cob_base.specs.declared.keywords.Mark.TheVariants as marks
use Rattle.cob_base.specs.declared.operands.Operand.{Operand}
use Rattle.cob_base.specs.declared.operands.Operand.TheVariants as operands
use Rattle.cob_base.specs.declared.operands.Reference.{Reference}
use Rattle.cob_base.specs.declared.conditions.Relation.{Relation}
use Rattle.cob_base.specs.declared.conditions.Relation.TheVariants as relations
use Rattle.cob_base.specs.declared.conditions.Cond.{Cond}
use Rattle.cob_base.specs.declared.conditions.Cond.TheVariants as conds
use Rattle.cob_base.specs.Form.{Form, before, many}
use Rattle.cob_base.specs.Form.Form.{mark, part, both, after, made, either, optional, too_deep}
use Rattle.cob_base.specs.Phrases.{key_for, key, sign, noise, reference, constant, operand}
use Rattle.cob_base.specs.Expressions.{mark_for}

-- ---- relations

-- "=" | "<" | ">" | "<=" | ">="
abbrev pub relation_of : Mark → Option Relation
relation_of marks.Equal = Some relations.Equal
relation_of marks.Less = Some relations.Less
relation_of marks.Greater = Some relations.Greater
relation_of marks.LessOrEqual = Some relations.LessOrEqual
relation_of marks.GreaterOrEqual = Some relations.GreaterOrEqual
relation_of _ = None

-- LESS|GREATER: whether it is LESS
abbrev pub is_less : Keyword → Option Bool
is_less k.Less = Some true
is_less k.Greater = Some false
is_less _ = None

-- LESS or GREATER, and whether OR EQUAL follows
abbrev pub compared_as : Bool × Option (Unit {0}) → Relation
compared_as (true, None) = relations.Less
compared_as (true, Some u) = relations.LessOrEqual
compared_as (false, None) = relations.Greater
compared_as (false, Some u) = relations.GreaterOrEqual

-- EQUAL [TO]
unfoldable pub equal_to : Form true (Unit {0})
equal_to = after (key k.Equal) (made (λ u. tt) (noise k.To))

-- OR EQUAL [TO]
unfoldable pub or_equal_to : Form true (Unit {0})
or_equal_to = after (key k.Or) equal_to

-- (LESS|GREATER) [THAN] [OR EQUAL [TO]]
unfoldable pub less_or_greater : Form true Relation
less_or_greater = made compared_as (both (mark (key_for is_less)) (after (noise k.Than) (optional or_equal_to)))

unfoldable pub relation_mark : Form true Relation
relation_mark = mark (mark_for relation_of)

unfoldable pub relation_within : Form true Relation
relation_within = either relation_mark (either (made (λ u. relations.Equal) equal_to) less_or_greater)

unfoldable pub relation : Form true Relation
relation = part relation_within

-- ---- simple conditions

-- what follows a reference that begins a condition. The Bool says whether NOT is there.
pub data Tail : Type 0 where
  compared : Bool → Relation → Operand → Tail
  numeric : Bool → Tail
  bare : Tail

abbrev pub with_tail : Reference × Tail → Cond
with_tail (item, Tail.compared negated holds right) = conds.Relation (operands.Reference item) negated holds right
with_tail (item, Tail.numeric negated) = conds.Numeric item negated
with_tail (item, Tail.bare) = conds.Name item

-- NUMERIC, or nothing
abbrev pub class_of : Option Bool → Tail
class_of (Some negated) = Tail.numeric negated
class_of None = Tail.bare

-- NOT before a condition, or not
abbrev pub negated_if : Bool × Cond → Cond
negated_if (true, cond) = conds.Not cond
negated_if (false, cond) = cond

-- [IS] [NOT] NUMERIC
unfoldable pub numeric_class : Form true Bool
numeric_class = after (noise k.Is) (before (noise k.Not) (key k.Numeric))

-- [IS] [NOT] relation
unfoldable pub relation_words : Form true (Bool × Relation)
relation_words = after (noise k.Is) (both (noise k.Not) relation)

-- [IS] [NOT] relation operand
unfoldable pub compares : ℕ → Form true ((Bool × Relation) × Operand)
compares d = both relation_words (operand d)

-- [IS] [NOT] relation operand, or [IS] [NOT] NUMERIC, or nothing
unfoldable pub tail : ℕ → Form false Tail
tail d = either (made (λ ((negated, holds), right). Tail.compared negated holds right) (compares d))
    (made class_of (optional numeric_class))

-- ref [IS] [NOT] relation operand | ref [IS] [NOT] NUMERIC | ref
unfoldable pub of_reference : ℕ → Form true Cond
of_reference d = made with_tail (both (reference d) (tail d))

-- constant [IS] [NOT] relation operand
unfoldable pub of_constant : ℕ → Form true Cond
of_constant d = made (λ (left, ((negated, holds), right)). conds.Relation (operands.Constant left) negated holds right) (both constant (compares d))

-- what parentheses stand for is given
module _ (d : ℕ) (inside : Form true Cond) where
  -- operand [IS] [NOT] relation operand | ref [IS] [NOT] NUMERIC | ref | "(" cond ")"
  unfoldable pub simple_within : Form true Cond
  simple_within = either (of_reference d) (either (of_constant d) inside)

  unfoldable pub simple : Form true Cond
  simple = part simple_within

  -- ---- combined conditions

  -- [NOT] simple
  unfoldable pub single_within : Form true Cond
  single_within = made negated_if (both (noise k.Not) simple)

  unfoldable pub single : Form true Cond
  single = part single_within

  -- AND single
  unfoldable pub and_single : Form true Cond
  and_single = after (key k.And) single

  -- single (AND single)*
  unfoldable pub all_of_within : Form true Cond
  all_of_within = made (λ (first, more). conds.And (first ∷ more)) (both single (many and_single))

  unfoldable pub all_of : Form true Cond
  all_of = part all_of_within

  -- OR both, where both is a condition with AND
  unfoldable pub or_all_of : Form true Cond
  or_all_of = after (key k.Or) all_of

  -- both (OR both)*
  unfoldable pub cond_within : Form true Cond
  cond_within = made (λ (first, more). conds.Or (first ∷ more)) (both all_of (many or_all_of))

-- "(" cond ")"
unfoldable pub parentheses : ℕ → Form true Cond
parentheses zero = too_deep (sign marks.LeftParenthesis)
parentheses (suc d) = after (sign marks.LeftParenthesis) (before (part (cond_within d (parentheses d))) (sign marks.RightParenthesis))

unfoldable pub cond : ℕ → Form true Cond
cond d = part (cond_within d (parentheses d))
