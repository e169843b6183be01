-- The grammar of arithmetic expressions. The number says how many parentheses may still open.
use Rattle.std.specs.Prelude.{ℕ, zero, suc, true, Option, Some, None}
use Rattle.cob_base.specs.declared.keywords.Keyword.TheVariants as k
use Rattle.cob_base.specs.declared.keywords.Mark.{Mark}
use Rattle.cob_base.specs.declared.keywords.Mark.TheVariants as marks
use Rattle.cob_base.specs.declared.tokens.Token.{Token}
use Rattle.cob_base.specs.declared.tokens.Token.TheVariants as tokens
use Rattle.cob_base.specs.declared.expressions.Sign.{Sign}
use Rattle.cob_base.specs.declared.expressions.Sign.TheVariants as signs
use Rattle.cob_base.specs.declared.expressions.Scale.{Scale}
use Rattle.cob_base.specs.declared.expressions.Scale.TheVariants as scales
use Rattle.cob_base.specs.declared.expressions.Expr.{Expr}
use Rattle.cob_base.specs.declared.expressions.Expr.TheVariants as exprs
use Rattle.cob_base.specs.Form.{Form, before, many}
use Rattle.cob_base.specs.Form.Form.{word, mark, part, both, after, made, either, optional, too_deep}
use Rattle.cob_base.specs.Phrases.{is_number, key, sign, reference}

-- a mark of which the function says what it stands for
abbrev pub mark_for : {A : Type 0} → (Mark → Option A) → Token → Option A
mark_for stands (tokens.Mark have) = stands have
mark_for stands _ = None

abbrev pub sign_of : Mark → Option Sign
sign_of marks.Plus = Some signs.Plus
sign_of marks.Minus = Some signs.Minus
sign_of _ = None

abbrev pub scale_of : Mark → Option Scale
scale_of marks.Asterisk = Some scales.Times
scale_of marks.Slash = Some scales.Over
scale_of _ = None

-- +|-
unfoldable pub plus_or_minus : Form true Sign
plus_or_minus = mark (mark_for sign_of)

-- *|/
unfoldable pub times_or_over : Form true Scale
times_or_over = mark (mark_for scale_of)

-- what parentheses stand for is given
module _ (d : ℕ) (inside : Form true Expr) where
  -- ref | number | ZERO|ZEROS|ZEROES | "(" expr ")"
  unfoldable pub atom : Form true Expr
  atom = either (made exprs.Reference (reference d))
      (either (made exprs.Number (word is_number))
      (either (made (λ u. exprs.Zero) (key k.Zero))
      inside))

  -- [+|-] (ref | number | ZERO|ZEROS|ZEROES | "(" expr ")")
  unfoldable pub factor_within : Form true Expr
  factor_within = made (λ (signed, value). exprs.Signed signed value) (both (optional plus_or_minus) atom)

  unfoldable pub factor : Form true Expr
  factor = part factor_within

  -- (*|/) factor
  unfoldable pub scaled : Form true (Scale × Expr)
  scaled = both times_or_over factor

  -- factor ((*|/) factor)*
  unfoldable pub term_within : Form true Expr
  term_within = made (λ (first, more). exprs.Product first more) (both factor (many scaled))

  unfoldable pub term : Form true Expr
  term = part term_within

  -- (+|-) term
  unfoldable pub added : Form true (Sign × Expr)
  added = both plus_or_minus term

  -- term ((+|-) term)*
  unfoldable pub expr_within : Form true Expr
  expr_within = made (λ (first, more). exprs.Sum first more) (both term (many added))

-- "(" expr ")"
unfoldable pub parentheses : ℕ → Form true Expr
parentheses zero = too_deep (sign marks.LeftParenthesis)
parentheses (suc d) = after (sign marks.LeftParenthesis) (before (part (expr_within d (parentheses d))) (sign marks.RightParenthesis))

unfoldable pub expr : ℕ → Form true Expr
expr d = part (expr_within d (parentheses d))
