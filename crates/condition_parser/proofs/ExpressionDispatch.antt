-- At which words the parts of expressions open, and what they are there.
use Rattle.std.proofs.Common.{◌≡◌, ℕ, zero, suc, [], ◌∷◌, true, refl}
use Rattle.cob_base.specs.declared.keywords.Mark.TheVariants as marks
use Rattle.cob_base.specs.declared.tokens.Token.TheVariants.{Mark as Sign}
use Rattle.cob_base.specs.declared.expressions.Expr.{Expr}
use Rattle.cob_base.specs.Form.Form.{some}
use Rattle.cob_base.specs.Form.{Form, Words, opens}
use Rattle.cob_base.specs.Phrases.{same_mark, name, reference, reference_within}
use Rattle.cob_base.specs.Expressions.{plus_or_minus, times_or_over, factor, scaled, term, added, expr, parentheses}
use Rattle.phrase_parser.specs.Reading.{read, is_read}
use Rattle.condition_parser.specs.Choices.{expression_parentheses_at}

pub opens_reference_is : (d : ℕ) (w : Words) → opens (reference d) w ≡ opens name w
unfolding reference reference_within name
opens_reference_is d w = refl

pub opens_sign_is : (w : Words) → opens plus_or_minus w ≡ is_read (read plus_or_minus w)
unfolding plus_or_minus
opens_sign_is (Sign marks.Plus ∷ w) = refl
opens_sign_is (Sign marks.Minus ∷ w) = refl
opens_sign_is _ = refl

pub opens_scale_is : (w : Words) → opens times_or_over w ≡ is_read (read times_or_over w)
unfolding times_or_over
opens_scale_is (Sign marks.Asterisk ∷ w) = refl
opens_scale_is (Sign marks.Slash ∷ w) = refl
opens_scale_is _ = refl

module _ (d : ℕ) (inside : Form true Expr) where
  pub opens_added_is : (w : Words) → opens (added d inside) w ≡ opens plus_or_minus w
  unfolding added term plus_or_minus
  opens_added_is [] = refl
  opens_added_is (v ∷ w) = refl

  pub opens_more_added_is : (w : Words) → opens (some (added d inside)) w ≡ opens plus_or_minus w
  unfolding added term plus_or_minus
  opens_more_added_is [] = refl
  opens_more_added_is (v ∷ w) = refl

  pub opens_scaled_is : (w : Words) → opens (scaled d inside) w ≡ opens times_or_over w
  unfolding scaled factor times_or_over
  opens_scaled_is [] = refl
  opens_scaled_is (v ∷ w) = refl

  pub opens_more_scaled_is : (w : Words) → opens (some (scaled d inside)) w ≡ opens times_or_over w
  unfolding scaled factor times_or_over
  opens_more_scaled_is [] = refl
  opens_more_scaled_is (v ∷ w) = refl

pub parentheses_at_is : (d : ℕ) (w : Words) → expression_parentheses_at d w ≡ read (parentheses d) w
unfolding expression_parentheses_at parentheses expr same_mark
parentheses_at_is zero (Sign marks.LeftParenthesis ∷ w) = refl
parentheses_at_is (suc d) (Sign marks.LeftParenthesis ∷ w) = refl
parentheses_at_is zero _ = refl
parentheses_at_is (suc d) _ = refl
