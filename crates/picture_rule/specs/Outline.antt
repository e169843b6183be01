-- What a text spells, as far as it is counted.
use Rattle.std.specs.Prelude.{◌≡◌, ◌≤◌, ◌⊎◌, nat_lt, ℕ, false, List, [], ◌∷◌}
use Rattle.picture_rule.specs.Picture.{Form, is_among}
use Rattle.picture_rule.specs.Reading.{counted}
use Rattle.picture_rule.specs.declared.outline.Outline.{Outline}

-- the outline of a form: its numbers, or the largest there is
pub record IsOutline (outline : Outline) (form : Form) : Type 0 where
  pub kind : outline.kind ≡ form.kind
  pub size : outline.size ≡ counted form.size
  pub digits : outline.digits ≡ counted form.digits
  pub decimals : outline.decimals ≡ counted form.decimals
  pub signed : outline.signed ≡ form.signed

-- the list begins with no wanted mark
abbrev pub Begins : List ℕ → List ℕ → Type 0
Begins wanted [] = Unit {0}
Begins wanted (mark ∷ marks) = is_among wanted mark ≡ false

-- Parts of so many marks are those of an edited picture: at most one sign before, one $ and one point, 9s after the point
-- and nowhere else, and no sign after where one stands before.
pub record AreEdited (before currency point decimals after : ℕ) : Type 0 where
  pub one_before : before ≤ 1
  pub one_currency : currency ≤ 1
  pub one_point : point ≤ 1
  pub after_point : nat_lt 0 point ≡ nat_lt 0 decimals
  pub one_sign : (before ≡ 0) ⊎ (after ≡ 0)
