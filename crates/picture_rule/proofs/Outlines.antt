-- What the three readings together say of a text.
use Rattle.std.proofs.Common.{inl, inr, subst, List, ℕ, Some, None, Option}
use Rattle.std.specs.Prelude.{IsSomeAnd, IfSome}
use Rattle.picture_rule.specs.Picture.{Form, IsAlphanumeric, IsNumeric, IsEdited}
use Rattle.picture_rule.specs.Text.{Spells, Writes}
use Rattle.picture_rule.specs.Outline.{IsOutline}
use Rattle.picture_rule.specs.declared.outline.Outline.{Outline}
use Rattle.picture_rule.proofs.Fronts.{writes_once}
use Rattle.picture_rule.proofs.Apart.{letters_numeric, letters_edited, numeric_edited}

pub only_letters : (text : List ℕ) (outline : Outline) (m : List ℕ) (f : Form) (marks : List ℕ) (form : Form) → Writes text m → IsAlphanumeric m f → (Writes text marks → IsAlphanumeric marks form → IsOutline outline form) → Spells text marks form → IsOutline outline form
only_letters text outline m f marks form w a only (h, inl b) = only h b
only_letters text outline m f marks form w a only (h, inr (inl b)) = absurd (letters_numeric m f form a (subst (λ x. IsNumeric x form) (writes_once h w) b))
only_letters text outline m f marks form w a only (h, inr (inr b)) = absurd (letters_edited m f form a (subst (λ x. IsEdited x form) (writes_once h w) b))

pub only_numeric : (text : List ℕ) (outline : Outline) (m : List ℕ) (f : Form) (marks : List ℕ) (form : Form) → Writes text m → IsNumeric m f → (Writes text marks → IsAlphanumeric marks form → ⊥)
    → (Writes text marks → IsNumeric marks form → IsOutline outline form) → Spells text marks form → IsOutline outline form
only_numeric text outline m f marks form w a other only (h, inl b) = absurd (other h b)
only_numeric text outline m f marks form w a other only (h, inr (inl b)) = only h b
only_numeric text outline m f marks form w a other only (h, inr (inr b)) = absurd (numeric_edited m f form a (subst (λ x. IsEdited x form) (writes_once h w) b))

pub only_edited : (text : List ℕ) (o : Option Outline) (marks : List ℕ) (form : Form) → (Writes text marks → IsAlphanumeric marks form → ⊥) → (Writes text marks → IsNumeric marks form → ⊥)
    → (Writes text marks → IsEdited marks form → IsSomeAnd o (λ outline. IsOutline outline form)) → Spells text marks form → IsSomeAnd o (λ outline. IsOutline outline form)
only_edited text o marks form letters numeric only (h, inl b) = absurd (letters h b)
only_edited text o marks form letters numeric only (h, inr (inl b)) = absurd (numeric h b)
only_edited text o marks form letters numeric only (h, inr (inr b)) = only h b

pub found_edited : (text : List ℕ) (o : Option Outline) → IfSome o (λ outline. (marks : List ℕ) × (form : Form) × Writes text marks × IsEdited marks form × IsOutline outline form)
    → IfSome o (λ outline. (marks : List ℕ) × (form : Form) × Spells text marks form × IsOutline outline form)
found_edited text None h = h
found_edited text (Some outline) h = (h.0, h.1, (h.2, inr (inr h.3)), h.4)
