-- How a text writes a picture's marks.
use Rattle.std.specs.Prelude.{◌≡◌, ◌↔◌, ℕ, ◌-◌, ◌^◌, ◌<◌, min, Bool, true, IsTrue, List, [], ◌∷◌, ◌++◌, codes}
use Rattle.std.specs.List.{repeat}
use Rattle.std.specs.Char.{to_ascii_uppercase}
use Rattle.std.specs.Str.Parse.{digits_value, IsNumeral}
use Rattle.picture_rule.specs.Picture.{Form, HasForm, IsWithin, is_among, PictureValue}
use Rattle.picture_rule.specs.declared.kind.PictureKind.{PictureKind}
use Rattle.picture_rule.specs.declared.kind.PictureKind.TheVariants.{Alphanumeric, Group, Numeric, Edited}
use Rattle.picture_rule.specs.declared.kind.SignPlace.TheVariants.{Inside}

-- A symbol as it is written, in either case, and its marks in capitals. CR and DB are one symbol each.
pub data IsSymbol : List ℕ → List ℕ → Type 0 where
  single : {c : ℕ} → is_among (codes "XAS9V+-$Z*,.") (to_ascii_uppercase c) ≡ true → IsSymbol (c ∷ []) (to_ascii_uppercase c ∷ [])
  credit : {c d : ℕ} → to_ascii_uppercase c ≡ 67 → to_ascii_uppercase d ≡ 82 → IsSymbol (c ∷ d ∷ []) (codes "CR")
  debit : {c d : ℕ} → to_ascii_uppercase c ≡ 68 → to_ascii_uppercase d ≡ 66 → IsSymbol (c ∷ d ∷ []) (codes "DB")

-- The text writes the marks: symbol after symbol, each alone or with the number of its repetitions in parentheses, which is
-- not 0.
pub data Writes : List ℕ → List ℕ → Type 0 where
  nothing : Writes [] []
  once : (written mark text marks : List ℕ) → IsSymbol written mark → Writes text marks → Writes (written ++ text) (mark ++ marks)
  repeated : (written mark number text marks : List ℕ) → IsSymbol written mark → IsNumeral 10 number → 0 < digits_value 10 number → Writes text marks
      → Writes (written ++ 40 ∷ (number ++ 41 ∷ text)) (repeat (digits_value 10 number) mark ++ marks)

-- the text is a picture with these marks and this form, whatever its size
abbrev pub Spells : List ℕ → List ℕ → Form → Type 0
Spells text marks form = Writes text marks × HasForm marks form

-- the form keeps the limits of its category
abbrev pub Fits : Form → Type 0
Fits form = IsWithin form.kind form.size form.digits form.decimals

-- the marks that a picture keeps
abbrev pub kept : PictureKind → List ℕ → List ℕ
kept Alphanumeric marks = []
kept Group marks = []
kept Numeric marks = marks
kept Edited marks = marks

-- the picture of the marks
abbrev pub picture_of : List ℕ → Form → PictureValue
picture_of marks form = record { kind = form.kind; size = form.size; digits = form.digits; decimals = form.decimals; signed = form.signed; separate = Inside; marks = kept form.kind marks }

-- What a too wide picture tells: its category, its size or the largest number there is, and whether it has an S.
abbrev pub IsTooWide : List ℕ → PictureKind → ℕ → Bool → Type 0
IsTooWide text kind size signed = (marks : List ℕ) × (form : Form) × Spells text marks form × (Fits form → ⊥) × (kind ≡ form.kind) × (size ≡ min form.size (2 ^ 32 - 1)) × (signed ≡ form.signed)

-- the text spells a form without decimals, whatever its size
abbrev pub IsWhole : List ℕ → Bool → Type 0
IsWhole text whole = IsTrue whole ↔ ((marks : List ℕ) × (form : Form) × Spells text marks form × (form.decimals ≡ 0))
