-- What a picture describes: the category, size, digits and sign of an item, from the marks that stand in it.
use Rattle.std.specs.Prelude.{◌≡◌, ◌≢◌, ℕ, ◌+◌, ◌-◌, ◌<◌, ◌≤◌, ◌⊎◌, if◌then◌else◌, nat_lt, Bool, true, false, List, [], ◌∷◌, ◌++◌, length, replicate, count_by, nat_eq, codes}
use Rattle.std.specs.List.{list_any, list_all}
use Rattle.picture_rule.specs.declared.kind.PictureKind.{PictureKind}
use Rattle.picture_rule.specs.declared.kind.PictureKind.TheVariants.{Alphanumeric, Group, Numeric, Edited}
use Rattle.picture_rule.specs.declared.kind.SignPlace.{SignPlace}
use Rattle.picture_rule.specs.declared.kind.SignPlace.TheVariants.{Inside, Leading, Trailing}

-- A picture as contracts see it. Its marks are in capitals, and each stands as often as it counts.
pub record PictureValue : Type 0 where
  pub kind : PictureKind
  pub size : ℕ
  pub digits : ℕ
  pub decimals : ℕ
  pub signed : Bool
  pub separate : SignPlace
  pub marks : List ℕ

-- What marks alone say: the category, the number of bytes, of digits and of decimal places, and whether there is an S.
pub record Form : Type 0 where
  pub kind : PictureKind
  pub size : ℕ
  pub digits : ℕ
  pub decimals : ℕ
  pub signed : Bool

-- whether a mark is one of these
abbrev pub is_among : List ℕ → ℕ → Bool
is_among marks mark = list_any (λ one. nat_eq one mark) marks

-- each mark is one of these
abbrev pub AllAmong : List ℕ → List ℕ → Type 0
AllAmong wanted marks = list_all (is_among wanted) marks ≡ true

-- Z, * and 9 stand for a digit each
abbrev pub is_digit_mark : ℕ → Bool
is_digit_mark = is_among (codes "Z*9")

-- it is one of these lists
abbrev pub OneOf : List (List ℕ) → List ℕ → Type 0
OneOf [] marks = ⊥
OneOf (one ∷ others) marks = (marks ≡ one) ⊎ OneOf others marks

-- a stretch of a symbol: nothing, or from the symbol on only it and commas
abbrev pub IsStretch : ℕ → List ℕ → Type 0
IsStretch symbol [] = Unit {0}
IsStretch symbol (mark ∷ marks) = (mark ≡ symbol) × AllAmong (symbol ∷ codes ",") marks

-- Alphanumeric: one or more of X and A, each a byte.
pub record IsAlphanumeric (marks : List ℕ) (form : Form) : Type 0 where
  pub some : marks ≢ []
  pub letters : AllAmong (codes "XA") marks
  pub is : form ≡ record { kind = Alphanumeric; size = length marks; digits = 0; decimals = 0; signed = false }

-- Numeric: an S or none, then 9s, then a V with further 9s or neither. There is a 9 at least. S and V take no byte.
pub record IsNumeric (marks : List ℕ) (form : Form) : Type 0 where
  pub sign : List ℕ
  pub whole : ℕ
  pub point : List ℕ
  pub decimals : ℕ
  pub parts : marks ≡ sign ++ (replicate whole 57 ++ (point ++ replicate decimals 57))
  pub sign_is : ((sign ≡ codes "S") × (form.signed ≡ true)) ⊎ ((sign ≡ []) × (form.signed ≡ false))
  pub point_is : (point ≡ codes "V") ⊎ ((point ≡ []) × (decimals ≡ 0))
  pub some : 0 < whole + decimals
  pub is : form ≡ record { kind = Numeric; size = whole + decimals; digits = whole + decimals; decimals = decimals; signed = form.signed }

-- The digits of an edited picture up to its point: commas, then the digits that may be suppressed, all Z or all *, then 9s,
-- with commas among them. There is one mark at least.
pub record IsBody (marks : List ℕ) : Type 0 where
  pub commas : List ℕ
  pub fill : ℕ
  pub suppressed : List ℕ
  pub shown : List ℕ
  pub parts : marks ≡ commas ++ (suppressed ++ shown)
  pub commas_are : AllAmong (codes ",") commas
  pub fill_is : (fill ≡ 90) ⊎ (fill ≡ 42)
  pub suppressed_is : IsStretch fill suppressed
  pub shown_is : IsStretch 57 shown
  pub some : marks ≢ []

-- the signs that may end an edited picture, or none
abbrev pub endings : List (List ℕ)
endings = [] ∷ codes "+" ∷ codes "-" ∷ codes "CR" ∷ codes "DB" ∷ []

-- Edited: a sign or none, a $ or none, the digits up to the point, a point with 9s or neither, and a sign, CR, DB or none. There
-- is one sign at most and one digit at least. Marks of 9s alone are numeric.
pub record IsEdited (marks : List ℕ) (form : Form) : Type 0 where
  pub before : List ℕ
  pub currency : List ℕ
  pub body : List ℕ
  pub point : List ℕ
  pub decimals : ℕ
  pub after : List ℕ
  pub parts : marks ≡ before ++ (currency ++ (body ++ (point ++ (replicate decimals 57 ++ after))))
  pub before_is : OneOf ([] ∷ codes "+" ∷ codes "-" ∷ []) before
  pub currency_is : OneOf ([] ∷ codes "$" ∷ []) currency
  pub body_is : IsBody body
  pub point_is : ((point ≡ codes ".") × (0 < decimals)) ⊎ ((point ≡ []) × (decimals ≡ 0))
  pub after_is : OneOf endings after
  pub one_sign : (before ≡ []) ⊎ (after ≡ [])
  pub some : 0 < count_by is_digit_mark marks
  pub not_numeric : AllAmong (codes "9") marks → ⊥
  pub is : form ≡ record { kind = Edited; size = length marks; digits = count_by is_digit_mark marks; decimals = decimals; signed = false }

-- the marks have the form
abbrev pub HasForm : List ℕ → Form → Type 0
HasForm marks form = IsAlphanumeric marks form ⊎ (IsNumeric marks form ⊎ IsEdited marks form)

-- at most 9,999 bytes, or 18 digits with 6 decimals, for an edited picture in 30 bytes
abbrev pub IsWithin : PictureKind → ℕ → ℕ → ℕ → Type 0
IsWithin Alphanumeric size digits decimals = size ≤ 9999
IsWithin Group size digits decimals = Unit {0}
IsWithin Numeric size digits decimals = (digits ≤ 18) × (decimals ≤ 6)
IsWithin Edited size digits decimals = (size ≤ 30) × (digits ≤ 18) × (decimals ≤ 6)

-- the byte that a separate sign takes
abbrev pub sign_bytes : SignPlace → ℕ
sign_bytes Inside = 0
sign_bytes Leading = 1
sign_bytes Trailing = 1

-- The form that a picture's marks have, where they take so many bytes.
abbrev pub form_of : PictureValue → ℕ → Form
form_of p size = record { kind = p.kind; size = size; digits = p.digits; decimals = p.decimals; signed = p.signed }

-- no digits, no sign and no marks
pub record IsPlain (p : PictureValue) : Type 0 where
  pub digits : p.digits ≡ 0
  pub decimals : p.decimals ≡ 0
  pub signed : p.signed ≡ false
  pub separate : p.separate ≡ Inside
  pub marks : p.marks ≡ []

-- A numeric picture has its digits in a byte each, and one byte more where a sign stands apart; only an S brings a sign.
pub record IsNumericPicture (p : PictureValue) : Type 0 where
  pub form : IsNumeric p.marks (form_of p p.digits)
  pub within : IsWithin Numeric p.size p.digits p.decimals
  pub size : p.size ≡ p.digits + sign_bytes p.separate
  pub unsigned : p.signed ≡ false → p.separate ≡ Inside

-- An edited picture has a byte for each mark.
pub record IsEditedPicture (p : PictureValue) : Type 0 where
  pub form : IsEdited p.marks (form_of p p.size)
  pub within : IsWithin Edited p.size p.digits p.decimals
  pub separate : p.separate ≡ Inside

-- What each picture keeps, by its category. X and A mean the same, so an alphanumeric picture keeps its size and no marks.
abbrev pub IsOfKind : PictureKind → PictureValue → Type 0
IsOfKind Alphanumeric p = IsPlain p × IsWithin Alphanumeric p.size 0 0
IsOfKind Group p = IsPlain p
IsOfKind Numeric p = IsNumericPicture p
IsOfKind Edited p = IsEditedPicture p

-- what each picture keeps
abbrev pub IsPicture : PictureValue → Type 0
IsPicture p = IsOfKind p.kind p

-- a picture of bytes, with neither digits nor marks
abbrev pub plain : PictureKind → ℕ → PictureValue
plain kind size = record { kind = kind; size = size; digits = 0; decimals = 0; signed = false; separate = Inside; marks = [] }

-- The marks of a number as it is written: an S where it has a sign, and a V where it has decimal places.
abbrev pub marks_with : ℕ → ℕ → Bool → List ℕ
marks_with whole decimals signed = (if signed then codes "S" else []) ++ (replicate whole 57 ++ ((if nat_lt 0 decimals then codes "V" else []) ++ replicate decimals 57))

-- the picture of such a number
abbrev pub number : ℕ → ℕ → Bool → PictureValue
number digits decimals signed = record { kind = Numeric; size = digits; digits = digits; decimals = decimals; signed = signed; separate = Inside; marks = marks_with (digits - decimals) decimals signed }

-- The picture with its sign at this place. Without an S it is the same.
abbrev pub signed_at : SignPlace → PictureValue → PictureValue
signed_at place p = if p.signed then record { kind = p.kind; size = p.digits + sign_bytes place; digits = p.digits; decimals = p.decimals; signed = p.signed; separate = place; marks = p.marks } else p
