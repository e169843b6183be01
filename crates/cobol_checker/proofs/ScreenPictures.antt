-- The picture and the size of an entry of a screen, as the rules on the front and as the plans of screens read them.
use Rattle.std.proofs.Common.{◌≡◌, ◌∙◌, inl, inr, refl, sym, ap, subst, ℕ, Bool, true, false, List, length, Option, Some, None, is_some}
use Rattle.std.specs.Prelude.{if◌then◌else◌, ◌||◌}
use Rattle.picture_rule.specs.Picture.{Form, PictureValue, signed_at}
use Rattle.picture_rule.specs.Text.{Spells, Fits, picture_of}
use Rattle.picture_rule.specs.declared.kind.PictureKind.{PictureKind}
use Rattle.picture_rule.specs.declared.kind.SignPlace.TheVariants.{Inside}
use Rattle.data_layout.specs.declared.row.Spelled.{Spelled}
use Rattle.data_layout.specs.declared.row.Spelled.TheVariants as s
use Rattle.data_layout.specs.Rows.{IsRead}
use Rattle.data_layout.specs.Faults.{is_unreadable}
use Rattle.data_names.specs.Items.{IsTold}
use Rattle.data_names.proofs.Forms.{spells_once}
use Rattle.entry_clauses.specs.Spelled.{is_too_wide}
use Rattle.screen_rules.specs.Placing.{text_size}
use Rattle.screen_rows.specs.Rows.{IsSeen, unless_signed, text_or_none}

-- a size that both know, and the picture of what is written after PICTURE
pub record SamePicture (text value : Option (List ℕ)) (known size : Option ℕ) (seen picture : Option PictureValue) : Type 0 where
  pub bytes : ℕ
  pub shown : known ≡ Some bytes
  pub size_is : size ≡ Some bytes
  pub pictured : is_some text ≡ true → (p : PictureValue) × (seen ≡ Some p) × (picture ≡ Some p)

-- the bytes that the rules say an entry shows
abbrev pub known_size : Option (List ℕ) → Option (List ℕ) → Spelled → Bool → ℕ → Option ℕ
known_size text value spelled signed size = if is_some text then (if is_unreadable spelled || signed then None else Some size) else Some (text_size value)

same_text : (value : Option (List ℕ)) → length (text_or_none value) ≡ text_size value
same_text None = refl
same_text (Some text) = refl

no_sign : (signed : Bool) (p other : PictureValue) → signed ≡ false → (if signed then other else p) ≡ p
no_sign signed p other e = rw e refl

unsigned : {A : Type 0} (signed : Bool) (x : A) → signed ≡ false → unless_signed signed x ≡ Some x
unsigned signed x e = rw e refl

signed_as : (text : List ℕ) (kind : Option PictureKind) (marks : List ℕ) (form : Form) → IsTold (Some text) kind false → Spells text marks form → form.signed ≡ false
signed_as text None marks form told spells = absurd (told.0 marks form spells)
signed_as text (Some kind) marks form told spells = ap (λ (f : Form). f.signed) (spells_once text marks told.0 form told.1 spells told.2).1 ∙ sym told.4

fitting : (text : List ℕ) (value : Option (List ℕ)) (item_size : ℕ) (picture : Option PictureValue) (kind : Option PictureKind) (size : Option ℕ) (seen : Option PictureValue)
    → IsRead (Some text) Inside s.Fits item_size picture → IsTold (Some text) kind false → IsSeen (Some text) value size seen → SamePicture (Some text) value (Some item_size) size seen picture
fitting text value item_size picture kind size seen read told (inl n) = absurd (n.0 read.0 read.1 read.2)
fitting text value item_size picture kind size seen read told (inr (inl w)) =
    let wide = w.3 in
    let same : read.1 ≡ wide.1 = (spells_once text read.0 wide.0 read.1 wide.1 read.2 wide.2).1 in
    absurd (wide.3 (subst (λ f. Fits f) same read.3))
fitting text value item_size picture kind size seen read told (inr (inr t)) =
    let same = spells_once text read.0 t.0 read.1 t.1 read.2 t.2 in
    let plain = signed_as text kind t.0 t.1 told t.2 in
    let first = signed_as text kind read.0 read.1 told read.2 in
    let kept : signed_at Inside (picture_of read.0 read.1) ≡ picture_of read.0 read.1 = no_sign read.1.signed (picture_of read.0 read.1) _ first in
    let pictures : picture_of read.0 read.1 ≡ picture_of t.0 t.1 = ap (λ m. picture_of m read.1) same.0 ∙ ap (picture_of t.0) same.1 in
    let bytes : item_size ≡ t.1.size = read.4 ∙ ap (λ (p : PictureValue). p.size) (kept ∙ pictures) in
    record {
      bytes = t.1.size;
      shown = ap Some bytes;
      size_is = t.4 ∙ unsigned t.1.signed t.1.size plain;
      pictured = λ h. (picture_of t.0 t.1, t.5 ∙ unsigned t.1.signed (picture_of t.0 t.1) plain, read.5 ∙ ap Some (kept ∙ pictures));
    }

same_picture : (text value : Option (List ℕ)) (spelled : Spelled) (item_size : ℕ) (picture : Option PictureValue) (kind : Option PictureKind) (size : Option ℕ) (seen : Option PictureValue)
    → IsRead text Inside spelled item_size picture → IsTold text kind false → is_unreadable spelled ≡ false → is_too_wide spelled ≡ false → IsSeen text value size seen
    → SamePicture text value (known_size text value spelled false item_size) size seen picture
same_picture None value spelled item_size picture kind size seen read told u w h =
    record { bytes = text_size value; shown = refl; size_is = h.0 ∙ ap Some (same_text value); pictured = λ none. cc none }
same_picture (Some text) value s.Missing item_size picture kind size seen read told u w h = absurd read
same_picture (Some text) value s.Unreadable item_size picture kind size seen read told u w h = cc u
same_picture (Some text) value s.TooWide item_size picture kind size seen read told u w h = cc w
same_picture (Some text) value s.Fits item_size picture kind size seen read told u w h = fitting text value item_size picture kind size seen read told h

pub picture_same : (text value : Option (List ℕ)) (spelled : Spelled) (item_size : ℕ) (picture : Option PictureValue) (kind : Option PictureKind) (signed : Bool) (size : Option ℕ) (seen : Option PictureValue)
    → IsRead text Inside spelled item_size picture → IsTold text kind signed → signed ≡ false → is_unreadable spelled ≡ false → is_too_wide spelled ≡ false → IsSeen text value size seen
    → SamePicture text value (known_size text value spelled signed item_size) size seen picture
picture_same text value spelled item_size picture kind signed size seen read told e u w h =
    subst (λ (b : Bool). SamePicture text value (known_size text value spelled b item_size) size seen picture) (sym e)
    (same_picture text value spelled item_size picture kind size seen read (subst (λ (b : Bool). IsTold text kind b) e told) u w h)
