-- The items of a program's data division, with what their levels, pictures and places in the text say.
use Rattle.std.specs.Prelude.{◌≡◌, ℕ, ◌+◌, Bool, false, List, [], ◌∷◌, ◌++◌, map, Option, Some, None, All}
use Rattle.cob_base.specs.declared.divisions.Front.{Front}
use Rattle.cob_base.specs.declared.divisions.FileDescription.{FileDescription}
use Rattle.picture_rule.specs.Picture.{Form}
use Rattle.picture_rule.specs.Text.{Spells, IsWhole}
use Rattle.picture_rule.specs.declared.kind.PictureKind.{PictureKind}
use Rattle.data_layout.specs.declared.row.Row.{Row}
use Rattle.data_layout.specs.declared.row.Described.{Described}
use Rattle.data_layout.specs.Rows.{sections, AreAllRows, picture_text}
use Rattle.data_names.specs.Parts.{Source, item_entries, descriptions, working_storage}

-- What the text after PICTURE spells, whatever its size: a category and whether there is an S, or nothing.
abbrev pub IsTold : Option (List ℕ) → Option PictureKind → Bool → Type 0
IsTold None told signed = (told ≡ None) × (signed ≡ false)
IsTold (Some text) None signed = ((marks : List ℕ) (form : Form) → Spells text marks form → ⊥) × (signed ≡ false)
IsTold (Some text) (Some kind) signed = (marks : List ℕ) × (form : Form) × Spells text marks form × (kind ≡ form.kind) × (signed ≡ form.signed)

-- whether that text spells a form without decimals
abbrev pub IsToldWhole : Option (List ℕ) → Bool → Type 0
IsToldWhole None whole = whole ≡ false
IsToldWhole (Some text) whole = IsWhole text whole

-- ---- items of the data division

-- An item: its entry, its row in the layout of storage, its name, its picture where that keeps the limits, and what its picture's
-- text spells whatever its size.
pub record DataItem : Type 0 where
  pub source : Source
  pub row : Row
  pub text : Described
  pub kind : Option PictureKind
  pub signed : Bool
  pub whole : Bool

-- the entries of the files' items, the descriptions numbered from here on
abbrev pub file_sources : ℕ → List FileDescription → List Source
file_sources number [] = []
file_sources number (file ∷ others) =
    map (λ entry. record { file = Some number; entry = entry }) (item_entries file.records) ++ file_sources (number + 1) others

-- the entries of all items: those of the files in order, then those of working storage
abbrev pub sources : Front → List Source
sources front = file_sources 0 (descriptions front) ++ map (λ entry. record { file = None; entry = entry }) (item_entries (working_storage front))

-- these are the items of the program, in order
pub record AreDataItems (front : Front) (items : List DataItem) : Type 0 where
  pub rows : AreAllRows 0 (sections front) (map (λ item. item.row) items) (map (λ item. item.text) items)
  pub entries : map (λ item. item.source) items ≡ sources front
  pub told : All (λ item. IsTold (picture_text item.source.entry.clauses) item.kind item.signed) items
  pub whole : All (λ item. IsToldWhole (picture_text item.source.entry.clauses) item.whole) items
