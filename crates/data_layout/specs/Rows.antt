-- What of a data entry decides its place: the rows of a program's entries.
--
-- Each file's records are a section, and so is working storage. A row is the entry of an item; an 88 entry is none.
use Rattle.std.specs.Prelude.{◌≡◌, ℕ, ◌+◌, ◌==◌, nat_lt, if◌then◌else◌, Bool, true, false, List, [], ◌∷◌, ◌++◌, length, map, count_by, Option, Some, None}
use Rattle.std.specs.List.{list_any, flat_map}
use Rattle.cob_base.specs.declared.line.Line.{Line}
use Rattle.cob_base.specs.declared.divisions.Front.{Front}
use Rattle.cob_base.specs.declared.divisions.DataDivision.{DataDivision}
use Rattle.cob_base.specs.declared.divisions.FileDescription.{FileDescription}
use Rattle.cob_base.specs.declared.data_entries.DataEntry.{DataEntry}
use Rattle.cob_base.specs.declared.data_entries.DataEntry.TheVariants.{Item, Condition}
use Rattle.cob_base.specs.declared.data_entries.ItemEntry.{ItemEntry}
use Rattle.cob_base.specs.declared.data_entries.ItemClause.{ItemClause}
use Rattle.cob_base.specs.declared.data_entries.ItemClause.TheVariants as c
use Rattle.cob_base.specs.declared.data_entries.SignSide.{SignSide}
use Rattle.cob_base.specs.declared.data_entries.SignSide.TheVariants as sides
use Rattle.picture_rule.specs.Picture.{Form, PictureValue, signed_at, sign_bytes}
use Rattle.picture_rule.specs.Text.{Spells, Fits, IsTooWide, picture_of}
use Rattle.picture_rule.specs.declared.kind.PictureKind.{PictureKind}
use Rattle.picture_rule.specs.declared.kind.SignPlace.{SignPlace}
use Rattle.picture_rule.specs.declared.kind.SignPlace.TheVariants.{Inside, Leading, Trailing}
use Rattle.data_layout.specs.declared.row.Row.{Row}
use Rattle.data_layout.specs.declared.row.Spelled.{Spelled}
use Rattle.data_layout.specs.declared.row.Spelled.TheVariants as s
use Rattle.data_layout.specs.declared.row.Described.{Described}
use Rattle.data_layout.specs.declared.clauses.ClauseKind.{ClauseKind}
use Rattle.data_layout.specs.declared.clauses.ClauseKind.TheVariants as k

-- ---- clauses: where one stands twice, the first counts

-- the text after PICTURE
abbrev pub picture_text : List ItemClause → Option (List ℕ)
picture_text [] = None
picture_text (c.Picture text ∷ rest) = Some text
picture_text (_ ∷ rest) = picture_text rest

-- the number after OCCURS
abbrev pub occurs_of : List ItemClause → Option ℕ
occurs_of [] = None
occurs_of (c.Occurs number ∷ rest) = Some number
occurs_of (_ ∷ rest) = occurs_of rest

abbrev pub place_of : SignSide → Bool → SignPlace
place_of side false = Inside
place_of sides.Leading true = Leading
place_of sides.Trailing true = Trailing

-- where a SIGN clause puts the sign
abbrev pub sign_place : List ItemClause → SignPlace
sign_place [] = Inside
sign_place (c.Sign side separate ∷ rest) = place_of side separate
sign_place (_ ∷ rest) = sign_place rest

-- a clause is known by its first word, so LEADING and TRAILING are one
abbrev pub is_of : ClauseKind → ItemClause → Bool
is_of k.Picture (c.Picture text) = true
is_of k.Usage c.Display = true
is_of k.Value (c.Value value) = true
is_of k.Occurs (c.Occurs number) = true
is_of k.Sign (c.Sign side separate) = true
is_of _ _ = false

-- some clause is written twice
abbrev pub is_twice : List ItemClause → Bool
is_twice clauses = list_any (λ kind. nat_lt 1 (count_by (is_of kind) clauses)) (k.Picture ∷ k.Usage ∷ k.Value ∷ k.Occurs ∷ k.Sign ∷ [])

-- ---- levels

-- 77 ranks with 01
abbrev pub rank : ℕ → ℕ
rank level = if level == 77 then 1 else level

-- the level of the next item
abbrev pub next_level : List DataEntry → Option ℕ
next_level [] = None
next_level (Item entry ∷ rest) = Some entry.level
next_level (Condition entry ∷ rest) = next_level rest

-- a group is followed by an item of a lower rank, which a higher number writes
abbrev pub is_above : ℕ → Option ℕ → Bool
is_above level None = false
is_above level (Some next) = nat_lt (rank level) (rank next)

-- ---- pictures

-- the bytes of a separate sign, which only a signed picture has
abbrev pub sign_size : Bool → SignPlace → ℕ
sign_size signed place = if signed then sign_bytes place else 0

-- What the text after PICTURE comes to, with the sign at this place: no text, no picture, one past its limits, of which the size
-- is kept, or a picture.
abbrev pub IsRead : Option (List ℕ) → SignPlace → Spelled → ℕ → Option PictureValue → Type 0
IsRead None place spelled size picture = (spelled ≡ s.Missing) × (size ≡ 0) × (picture ≡ None)
IsRead (Some text) place s.Missing size picture = ⊥
IsRead (Some text) place s.Unreadable size picture = ((marks : List ℕ) (form : Form) → Spells text marks form → ⊥) × (size ≡ 0) × (picture ≡ None)
IsRead (Some text) place s.TooWide size picture = ((kind : PictureKind) × (bytes : ℕ) × (signed : Bool) × IsTooWide text kind bytes signed × (size ≡ bytes + sign_size signed place)) × (picture ≡ None)
IsRead (Some text) place s.Fits size picture = (marks : List ℕ) × (form : Form) × Spells text marks form × Fits form × (size ≡ (signed_at place (picture_of marks form)).size) × (picture ≡ Some (signed_at place (picture_of marks form)))

-- ---- rows

-- the row of an entry, which the rest of its section follows
pub record IsRow (of_file first : Bool) (at_number : ℕ) (entry : ItemEntry) (rest : List DataEntry) (row : Row) (text : Described) : Type 0 where
  pub number : row.number ≡ at_number
  pub line : row.line ≡ entry.line
  pub level : row.level ≡ entry.level
  pub in_file : row.in_file ≡ of_file
  pub starts : row.starts ≡ first
  pub group : row.group ≡ is_above entry.level (next_level rest)
  pub occurs : row.occurs ≡ occurs_of entry.clauses
  pub twice : row.twice ≡ is_twice entry.clauses
  pub read : IsRead (picture_text entry.clauses) (sign_place entry.clauses) row.spelled row.size text.picture
  pub name : text.name ≡ entry.name

-- The rows of what is left of a section, numbered from here on. `starts` says that no item came before.
abbrev pub AreRows : Bool → Bool → ℕ → List DataEntry → List Row → List Described → Type 0
AreRows in_file starts number [] rows texts = (rows ≡ []) × (texts ≡ [])
AreRows in_file starts number (Condition entry ∷ rest) rows texts = AreRows in_file starts number rest rows texts
AreRows in_file starts number (Item entry ∷ rest) rows texts =
    (row : Row) × (text : Described) × (more : List Row) × (others : List Described)
    × IsRow in_file starts number entry rest row text × AreRows in_file false (number + 1) rest more others × (rows ≡ row ∷ more) × (texts ≡ text ∷ others)

-- a section: whether it is a file's, and its entries
pub record Section : Type 0 where
  pub in_file : Bool
  pub entries : List DataEntry

abbrev pub file_section : FileDescription → Section
file_section file = record { in_file = true; entries = file.records }

abbrev pub storage_section : List DataEntry → Section
storage_section entries = record { in_file = false; entries = entries }

abbrev pub or_none : {A : Type 0} → Option (List A) → List A
or_none None = []
or_none (Some xs) = xs

abbrev pub data_sections : Option DataDivision → List Section
data_sections None = []
data_sections (Some division) = map file_section (or_none division.files) ++ storage_section (or_none division.working_storage) ∷ []

-- the records of the files in order, then working storage
abbrev pub sections : Front → List Section
sections front = data_sections front.data

-- the rows of one section after another
abbrev pub AreAllRows : ℕ → List Section → List Row → List Described → Type 0
AreAllRows number [] rows texts = (rows ≡ []) × (texts ≡ [])
AreAllRows number (section ∷ others) rows texts =
    (first : List Row) × (names : List Described) × (more : List Row) × (later : List Described)
    × AreRows section.in_file true number section.entries first names × AreAllRows (number + length first) others more later
    × (rows ≡ first ++ more) × (texts ≡ names ++ later)

-- the lines of the 88 entries that stand after no item of their section
abbrev pub leading_conditions : List DataEntry → List Line
leading_conditions [] = []
leading_conditions (Condition entry ∷ rest) = entry.line ∷ leading_conditions rest
leading_conditions (Item entry ∷ rest) = []

abbrev pub strays : List Section → List Line
strays all = flat_map (λ section. leading_conditions section.entries) all
