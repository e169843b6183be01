-- Where each item lies.
use Rattle.std.specs.Prelude.{◌≡◌, ℕ, ◌+◌, ◌≤◌, ◌⊎◌, All, Bool, true, false, List, [], ◌∷◌, ◌++◌, sum_by, Option, Some, None, is_some, if◌then◌else◌}
use Rattle.std.specs.List.{list_all}
use Rattle.picture_rule.specs.Picture.{PictureValue, plain}
use Rattle.picture_rule.specs.declared.kind.PictureKind.TheVariants.{Group}
use Rattle.data_layout.specs.declared.row.Row.{Row}
use Rattle.data_layout.specs.declared.row.Described.{Described}
use Rattle.data_layout.specs.declared.layout.Item.{Item}
use Rattle.data_layout.specs.declared.layout.Layout.{Layout}
use Rattle.data_layout.specs.Occurrences.{AreTablesApart, AreOccurrencesInside}
use Rattle.data_layout.specs.Storage.{goes_on, groups, members, own_size, storage, is_repeated, last_of}

-- the number of the innermost of groups
abbrev pub number_of : Option Row → Option ℕ
number_of None = None
number_of (Some row) = Some row.number

abbrev pub parent_of : List Row → Row → Option ℕ
parent_of before row = number_of (last_of (groups before row))

-- The offset of a row after others. In no group with OCCURS it is the bytes of what stands before. In a group with OCCURS, before
-- which `ahead` stands, it is that group's offset and the sizes of the elementary items of the group before the row, each once.
abbrev pub IsOffset : List Row → Row → ℕ → Type 0
IsOffset before row offset =
    ((is_repeated before row ≡ false) × (offset ≡ storage before))
    ⊎ ((ahead : List Row) × (group : Row) × (later : List Row) × (before ≡ ahead ++ group ∷ later) × (list_all (goes_on group) (later ++ row ∷ []) ≡ true)
    × (is_some group.occurs ≡ true) × (offset ≡ storage ahead + sum_by own_size (group ∷ later)))

-- a group's size is that of its members
abbrev pub size_of : Row → List Row → ℕ
size_of row rest = if row.group then storage (members row rest) else row.size

-- no OCCURS is written as 0
abbrev pub occurs_or_zero : Option ℕ → ℕ
occurs_or_zero None = 0
occurs_or_zero (Some number) = number

-- a group has the picture of its bytes, an elementary item that of its entry
abbrev pub IsItemPicture : Bool → ℕ → Option PictureValue → PictureValue → Type 0
IsItemPicture true size given picture = picture ≡ plain Group size
IsItemPicture false size given picture = given ≡ Some picture

-- the item of a row between others
pub record IsItem (before : List Row) (row : Row) (rest : List Row) (text : Described) (item : Item) : Type 0 where
  pub line : item.line ≡ row.line
  pub name : item.name ≡ text.name
  pub level : item.level ≡ row.level
  pub parent : item.parent ≡ parent_of before row
  pub offset : IsOffset before row item.offset
  pub size : item.size ≡ size_of row rest
  pub occurs : item.occurs ≡ occurs_or_zero row.occurs
  pub picture : IsItemPicture row.group (size_of row rest) text.picture item.picture

-- the items of the rows after others
abbrev pub AreItems : List Row → List Row → List Described → List Item → Type 0
AreItems before [] texts items = (texts ≡ []) × (items ≡ [])
AreItems before (row ∷ rest) [] items = ⊥
AreItems before (row ∷ rest) (text ∷ texts) [] = ⊥
AreItems before (row ∷ rest) (text ∷ texts) (item ∷ items) = IsItem before row rest text item × AreItems (before ++ row ∷ []) rest texts items

-- an item's first occurrence lies within all bytes, and its picture has its size
pub record IsInside (total : ℕ) (item : Item) : Type 0 where
  pub within : item.offset + item.size ≤ total
  pub sized : item.picture.size ≡ item.size

-- an item for each row, and all bytes; no OCCURS stands inside another; each item lies within all bytes in each of its occurrences
pub record IsLayout (rows : List Row) (texts : List Described) (layout : Layout) : Type 0 where
  pub items : AreItems [] rows texts layout.items
  pub total : layout.total ≡ storage rows
  pub inside : All (IsInside layout.total) layout.items
  pub apart : AreTablesApart layout
  pub each : AreOccurrencesInside layout
