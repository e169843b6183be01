-- How often items occur, and where each occurrence lies.
--
-- An item occurs as often as its own OCCURS says or that of a group around it, and once where none of them has OCCURS. In a layout
-- no OCCURS stands inside another, so there is one at most. Occurrences are counted from 0, so that the subscript i names
-- occurrence i - 1: it lies i - 1 times the size of the item that has the OCCURS behind the first.
use Rattle.std.specs.Prelude.{◌≡◌, ℕ, zero, suc, ◌+◌, ◌*◌, ◌<◌, ◌≤◌, ◌==◌, Bool, not, List, [], ◌∷◌, length, count_by, find, Option, Some, None, slice_get}
use Rattle.data_layout.specs.declared.layout.Item.{Item}
use Rattle.data_layout.specs.declared.layout.Layout.{Layout}

-- ---- an item and the groups around it

-- the number of the group around an item
abbrev pub group_of : Option Item → Option ℕ
group_of None = None
group_of (Some item) = item.parent

abbrev pub item_at : List Item → Option ℕ → Option Item
item_at items None = None
item_at items (Some number) = slice_get items number

-- the item, in front of what stands around it
abbrev pub with_item : Option Item → List Item → List Item
with_item None groups = []
with_item (Some item) groups = item ∷ groups

-- An item and the groups around it, from the inside out. There are no more of them than items.
abbrev pub around : ℕ → List Item → Option ℕ → List Item
around zero items place = []
around (suc most) items place = with_item (item_at items place) (around most items (group_of (item_at items place)))

abbrev pub around_item : List Item → ℕ → List Item
around_item items number = around (length items) items (Some number)

-- ---- occurrences

-- 0 stands for no OCCURS
abbrev pub has_occurs : Item → Bool
has_occurs item = not (item.occurs == 0)

-- what has the OCCURS by which an item occurs: itself or a group around it
abbrev pub table_around : List Item → ℕ → Option Item
table_around items number = find has_occurs (around_item items number)

-- how often an item occurs by what has the OCCURS
abbrev pub times_of : Option Item → ℕ
times_of None = 1
times_of (Some table) = table.occurs

-- how far an occurrence lies behind the one before it
abbrev pub stride_of : Option Item → ℕ
stride_of None = 0
stride_of (Some table) = table.size

-- how often the item of this number occurs
abbrev pub occurrences : List Item → ℕ → ℕ
occurrences items number = times_of (table_around items number)

-- where an occurrence of the item of this number begins
abbrev pub occurrence_at : List Item → ℕ → Item → ℕ → ℕ
occurrence_at items number item k = item.offset + k * stride_of (table_around items number)

-- ---- in a layout

-- no OCCURS stands inside another: of an item and the groups around it one at most has OCCURS
abbrev pub AreTablesApart : Layout → Type 0
AreTablesApart layout = (number : ℕ) → count_by has_occurs (around_item layout.items number) ≤ 1

-- each occurrence of each item lies within all bytes
abbrev pub AreOccurrencesInside : Layout → Type 0
AreOccurrencesInside layout =
    (number : ℕ) (item : Item) → slice_get layout.items number ≡ Some item → (k : ℕ) → k < occurrences layout.items number
    → occurrence_at layout.items number item k + item.size ≤ layout.total
