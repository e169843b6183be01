-- The opening storage of a program: the bytes of its files' records in order, then those of working storage.
use Rattle.std.specs.Prelude.{◌≡◌, ℕ, ◌+◌, ◌*◌, ◌<◌, Bool, true, not, ◌&&◌, ◌||◌, if◌then◌else◌, pos, List, [], ◌∷◌, ◌++◌, length, take, drop, replicate, find, Option, Some, None, is_some, slice_get}
use Rattle.std.specs.List.{list_any, AllZip}
use Rattle.cob_base.specs.declared.divisions.Front.{Front}
use Rattle.cob_base.specs.declared.operands.Constant.{Constant}
use Rattle.cob_base.specs.declared.operands.Constant.TheVariants as c
use Rattle.picture_rule.specs.Picture.{PictureValue}
use Rattle.picture_rule.specs.Editing.{edited}
use Rattle.cob_value.specs.Figures.{is_numeric, is_number}
use Rattle.cob_value.specs.Texts.{fitted}
use Rattle.cob_value.specs.Moves.{may_fill, filled}
use Rattle.data_layout.specs.Storage.{number_of_times}
use Rattle.data_layout.specs.Occurrences as laid
use Rattle.data_layout.specs.declared.layout.Layout.{Layout}
use Rattle.data_layout.specs.declared.layout.Item.{Item}
use Rattle.data_names.specs.Clauses.{value_clause}
use Rattle.data_names.specs.Items.{DataItem, AreDataItems}
use Rattle.data_names.specs.Spots.{Spot, spots, groups_of, has_value}

-- What an occurrence of an item opens with. Without VALUE a numeric item holds zero, any other spaces. A text is filled with spaces, a
-- number is stored or edited.
abbrev pub opening_bytes : PictureValue → Option Constant → List ℕ
opening_bytes p None = if is_numeric p.kind then edited p (pos 0) else replicate p.size 32
opening_bytes p (Some (c.Text text)) = fitted p.size text
opening_bytes p (Some (c.Number number)) = edited p number.value
opening_bytes p (Some (c.Figurative figure)) = filled figure p

-- An entry gives bytes of its own where it is elementary or has VALUE, and no group around it has VALUE.
abbrev pub gives_bytes : Spot DataItem → Bool
gives_bytes spot = (not spot.item.row.group || has_value spot.item) && not (list_any has_value (groups_of spot))

-- what has the OCCURS by which the item occurs: itself or a group around it
abbrev pub table_of : Spot DataItem → Option DataItem
table_of spot = find (λ item. is_some item.row.occurs) (groups_of spot ++ spot.item ∷ [])

abbrev pub times_of : Option DataItem → ℕ
times_of None = 1
times_of (Some table) = number_of_times table.row.occurs

-- how far an occurrence lies from the one before it
abbrev pub stride_of : Layout → Option DataItem → ℕ
stride_of layout None = 0
stride_of layout (Some table) = laid.stride_of (slice_get layout.items table.row.number)

-- the bytes of each occurrence of an item
abbrev pub Opens : Layout → List ℕ → Spot DataItem → Item → Type 0
Opens layout bytes spot item =
    gives_bytes spot ≡ true → (k : ℕ) → k < times_of (table_of spot)
    → take item.size (drop (item.offset + k * stride_of layout (table_of spot)) bytes) ≡ opening_bytes item.picture (value_clause spot.item.source.entry.clauses)

-- these are the opening bytes of a program with these items and this layout
pub record IsOpening (items : List DataItem) (layout : Layout) (bytes : List ℕ) : Type 0 where
  pub length_is : length bytes ≡ layout.total
  pub each : AllZip (Opens layout bytes) (spots items) layout.items

-- the opening bytes of a front with this layout
pub record IsOpeningOf (front : Front) (layout : Layout) (bytes : List ℕ) : Type 0 where
  pub items : List DataItem
  pub items_are : AreDataItems front items
  pub opening : IsOpening items layout bytes

-- ---- what may be asked for

-- Any item can open with a text and with ZERO, a numeric or edited item with a number, any other with the other figurative constants.
abbrev pub can_hold : PictureValue → Option Constant → Bool
can_hold p None = true
can_hold p (Some (c.Text text)) = true
can_hold p (Some (c.Number number)) = is_number p.kind
can_hold p (Some (c.Figurative figure)) = may_fill figure p

abbrev pub CanHold : DataItem → Item → Type 0
CanHold item place = can_hold place.picture (value_clause item.source.entry.clauses) ≡ true

-- each item of the front can open with its VALUE
pub record CanOpen (front : Front) (layout : Layout) : Type 0 where
  pub items : List DataItem
  pub items_are : AreDataItems front items
  pub held : AllZip CanHold items layout.items
