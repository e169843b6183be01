-- How the code builds the opening bytes: item by item, from the front, with the table that is open.
use Rattle.std.specs.Prelude.{◌≡◌, ℕ, zero, suc, Bool, true, false, not, ◌&&◌, ◌||◌, if◌then◌else◌, List, [], ◌∷◌, ◌++◌, length, Option, Some, None, is_some, option_map}
use Rattle.picture_rule.specs.Picture.{PictureValue}
use Rattle.data_layout.specs.Storage.{number_of_times}
use Rattle.data_layout.specs.declared.layout.Item.{Item}
use Rattle.data_names.specs.Clauses.{value_clause}
use Rattle.data_names.specs.Items.{DataItem}
use Rattle.data_names.specs.Spots.{Spot, has_value, is_in_value, is_repeated}
use Rattle.opening_storage.specs.Opening.{opening_bytes, gives_bytes, can_hold}
use Rattle.opening_storage.specs.declared.filling.OpenTable.{OpenTable}
use Rattle.opening_storage.specs.declared.filling.Filling.{Filling}

-- some bytes again and again
abbrev pub often : ℕ → List ℕ → List ℕ
often zero bytes = []
often (suc times) bytes = often times bytes ++ bytes

-- what an item adds
pub record Piece : Type 0 where
  pub in_value : Bool
  pub repeated : Bool
  pub gives : Bool
  pub occurs : Option ℕ
  pub bytes : List ℕ

-- elementary or with VALUE
abbrev pub may_give : DataItem → Bool
may_give item = not item.row.group || has_value item

abbrev pub own_bytes : DataItem → PictureValue → List ℕ
own_bytes item picture = opening_bytes picture (value_clause item.source.entry.clauses)

abbrev pub piece_of : Bool → Bool → DataItem → PictureValue → Piece
piece_of in_value repeated item picture =
    record { in_value = in_value; repeated = repeated; gives = may_give item; occurs = item.row.occurs; bytes = own_bytes item picture }

-- the pieces of items among others, with their places
abbrev pub pieces : List (Spot DataItem) → List Item → List Piece
pieces [] places = []
pieces (spot ∷ spots) [] = []
pieces (spot ∷ spots) (place ∷ places) = piece_of (is_in_value spot) (is_repeated spot) spot.item place.picture ∷ pieces spots places

-- one occurrence of a table, as far as it is there, and how often the table occurs
pub record Once : Type 0 where
  pub bytes : List ℕ
  pub times : ℕ

-- the bytes so far, and the table that is open
pub record Filled : Type 0 where
  pub bytes : List ℕ
  pub table : Option Once

abbrev pub seen_table : OpenTable → Once
seen_table table = record { bytes = table.once.items; times = table.times }

abbrev pub seen_filling : Filling → Filled
seen_filling filling = record { bytes = filling.bytes.items; table = option_map seen_table filling.table }

abbrev pub before_all : Filled
before_all = record { bytes = []; table = None }

-- the bytes with all occurrences of the table that is open
abbrev pub closed_bytes : List ℕ → Option Once → List ℕ
closed_bytes bytes None = bytes
closed_bytes bytes (Some table) = bytes ++ often table.times table.bytes

abbrev pub closed : Filled → Filled
closed filled = record { bytes = closed_bytes filled.bytes filled.table; table = None }

-- more bytes, in the table that is open, or after all so far
abbrev pub with_more : List ℕ → Option Once → List ℕ → Filled
with_more bytes None more = record { bytes = bytes ++ more; table = None }
with_more bytes (Some table) more = record { bytes = bytes; table = Some (record { bytes = table.bytes ++ more; times = table.times }) }

-- an item that gives bytes adds them, as often as it occurs itself; a group with OCCURS opens a table
abbrev pub added : Filled → Piece → Filled
added filled piece =
    if piece.gives then with_more filled.bytes filled.table (often (number_of_times piece.occurs) piece.bytes)
    else (if is_some piece.occurs then record { bytes = filled.bytes; table = Some (record { bytes = []; times = number_of_times piece.occurs }) } else filled)

-- a group with VALUE around it has given its bytes; an item outside the open table closes it
abbrev pub entered : Filled → Piece → Filled
entered filled piece = if piece.in_value then filled else added (if piece.repeated then filled else closed filled) piece

abbrev pub entered_all : Filled → List Piece → Filled
entered_all filled [] = filled
entered_all filled (piece ∷ others) = entered_all (entered filled piece) others

-- what an item gives has the size of its picture
abbrev pub IsSized : Spot DataItem → Item → Type 0
IsSized spot place = gives_bytes spot ≡ true → length (own_bytes spot.item place.picture) ≡ place.picture.size

-- the item can hold its VALUE
abbrev pub holds : DataItem → Item → Bool
holds item place = can_hold place.picture (value_clause item.source.entry.clauses)

-- each item can
abbrev pub all_hold : List DataItem → List Item → Bool
all_hold [] [] = true
all_hold [] (place ∷ places) = false
all_hold (item ∷ items) [] = false
all_hold (item ∷ items) (place ∷ places) = holds item place && all_hold items places
