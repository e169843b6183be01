-- What of a screen entry decides its place and what it shows.
use Rattle.std.specs.Prelude.{◌≡◌, ℕ, nat_lt, nat_le, ◌==◌, ◌⊎◌, if◌then◌else◌, Bool, true, false, not, ◌&&◌, ◌||◌, List, [], ◌∷◌, length, replicate, Option, Some, None, is_some, is_none, slice_get}
use Rattle.cob_base.specs.declared.operands.Constant.{Constant}
use Rattle.cob_base.specs.declared.operands.Constant.TheVariants as constants
use Rattle.cob_base.specs.declared.operands.Number.{Number}
use Rattle.cob_base.specs.declared.operands.Operand.{Operand}
use Rattle.cob_base.specs.declared.operands.Operand.TheVariants as operands
use Rattle.cob_base.specs.declared.operands.Reference.{Reference}
use Rattle.cob_base.specs.declared.screen_entries.ScreenClause.{ScreenClause}
use Rattle.cob_base.specs.declared.screen_entries.ScreenEntry.{ScreenEntry}
use Rattle.picture_rule.specs.Picture.{Form, PictureValue, plain, number}
use Rattle.picture_rule.specs.Text.{Spells, Fits, IsTooWide, picture_of}
use Rattle.picture_rule.specs.Editing.{edited}
use Rattle.picture_rule.specs.declared.kind.PictureKind.{PictureKind}
use Rattle.picture_rule.specs.declared.kind.PictureKind.TheVariants.{Alphanumeric}
use Rattle.cob_value.specs.Moves.{may_move, moved, may_fill, filled}
use Rattle.data_layout.specs.Rows.{is_above}
use Rattle.data_layout.specs.declared.layout.Item.{Item}
use Rattle.data_layout.specs.declared.layout.Layout.{Layout}
use Rattle.screen_rows.specs.declared.row.ScreenRow.{ScreenRow}
use Rattle.screen_rows.specs.declared.row.Content.{Content}
use Rattle.screen_rows.specs.declared.row.Show.{Show}
use Rattle.screen_rows.specs.declared.row.Show.TheVariants as s
use Rattle.screen_rows.specs.declared.clauses.Look.{Look}
use Rattle.screen_rows.specs.Clauses.{own_clauses, value_text, picture_text, from_operand, to_reference, using_reference, is_twice}
use Rattle.screen_names.specs.Names.{only_item, is_single}

-- ---- pictures

abbrev pub text_or_none : Option (List ℕ) → List ℕ
text_or_none None = []
text_or_none (Some text) = text

-- the picture of a text; a text of more bytes than a picture may have is off the screen in any case
abbrev pub picture_of_text : ℕ → Option PictureValue
picture_of_text size = if nat_le size 9999 then Some (plain Alphanumeric size) else None

abbrev pub unless_signed : {A : Type 0} → Bool → A → Option A
unless_signed true x = None
unless_signed false x = Some x

-- An entry's size, where it is known, and its picture: that of a VALUE's bytes without PICTURE, else what the text after PICTURE
-- writes. No size is known of a text that is no picture or one with an S; a picture past its limits keeps its size.
abbrev pub IsSeen : Option (List ℕ) → Option (List ℕ) → Option ℕ → Option PictureValue → Type 0
IsSeen None value size picture = (size ≡ Some (length (text_or_none value))) × (picture ≡ picture_of_text (length (text_or_none value)))
IsSeen (Some text) value size picture =
    (((marks : List ℕ) (form : Form) → Spells text marks form → ⊥) × (size ≡ None) × (picture ≡ None))
    ⊎ (((kind : PictureKind) × (bytes : ℕ) × (signed : Bool) × IsTooWide text kind bytes signed × (size ≡ unless_signed signed bytes) × (picture ≡ None))
    ⊎ ((marks : List ℕ) × (form : Form) × Spells text marks form × Fits form × (size ≡ unless_signed form.signed form.size) × (picture ≡ unless_signed form.signed (picture_of marks form))))

-- ---- what is shown and what is filled

-- the item that a reference without a subscript names, which has no OCCURS in or above it
abbrev pub single_or_none : List Item → Option ℕ → Option ℕ
single_or_none items None = None
single_or_none items (Some place) = if is_single items place then Some place else None

abbrev pub target : Layout → Reference → Option ℕ
target layout reference = if is_some reference.subscript then None else single_or_none layout.items (only_item layout.items reference)

abbrev pub passes : (Item → Bool) → Option Item → Bool
passes test None = false
passes test (Some item) = test item

abbrev pub where_passes : (Item → Bool) → Layout → Option ℕ → Option ℕ
where_passes test layout None = None
where_passes test layout (Some place) = if passes test (slice_get layout.items place) then Some place else None

-- an item that may be moved into the picture
abbrev pub source : Layout → PictureValue → Reference → Option ℕ
source layout picture reference = where_passes (λ item. may_move item.picture picture) layout (target layout reference)

-- an item into which the picture may be moved
abbrev pub sink : Layout → PictureValue → Reference → Option ℕ
sink layout picture reference = where_passes (λ item. may_move picture item.picture) layout (target layout reference)

-- a number literal has 1 to 18 digits, of which 6 at most stand after the point
abbrev pub is_literal : Number → Bool
is_literal n = nat_lt 0 n.digits && nat_le n.digits 18 && nat_le n.decimals 6 && nat_le n.decimals n.digits

abbrev pub literal_picture : Number → PictureValue
literal_picture n = number n.digits n.decimals n.signed

-- a constant moved into the picture, where it may be
abbrev pub constant_shown : Constant → PictureValue → Option (List ℕ)
constant_shown (constants.Text text) picture = if nat_le (length text) 9999 then Some (moved (plain Alphanumeric (length text)) text picture) else None
constant_shown (constants.Number n) picture =
    if is_literal n && may_move (literal_picture n) picture then Some (moved (literal_picture n) (edited (literal_picture n) n.value) picture) else None
constant_shown (constants.Figurative figure) picture = if may_fill figure picture then Some (filled figure picture) else None

abbrev pub as_text : Option (List ℕ) → Option Show
as_text None = None
as_text (Some bytes) = Some (s.Text bytes)

abbrev pub as_item : Option ℕ → Option Show
as_item None = None
as_item (Some place) = Some (s.Item place)

abbrev pub operand_shown : Layout → PictureValue → Operand → Option Show
operand_shown layout picture (operands.Reference reference) = as_item (source layout picture reference)
operand_shown layout picture (operands.Constant constant) = as_text (constant_shown constant picture)

-- what is shown and the item that is filled, or None where one of them is refused
abbrev pub both_or_none : Option Show → Option ℕ → Option (Show × Option ℕ)
both_or_none None place = None
both_or_none (Some show) None = None
both_or_none (Some show) (Some place) = Some (show, Some place)

abbrev pub shown_alone : Option Show → Option (Show × Option ℕ)
shown_alone None = None
shown_alone (Some show) = Some (show, None)

abbrev pub spaces : PictureValue → List ℕ
spaces picture = replicate picture.size 32

-- By FROM, TO and USING: FROM shows, TO fills and shows spaces without FROM, USING shows and fills and stands alone.
abbrev pub content_by : Layout → PictureValue → Option Operand → Option Reference → Option Reference → Show → Option (Show × Option ℕ)
content_by layout picture None None None otherwise = Some (otherwise, None)
content_by layout picture (Some operand) None None otherwise = shown_alone (operand_shown layout picture operand)
content_by layout picture (Some operand) (Some reference) None otherwise = both_or_none (operand_shown layout picture operand) (sink layout picture reference)
content_by layout picture None (Some reference) None otherwise = both_or_none (Some (s.Text (spaces picture))) (sink layout picture reference)
content_by layout picture None None (Some reference) otherwise = both_or_none (as_item (source layout picture reference)) (sink layout picture reference)
content_by layout picture from to (Some reference) otherwise = None

-- without these an item shows its VALUE, or nothing
abbrev pub by_value : Option (List ℕ) → Show
by_value None = s.Nothing
by_value (Some text) = s.Text text

abbrev pub content_of : Layout → List ScreenClause → Option PictureValue → Option (Show × Option ℕ)
content_of layout clauses None = None
content_of layout clauses (Some picture) = content_by layout picture (from_operand clauses) (to_reference clauses) (using_reference clauses) (by_value (value_text clauses))

abbrev pub has_operand : List ScreenClause → Bool
has_operand clauses = is_some (from_operand clauses) || is_some (to_reference clauses) || is_some (using_reference clauses)

-- a text that is shown has this size
abbrev pub IsLong : ℕ → Show → Type 0
IsLong size s.Nothing = Unit {0}
IsLong size (s.Text bytes) = length bytes ≡ size
IsLong size (s.Item place) = Unit {0}

-- a text that an operand shows has the picture's size
abbrev pub IsLongIn : ℕ → Option (Show × Option ℕ) → Type 0
IsLongIn size None = Unit {0}
IsLongIn size (Some found) = IsLong size found.0

abbrev pub HasLength : List ScreenClause → Option PictureValue → Option (Show × Option ℕ) → Type 0
HasLength clauses None found = Unit {0}
HasLength clauses (Some picture) found = has_operand clauses ≡ true → IsLongIn picture.size found

-- ---- what is at fault in an entry by itself

abbrev pub has_content : List ScreenClause → Bool
has_content clauses = is_some (picture_text clauses) || is_some (value_text clauses) || has_operand clauses

abbrev pub is_past_colours : Option ℕ → Bool
is_past_colours None = false
is_past_colours (Some colour) = nat_lt 7 colour

abbrev pub is_bad_look : Look → Bool
is_bad_look look = (look.highlight && look.lowlight) || is_past_colours look.front || is_past_colours look.back

-- PICTURE goes with FROM, TO or USING, without which it does not stand, and not with VALUE
abbrev pub is_bad_pairing : List ScreenClause → Bool
is_bad_pairing clauses = (is_some (picture_text clauses) && not (has_operand clauses)) || (has_operand clauses && is_none (picture_text clauses)) || (is_some (picture_text clauses) && is_some (value_text clauses))

-- A clause twice, marks or colours that do not stand, a group with what only items have, clauses that do not go together, a picture or
-- an operand that is refused, level 77. `found` says that what is shown and filled is not refused.
abbrev pub is_bad_by : ℕ → List ScreenClause → Bool → Bool → Bool
is_bad_by level clauses group found =
    is_twice clauses || is_bad_look (own_clauses clauses).look || (group && has_content clauses) || is_bad_pairing clauses || (is_some (picture_text clauses) && not found) || (level == 77)

abbrev pub is_bad_entry : Layout → ScreenEntry → Bool → Option PictureValue → Bool
is_bad_entry layout entry group picture = is_bad_by entry.level entry.clauses group (is_some (content_of layout entry.clauses picture))

-- ---- rows

abbrev pub next_level : List ScreenEntry → Option ℕ
next_level [] = None
next_level (entry ∷ rest) = Some entry.level

-- the row of an entry, which the rest follows, and what it shows
pub record IsScreenRow (layout : Layout) (entry : ScreenEntry) (rest : List ScreenEntry) (row : ScreenRow) (content : Content) : Type 0 where
  pub line : row.line ≡ entry.line
  pub level : row.level ≡ entry.level
  pub group : row.group ≡ is_above entry.level (next_level rest)
  pub own : row.own ≡ own_clauses entry.clauses
  pub seen : IsSeen (picture_text entry.clauses) (value_text entry.clauses) row.size content.picture
  pub bad : row.bad ≡ is_bad_entry layout entry row.group content.picture
  pub name : content.name ≡ entry.name
  pub shows : (show : Show) (into : Option ℕ) → content_of layout entry.clauses content.picture ≡ Some (show, into) → (content.show ≡ show) × (content.into ≡ into)
  pub long : HasLength entry.clauses content.picture (content_of layout entry.clauses content.picture)

-- the rows of all entries
abbrev pub AreScreenRows : Layout → List ScreenEntry → List ScreenRow → List Content → Type 0
AreScreenRows layout [] rows contents = (rows ≡ []) × (contents ≡ [])
AreScreenRows layout (entry ∷ rest) [] contents = ⊥
AreScreenRows layout (entry ∷ rest) (row ∷ rows) [] = ⊥
AreScreenRows layout (entry ∷ rest) (row ∷ rows) (content ∷ contents) = IsScreenRow layout entry rest row content × AreScreenRows layout rest rows contents
