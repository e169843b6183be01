-- Reason 6: what is of the wrong kind.
use Rattle.std.specs.Prelude.{◌==◌, nat_le, ℤ, Bool, true, false, not, ◌&&◌, ◌||◌, if◌then◌else◌, List, ◌++◌, length, map, filter, Option, Some, None}
use Rattle.std.specs.Ordering.{int_eq}
use Rattle.cob_base.specs.declared.line.Line.{Line}
use Rattle.cob_base.specs.declared.divisions.Front.{Front}
use Rattle.cob_base.specs.declared.file_entries.FileEntry.{FileEntry}
use Rattle.cob_base.specs.declared.operands.Reference.{Reference}
use Rattle.cob_base.specs.declared.operands.Constant.{Constant}
use Rattle.cob_base.specs.declared.operands.Constant.TheVariants as c
use Rattle.picture_rule.specs.Picture.{PictureValue}
use Rattle.picture_rule.specs.Editing.{edited, unedited}
use Rattle.picture_rule.specs.declared.kind.PictureKind.{PictureKind}
use Rattle.picture_rule.specs.declared.kind.PictureKind.TheVariants.{Alphanumeric, Group, Numeric, Edited}
use Rattle.cob_value.specs.Figures.{is_numeric, is_number}
use Rattle.cob_value.specs.Values.{value_of}
use Rattle.cob_value.specs.Moves.{may_fill}
use Rattle.data_layout.specs.Faults.{has_size}
use Rattle.data_names.specs.Clauses.{value_clause}
use Rattle.data_names.specs.Parts.{files, crt_status}
use Rattle.entry_clauses.specs.Clauses.{has_leading_sign, file_status, is_file_clause_twice}
use Rattle.data_names.specs.Items.{DataItem}
use Rattle.entry_clauses.specs.ScreenItems.{ScreenItem}
use Rattle.data_names.specs.Spots.{Spot, spots, is_in_value, is_sized, bytes_of, picture_of_item, has_value}
use Rattle.data_names.specs.References.{found}
use Rattle.screen_rules.specs.ScreenKinds.{is_screen_of_wrong_kind}
use Rattle.name_rules.specs.Mentions.{is_subscripted, subscript_items, reference_of_crt}
use Rattle.front_rules.specs.Levels.{has_bad_level, misplaced_entries}

-- ---- VALUE

-- what a numeric or edited item gives back of a value that it holds
abbrev pub read_back : PictureValue → ℤ → ℤ
read_back p value = if is_numeric p.kind then value_of p (edited p value) else unedited p (edited p value)

-- A text fits an alphanumeric or edited item or a group of at least its length, a number a numeric or edited item from which it is read
-- back unchanged. ZERO fits every item, the other figurative constants those that are neither numeric nor edited. The length of a text
-- is judged where every size in the item is known; nothing else needs a size.
abbrev pub fits : Bool → PictureValue → Constant → Bool
fits sized p (c.Text text) = not (is_numeric p.kind) && (not sized || nat_le (length text) p.size)
fits sized p (c.Number constant) = is_number p.kind && int_eq (read_back p constant.value) constant.value
fits sized p (c.Figurative figure) = may_fill figure p

abbrev pub is_unfit : Bool → Option PictureValue → Option Constant → Bool
is_unfit sized None constant = false
is_unfit sized (Some p) None = false
is_unfit sized (Some p) (Some constant) = not (fits sized p constant)

-- a VALUE in the file section, inside a group with VALUE, or that does not fit its item
abbrev pub has_bad_value : Spot DataItem → Bool
has_bad_value spot =
    (has_value spot.item && (spot.item.row.in_file || is_in_value spot))
    || is_unfit (is_sized spot) (picture_of_item spot) (value_clause spot.item.source.entry.clauses)

-- ---- items

-- a bad level or VALUE, a clause written twice, or SIGN LEADING without SEPARATE
abbrev pub is_item_of_wrong_kind : Spot DataItem → Bool
is_item_of_wrong_kind spot =
    has_bad_level spot || has_bad_value spot || spot.item.row.twice || has_leading_sign spot.item.source.entry.clauses

-- ---- items that are named in the environment division

abbrev pub is_text_kind : Option PictureKind → Bool
is_text_kind None = false
is_text_kind (Some Alphanumeric) = true
is_text_kind (Some Group) = true
is_text_kind (Some Numeric) = false
is_text_kind (Some Edited) = false

-- alphanumeric, or a group
abbrev pub is_text : Spot DataItem → Bool
is_text spot = spot.item.row.group || is_text_kind spot.item.kind

-- FILE STATUS names an item of 2 bytes, alphanumeric or a group
abbrev pub is_no_status : Option (Spot DataItem) → Bool
is_no_status None = false
is_no_status (Some spot) = is_sized spot && not (is_text spot && (bytes_of spot == 2))

abbrev pub is_bad_status : List DataItem → Option Reference → Bool
is_bad_status items None = false
is_bad_status items (Some reference) = is_subscripted reference || is_no_status (found items reference)

-- a clause other than ALTERNATE twice, or a FILE STATUS that is none
abbrev pub is_file_of_wrong_kind : List DataItem → FileEntry → Bool
is_file_of_wrong_kind items file = is_file_clause_twice file.clauses || is_bad_status items (file_status file.clauses)

-- four digits without a sign or decimals
abbrev pub is_four_digits : Option PictureValue → Bool
is_four_digits None = false
is_four_digits (Some p) = is_numeric p.kind && (p.digits == 4) && (p.decimals == 0) && not p.signed

abbrev pub is_no_crt_status : Option (Spot DataItem) → Bool
is_no_crt_status None = false
is_no_crt_status (Some spot) = has_size spot.item.row && not (is_four_digits (picture_of_item spot))

abbrev pub is_number_kind : Option PictureKind → Bool
is_number_kind None = false
is_number_kind (Some Alphanumeric) = false
is_number_kind (Some Group) = false
is_number_kind (Some Edited) = false
is_number_kind (Some Numeric) = true

-- a number without decimals, also one past its limits
abbrev pub is_integer : Spot DataItem → Bool
is_integer spot = not spot.item.row.group && is_number_kind spot.item.kind && spot.item.whole

abbrev pub is_no_integer : Option (Spot DataItem) → Bool
is_no_integer None = false
is_no_integer (Some spot) = has_size spot.item.row && not (is_integer spot)

-- ---- all of them

abbrev pub wrong_in_environment : Front → List DataItem → List Line
wrong_in_environment front items =
    map (λ file. file.line) (filter (is_file_of_wrong_kind items) (files front))
    ++ map (λ crt. crt.line) (filter (λ crt. is_no_crt_status (found items (reference_of_crt crt))) (crt_status front))

abbrev pub wrong_in_data : Front → List DataItem → List Line
wrong_in_data front items =
    map (λ one. one.line) (filter (λ one. is_no_integer (found items one.reference)) (subscript_items front))
    ++ misplaced_entries front
    ++ map (λ spot. spot.item.row.line) (filter is_item_of_wrong_kind (spots items))

abbrev pub wrong_kinds : Front → List DataItem → List ScreenItem → List Line
wrong_kinds front items screens =
    wrong_in_environment front items ++ wrong_in_data front items
    ++ map (λ spot. spot.item.row.line) (filter (is_screen_of_wrong_kind items) (spots screens))
