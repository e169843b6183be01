-- Reason 6: values of the wrong kind in statements.
use Rattle.std.specs.Prelude.{ℕ, nat_lt, Bool, true, false, not, ◌||◌, List, ◌∷◌, length, Option, Some, None, option_to_list}
use Rattle.std.specs.List.{list_any}
use Rattle.cob_base.specs.declared.divisions.Front.{Front}
use Rattle.cob_base.specs.declared.operands.Reference.{Reference}
use Rattle.cob_base.specs.declared.operands.Constant.{Constant}
use Rattle.cob_base.specs.declared.operands.Constant.TheVariants as c
use Rattle.cob_base.specs.declared.operands.Operand.{Operand}
use Rattle.cob_base.specs.declared.operands.Operand.TheVariants as o
use Rattle.cob_base.specs.declared.operands.Figurative.{Figurative}
use Rattle.cob_base.specs.declared.data_entries.ValueRange.{ValueRange}
use Rattle.cob_base.specs.declared.file_entries.FileEntry.{FileEntry}
use Rattle.cob_base.specs.declared.paragraphs.Program.{Program}
use Rattle.cob_base.specs.declared.statements.Statement.{Statement}
use Rattle.cob_base.specs.declared.statements.Statement.TheVariants as s
use Rattle.picture_rule.specs.Picture.{PictureValue, plain, number}
use Rattle.picture_rule.specs.declared.kind.PictureKind.TheVariants.{Alphanumeric}
use Rattle.cob_value.specs.Figures.{is_numeric, is_number, is_zero}
use Rattle.cob_value.specs.Moves.{may_move, may_fill}
use Rattle.cob_value.specs.Comparisons.{may_compare, may_compare_fill}
use Rattle.data_names.specs.Items.{DataItem}
use Rattle.data_names.specs.Spots.{Spot, picture_of_item}
use Rattle.data_names.specs.References.{found}
use Rattle.front_rules.specs.Kinds.{is_no_integer}
use Rattle.name_rules.specs.Mentions.{picture_found}
use Rattle.statement_parts.specs.References.{conditions_of}
use Rattle.statement_parts.specs.Values.{Moving, moves_of, operands_of, numeric_items_of, results_of, counts_of, Comparing, comparisons_of}
use Rattle.procedure_names.specs.Names.{file_named, record_named, record_of_file}
use Rattle.procedure_names.specs.Conditions.{NamedCondition, found_condition}

-- A picture that is not known, since its text is refused or missing, is judged nowhere.

-- ---- operands

-- what an operand is beside another one: an item or a literal of a picture, a figurative constant, or not known
pub data Side : Type 0 where
  pictured : PictureValue → Side
  figured : Figurative → Side
  unknown : Side

abbrev pub side_of_picture : Option PictureValue → Side
side_of_picture None = unknown
side_of_picture (Some p) = pictured p

-- a text stands as an alphanumeric item, a number as a numeric one
abbrev pub side_of_constant : Constant → Side
side_of_constant (c.Text text) = pictured (plain Alphanumeric (length text))
side_of_constant (c.Number one) = pictured (number one.digits one.decimals one.signed)
side_of_constant (c.Figurative figure) = figured figure

abbrev pub side_of : List DataItem → Operand → Side
side_of items (o.Reference item) = side_of_picture (picture_found items item)
side_of items (o.Constant constant) = side_of_constant constant

-- ---- moves

-- what can't be moved into an item of this picture
abbrev pub is_bad_side_into : Side → PictureValue → Bool
is_bad_side_into (pictured from) to = not (may_move from to)
is_bad_side_into (figured figure) to = not (may_fill figure to)
is_bad_side_into unknown to = false

abbrev pub is_bad_into : Side → Option PictureValue → Bool
is_bad_into side None = false
is_bad_into side (Some to) = is_bad_side_into side to

-- an operand that can't be moved into an item of this picture
abbrev pub is_bad_sending : List DataItem → Operand → Option PictureValue → Bool
is_bad_sending items operand to = is_bad_into (side_of items operand) to

abbrev pub is_bad_moving : List DataItem → Moving → Bool
is_bad_moving items move = is_bad_sending items move.from (picture_found items move.to)

abbrev pub picture_of : Option (Spot DataItem) → Option PictureValue
picture_of None = None
picture_of (Some spot) = picture_of_item spot

abbrev pub picture_of_record : Front → List DataItem → List ℕ → Option PictureValue
picture_of_record front items file = of_file (file_named front file)
  where
    of_file : Option FileEntry → Option PictureValue
    of_file None = None
    of_file (Some entry) = picture_of (record_of_file front items entry)

-- READ moves a file's record into the item after INTO, WRITE and REWRITE move the operand after FROM into the record
abbrev pub has_bad_record_move : Front → List DataItem → Statement → Bool
has_bad_record_move front items (s.Read' file direction into locking lock key end not_end invalid not_invalid) =
    list_any (λ item. is_bad_into (side_of_picture (picture_of_record front items file)) (picture_found items item)) (option_to_list into)
has_bad_record_move front items (s.Write' name from retry lock invalid not_invalid) =
    list_any (λ operand. is_bad_sending items operand (picture_of (record_named items name))) (option_to_list from)
has_bad_record_move front items (s.Rewrite' name from retry lock invalid not_invalid) =
    list_any (λ operand. is_bad_sending items operand (picture_of (record_named items name))) (option_to_list from)
has_bad_record_move front items _ = false

-- ---- arithmetic and counts

abbrev pub is_no_numeric : Option PictureValue → Bool
is_no_numeric None = false
is_no_numeric (Some p) = not (is_numeric p.kind)

abbrev pub is_no_number : Option PictureValue → Bool
is_no_number None = false
is_no_number (Some p) = not (is_number p.kind)

-- of the constants, numbers and ZERO are numeric
abbrev pub is_no_numeric_constant : Constant → Bool
is_no_numeric_constant (c.Text text) = true
is_no_numeric_constant (c.Number one) = false
is_no_numeric_constant (c.Figurative figure) = not (is_zero figure)

-- an operand of arithmetic is numeric
abbrev pub is_no_operand : List DataItem → Operand → Bool
is_no_operand items (o.Reference item) = is_no_numeric (picture_found items item)
is_no_operand items (o.Constant constant) = is_no_numeric_constant constant

-- operands of arithmetic, and items that are receivers too, that are not numeric
abbrev pub reckons_badly : List DataItem → Statement → Bool
reckons_badly items statement =
    list_any (is_no_operand items) (operands_of statement) || list_any (λ item. is_no_numeric (picture_found items item)) (numeric_items_of statement)

-- a receiver of GIVING or COMPUTE is numeric or edited
abbrev pub is_no_result : List DataItem → Reference → Bool
is_no_result items item = is_no_number (picture_found items item)

-- a number has no decimal places as it is written
abbrev pub is_no_whole_constant : Constant → Bool
is_no_whole_constant (c.Text text) = true
is_no_whole_constant (c.Number one) = nat_lt 0 one.decimals
is_no_whole_constant (c.Figurative figure) = not (is_zero figure)

-- the number of TIMES or RETRY is an integer
abbrev pub is_no_count : List DataItem → Operand → Bool
is_no_count items (o.Reference item) = is_no_integer (found items item)
is_no_count items (o.Constant constant) = is_no_whole_constant constant

-- ---- comparisons

-- two that can't be compared; two figurative constants always can
abbrev pub is_bad_comparison : Side → Side → Bool
is_bad_comparison (pictured a) (pictured b) = not (may_compare a b)
is_bad_comparison (pictured a) (figured figure) = not (may_compare_fill a figure)
is_bad_comparison (figured figure) (pictured b) = not (may_compare_fill b figure)
is_bad_comparison (figured figure) (figured other) = false
is_bad_comparison unknown other = false
is_bad_comparison (pictured a) unknown = false
is_bad_comparison (figured figure) unknown = false

abbrev pub compares_badly : List DataItem → Comparing → Bool
compares_badly items comparison = is_bad_comparison (side_of items comparison.left) (side_of items comparison.right)

abbrev pub constants_of : ValueRange → List Constant
constants_of range = range.from ∷ option_to_list range.through

-- an 88 entry compares its item with each of its constants
abbrev pub is_bad_range : Side → ValueRange → Bool
is_bad_range item range = list_any (λ constant. is_bad_comparison item (side_of_constant constant)) (constants_of range)

abbrev pub is_bad_condition : Option NamedCondition → Bool
is_bad_condition None = false
is_bad_condition (Some one) = list_any (is_bad_range (side_of_picture (picture_of_item one.spot))) one.entry.values

-- ---- all of them

-- a statement that does with values what they do not allow
abbrev pub has_bad_values : Program → List DataItem → Statement → Bool
has_bad_values program items statement =
    list_any (is_bad_moving items) (moves_of statement)
    || has_bad_record_move program.front items statement
    || reckons_badly items statement
    || list_any (is_no_result items) (results_of statement)
    || list_any (is_no_count items) (counts_of statement)
    || list_any (compares_badly items) (comparisons_of statement)
    || list_any (λ name. is_bad_condition (found_condition program.front items name)) (conditions_of statement)
