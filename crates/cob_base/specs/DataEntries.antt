-- The grammar of data description entries.
use Rattle.std.specs.Prelude.{ℕ, ◌==◌, nat_le, ◌&&◌, ◌||◌, if◌then◌else◌, Bool, true, false, List, Option, Some, None}
use Rattle.cob_base.specs.declared.keywords.Keyword.{Keyword}
use Rattle.cob_base.specs.declared.keywords.Keyword.TheVariants as k
use Rattle.cob_base.specs.declared.keywords.Verb.TheVariants as verbs
use Rattle.cob_base.specs.declared.line.Line.{Line}
use Rattle.cob_base.specs.declared.tokens.Token.{Token}
use Rattle.cob_base.specs.declared.tokens.Token.TheVariants.{Verb}
use Rattle.cob_base.specs.declared.operands.Constant.{Constant}
use Rattle.cob_base.specs.declared.data_entries.SignSide.{SignSide}
use Rattle.cob_base.specs.declared.data_entries.SignSide.TheVariants as sides
use Rattle.cob_base.specs.declared.data_entries.ItemClause.{ItemClause}
use Rattle.cob_base.specs.declared.data_entries.ItemClause.TheVariants as clauses
use Rattle.cob_base.specs.declared.data_entries.ValueRange.{ValueRange}
use Rattle.cob_base.specs.declared.data_entries.DataEntry.{DataEntry}
use Rattle.cob_base.specs.declared.data_entries.DataEntry.TheVariants as entries
use Rattle.cob_base.specs.Form.{Form, before, many, is_there}
use Rattle.cob_base.specs.Form.Form.{word, mark, part, both, after, made, either, optional, some}
use Rattle.cob_base.specs.Phrases.{is_picture, is_int, key_for, key, full_stop, noise, name, int, outside_within, constant}

-- ---- levels and names, of items and of screen items

-- a level: 01 to 49, or 77
abbrev pub level_of : ℕ → Option ℕ
level_of n = if (nat_le 1 n && nat_le n 49) || n == 77 then Some n else None

abbrev pub in_level : Option ℕ → Option ℕ
in_level (Some n) = level_of n
in_level None = None

abbrev pub is_level : Token → Option ℕ
is_level token = in_level (is_int token)

unfoldable pub level : Form true ℕ
level = word is_level

-- name|FILLER: None is FILLER
unfoldable pub name_or_filler : Form true (Option (List ℕ))
name_or_filler = either (made Some name) (made (λ u. None) (key k.Filler))

abbrev pub name_of : Option (Option (List ℕ)) → Option (List ℕ)
name_of (Some given) = given
name_of None = None

-- [name|FILLER]
unfoldable pub item_name : Form false (Option (List ℕ))
item_name = made name_of (optional name_or_filler)

-- ---- clauses of items

-- (PIC|PICTURE) [IS] picture
unfoldable pub picture : Form true (List ℕ)
picture = after (key k.Picture) (after (noise k.Is) (word is_picture))

unfoldable pub picture_clause : Form true ItemClause
picture_clause = made clauses.Picture picture

-- BASED BINARY BLANK COMP COMPUTATIONAL DEPENDING EXTERNAL GLOBAL INDEXED JUST JUSTIFIED NATIONAL PACKED-DECIMAL POINTER REDEFINES
-- RENAMES SYNC SYNCHRONIZED TO, with all words up to the entry's period
abbrev pub outside_item_word : Keyword → Option (Unit {0})
outside_item_word k.Blank = Some tt
outside_item_word k.Global = Some tt
outside_item_word k.Indexed = Some tt
outside_item_word k.To = Some tt
outside_item_word k.OutsideItemWord = Some tt
outside_item_word _ = None

unfoldable pub outside_item : Form true (Unit {0})
outside_item = part (outside_within (key_for outside_item_word))

-- the verb DISPLAY, as a word of the clause USAGE DISPLAY
abbrev pub is_display : Token → Option (Unit {0})
is_display (Verb verbs.Display line) = Some tt
is_display _ = None

-- [USAGE [IS]] (DISPLAY|outside)
unfoldable pub usage_words : Form true Bool
usage_words = after (key k.Usage) (noise k.Is)

unfoldable pub display_or_outside : Form true ItemClause
display_or_outside = either (made (λ u. clauses.Display) (mark is_display)) (made (λ u. clauses.Outside) outside_item)

unfoldable pub usage : Form true ItemClause
usage = after (optional usage_words) display_or_outside

-- VALUE [IS] constant
unfoldable pub value : Form true ItemClause
value = made clauses.Value (after (key k.Value) (after (noise k.Is) constant))

-- OCCURS int [TIMES]
unfoldable pub occurs : Form true ItemClause
occurs = made clauses.Occurs (after (key k.Occurs) (before int (noise k.Times)))

-- [SIGN [IS]] (LEADING|TRAILING) [SEPARATE [CHARACTER]]
unfoldable pub sign_words : Form true Bool
sign_words = after (key k.Sign) (noise k.Is)

abbrev pub side_of : Keyword → Option SignSide
side_of k.Leading = Some sides.Leading
side_of k.Trailing = Some sides.Trailing
side_of _ = None

unfoldable pub side : Form true SignSide
side = mark (key_for side_of)

unfoldable pub separate : Form true Bool
separate = after (key k.Separate) (noise k.Character)

unfoldable pub sign_side : Form true SignSide
sign_side = after (optional sign_words) side

unfoldable pub sign_clause : Form true ItemClause
sign_clause = made (λ (side, apart). clauses.Sign side (is_there apart)) (both sign_side (optional separate))

unfoldable pub item_clause_within : Form true ItemClause
item_clause_within =
    either picture_clause
    (either usage
    (either value
    (either occurs
    sign_clause)))

unfoldable pub item_clause : Form true ItemClause
item_clause = part item_clause_within

-- ---- entries, given the line of their first word

-- level [name|FILLER] itemclause* .
unfoldable pub item : Line → Form true DataEntry
item line = made (λ (level, (called, given)). entries.Item (record { line = line; level = level; name = called; clauses = given }))
    (both level (both item_name (before (many item_clause) full_stop)))

-- 88
abbrev pub equals_88 : Option ℕ → Option (Unit {0})
equals_88 (Some n) = if n == 88 then Some tt else None
equals_88 None = None

abbrev pub is_88 : Token → Option (Unit {0})
is_88 token = equals_88 (is_int token)

-- VALUE [IS] | VALUES [ARE]
unfoldable pub value_is : Form true Bool
value_is = after (key k.Value) (noise k.Is)

unfoldable pub values_are : Form true Bool
values_are = after (key k.Values) (noise k.Are)

unfoldable pub value_words : Form true Bool
value_words = either value_is values_are

-- (THRU|THROUGH) constant
unfoldable pub through : Form true Constant
through = after (key k.Through) constant

-- constant [(THRU|THROUGH) constant]
unfoldable pub value_range : Form true ValueRange
value_range = made (λ (first, last). record { from = first; through = last }) (both constant (optional through))

-- 88 name (VALUE [IS]|VALUES [ARE]) (constant [(THRU|THROUGH) constant])+ .
unfoldable pub condition : Line → Form true DataEntry
condition line = made (λ (called, ranges). entries.Condition (record { line = line; name = called; values = ranges }))
    (after (word is_88) (both name (after value_words (before (some value_range) full_stop))))

unfoldable pub data_entry : Line → Form true DataEntry
data_entry line = either (item line) (condition line)
