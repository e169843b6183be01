-- The grammar of screen description entries.
use Rattle.std.specs.Prelude.{ℕ, Bool, true, false, Option, Some, None}
use Rattle.cob_base.specs.declared.parse_fault.TheConstants.{MAX_OPEN}
use Rattle.cob_base.specs.declared.keywords.Keyword.{Keyword}
use Rattle.cob_base.specs.declared.keywords.Keyword.TheVariants as k
use Rattle.cob_base.specs.declared.line.Line.{Line}
use Rattle.cob_base.specs.declared.screen_entries.Blanked.{Blanked}
use Rattle.cob_base.specs.declared.screen_entries.Blanked.TheVariants as blanks
use Rattle.cob_base.specs.declared.screen_entries.Erased.{Erased}
use Rattle.cob_base.specs.declared.screen_entries.Erased.TheVariants as erasures
use Rattle.cob_base.specs.declared.screen_entries.Position.{Position}
use Rattle.cob_base.specs.declared.screen_entries.Position.TheVariants as positions
use Rattle.cob_base.specs.declared.screen_entries.ScreenMark.{ScreenMark}
use Rattle.cob_base.specs.declared.screen_entries.ScreenMark.TheVariants as screen_marks
use Rattle.cob_base.specs.declared.screen_entries.ScreenClause.{ScreenClause}
use Rattle.cob_base.specs.declared.screen_entries.ScreenClause.TheVariants as clauses
use Rattle.cob_base.specs.declared.screen_entries.ScreenEntry.{ScreenEntry}
use Rattle.cob_base.specs.Form.{Form, before, many}
use Rattle.cob_base.specs.Form.Form.{word, mark, part, both, after, made, either, optional}
use Rattle.cob_base.specs.Phrases.{is_text, key_for, key, full_stop, noise, int, outside_within, reference, operand}
use Rattle.cob_base.specs.DataEntries.{level, item_name, picture}

-- BLANK (SCREEN|LINE)
abbrev pub blanked_of : Keyword → Option Blanked
blanked_of k.Screen = Some blanks.Screen
blanked_of k.Line = Some blanks.Line
blanked_of _ = None

unfoldable pub blank : Form true ScreenClause
blank = made clauses.Blank (after (key k.Blank) (mark (key_for blanked_of)))

-- ERASE (EOL|EOS)
abbrev pub erased_of : Keyword → Option Erased
erased_of k.Eol = Some erasures.LineEnd
erased_of k.Eos = Some erasures.ScreenEnd
erased_of _ = None

unfoldable pub erase : Form true ScreenClause
erase = made clauses.Erase (after (key k.Erase) (mark (key_for erased_of)))

-- PLUS|MINUS: whether it is MINUS
abbrev pub step_of : Keyword → Option Bool
step_of k.Plus = Some false
step_of k.Minus = Some true
step_of _ = None

unfoldable pub step : Form true Bool
step = mark (key_for step_of)

abbrev pub position_of : Option Bool × ℕ → Position
position_of (None, number) = positions.At number
position_of (Some false, number) = positions.Plus number
position_of (Some true, number) = positions.Minus number

-- [PLUS|MINUS] int
unfoldable pub position : Form true Position
position = made position_of (both (optional step) int)

-- LINE [NUMBER] [IS] [PLUS|MINUS] int
unfoldable pub line_clause : Form true ScreenClause
line_clause = made clauses.Line (after (key k.Line) (after (noise k.Number) (after (noise k.Is) position)))

-- (COL|COLUMN) [NUMBER] [IS] [PLUS|MINUS] int
unfoldable pub column : Form true ScreenClause
column = made clauses.Column (after (key k.Column) (after (noise k.Number) (after (noise k.Is) position)))

-- VALUE [IS] text
unfoldable pub value : Form true ScreenClause
value = made clauses.Value (after (key k.Value) (after (noise k.Is) (word is_text)))

-- (PIC|PICTURE) [IS] picture
unfoldable pub picture_clause : Form true ScreenClause
picture_clause = made clauses.Picture picture

-- FROM operand
unfoldable pub from : Form true ScreenClause
from = made clauses.From (after (key k.From) (operand MAX_OPEN))

-- TO ref
unfoldable pub to : Form true ScreenClause
to = made clauses.To (after (key k.To) (reference MAX_OPEN))

-- USING ref
unfoldable pub using_item : Form true ScreenClause
using_item = made clauses.Using (after (key k.Using) (reference MAX_OPEN))

-- HIGHLIGHT|LOWLIGHT|REVERSE-VIDEO|UNDERLINE|BLINK|SECURE|REQUIRED|FULL|AUTO
abbrev pub screen_mark_of : Keyword → Option ScreenMark
screen_mark_of k.Highlight = Some screen_marks.Highlight
screen_mark_of k.Lowlight = Some screen_marks.Lowlight
screen_mark_of k.ReverseVideo = Some screen_marks.ReverseVideo
screen_mark_of k.Underline = Some screen_marks.Underline
screen_mark_of k.Blink = Some screen_marks.Blink
screen_mark_of k.Secure = Some screen_marks.Secure
screen_mark_of k.Required = Some screen_marks.Required
screen_mark_of k.Full = Some screen_marks.Full
screen_mark_of k.Auto = Some screen_marks.Auto
screen_mark_of _ = None

unfoldable pub screen_mark : Form true ScreenClause
screen_mark = made clauses.Mark (mark (key_for screen_mark_of))

-- FOREGROUND-COLOR [IS] int
unfoldable pub foreground : Form true ScreenClause
foreground = made clauses.ForegroundColor (after (key k.ForegroundColor) (after (noise k.Is) int))

-- BACKGROUND-COLOR [IS] int
unfoldable pub background : Form true ScreenClause
background = made clauses.BackgroundColor (after (key k.BackgroundColor) (after (noise k.Is) int))

-- BELL CONTROL GLOBAL OCCURS, with all words up to the entry's period
abbrev pub outside_screen_word : Keyword → Option (Unit {0})
outside_screen_word k.Global = Some tt
outside_screen_word k.Occurs = Some tt
outside_screen_word k.OutsideScreenWord = Some tt
outside_screen_word _ = None

unfoldable pub outside_screen : Form true ScreenClause
outside_screen = part (made (λ u. clauses.Outside) (outside_within (key_for outside_screen_word)))

-- the last six alternatives of a clause
unfoldable pub show_clause : Form true ScreenClause
show_clause =
    either to
    (either using_item
    (either screen_mark
    (either foreground
    (either background
    outside_screen))))

unfoldable pub screen_clause_within : Form true ScreenClause
screen_clause_within =
    either blank
    (either erase
    (either line_clause
    (either column
    (either value
    (either picture_clause
    (either from
    show_clause))))))

unfoldable pub screen_clause : Form true ScreenClause
screen_clause = part screen_clause_within

-- level [name|FILLER] screenclause* . The line is that of the level.
unfoldable pub screen_entry : Line → Form true ScreenEntry
screen_entry line = made (λ (level, (called, given)). record { line = line; level = level; name = called; clauses = given })
    (both level (both item_name (before (many screen_clause) full_stop)))
