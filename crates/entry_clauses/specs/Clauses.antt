-- The clauses of entries. Where one stands twice, the first counts.
use Rattle.std.specs.Prelude.{ℕ, nat_lt, ◌==◌, Bool, true, false, not, List, [], ◌∷◌, count_by, Option, Some, None, unwrap_or}
use Rattle.std.specs.List.{list_any, filter_map}
use Rattle.cob_base.specs.declared.operands.Reference.{Reference}
use Rattle.cob_base.specs.declared.operands.Operand.{Operand}
use Rattle.cob_base.specs.declared.file_entries.FileClause.{FileClause}
use Rattle.cob_base.specs.declared.file_entries.FileClause.TheVariants as f
use Rattle.cob_base.specs.declared.data_entries.ItemClause.{ItemClause}
use Rattle.cob_base.specs.declared.data_entries.ItemClause.TheVariants as c
use Rattle.cob_base.specs.declared.data_entries.SignSide.{SignSide}
use Rattle.cob_base.specs.declared.data_entries.SignSide.TheVariants.{Leading, Trailing}
use Rattle.cob_base.specs.declared.screen_entries.ScreenClause.{ScreenClause}
use Rattle.cob_base.specs.declared.screen_entries.ScreenClause.TheVariants as s
use Rattle.cob_base.specs.declared.screen_entries.ScreenMark.{ScreenMark}
use Rattle.cob_base.specs.declared.screen_entries.ScreenMark.TheVariants as m
use Rattle.cob_base.specs.declared.screen_entries.Position.{Position}
use Rattle.data_names.specs.Clauses.{first_of}
use Rattle.entry_clauses.specs.declared.file_clauses.FileClauseKind.{FileClauseKind}
use Rattle.entry_clauses.specs.declared.file_clauses.FileClauseKind.TheVariants as k
use Rattle.entry_clauses.specs.declared.screen_clauses.ScreenClauseKind.{ScreenClauseKind}
use Rattle.entry_clauses.specs.declared.screen_clauses.ScreenClauseKind.TheVariants as n

-- whether more than one passes
abbrev pub are_several : {A : Type 0} → List A → (A → Bool) → Bool
are_several xs test = nat_lt 1 (count_by test xs)

-- ---- file control entries

-- a clause is known by its first word
abbrev pub is_of_file_kind : FileClauseKind → FileClause → Bool
is_of_file_kind k.Organization f.Indexed = true
is_of_file_kind k.Outside f.Outside = true
is_of_file_kind k.Access (f.Access access) = true
is_of_file_kind k.RecordKey (f.RecordKey key) = true
is_of_file_kind k.FileStatus (f.FileStatus item) = true
is_of_file_kind k.Lock (f.Lock mode on) = true
is_of_file_kind k.Sharing (f.Sharing sharing) = true
is_of_file_kind _ _ = false

-- The clauses that may be written once: all but ALTERNATE. An outside clause takes the words after it, and is no second ORGANIZATION.
abbrev pub single_file_clauses : List FileClauseKind
single_file_clauses = k.Organization ∷ k.Access ∷ k.RecordKey ∷ k.FileStatus ∷ k.Lock ∷ k.Sharing ∷ []

-- some clause other than ALTERNATE is written twice
abbrev pub is_file_clause_twice : List FileClause → Bool
is_file_clause_twice clauses = list_any (λ kind. are_several clauses (is_of_file_kind kind)) single_file_clauses

abbrev pub key_named : FileClause → Option Reference
key_named (f.RecordKey key) = Some key
key_named _ = None

-- the prime key
abbrev pub record_key : List FileClause → Option Reference
record_key clauses = first_of key_named clauses

-- an alternate key, and whether records may share its value
pub record Alternate : Type 0 where
  pub key : Reference
  pub duplicates : Bool

abbrev pub alternate_named : FileClause → Option Alternate
alternate_named (f.AlternateKey key duplicates) = Some (record { key = key; duplicates = duplicates })
alternate_named _ = None

abbrev pub alternates : List FileClause → List Alternate
alternates clauses = filter_map alternate_named clauses

abbrev pub status_named : FileClause → Option Reference
status_named (f.FileStatus item) = Some item
status_named _ = None

abbrev pub file_status : List FileClause → Option Reference
file_status clauses = first_of status_named clauses

-- ---- entries of items

abbrev pub is_outside_of_items : ItemClause → Bool
is_outside_of_items c.Outside = true
is_outside_of_items _ = false

abbrev pub leads : SignSide → Bool → Bool
leads Leading separate = not separate
leads Trailing separate = false

abbrev pub leads_inside : ItemClause → Option Bool
leads_inside (c.Sign side separate) = Some (leads side separate)
leads_inside _ = None

-- the SIGN clause is LEADING without SEPARATE
abbrev pub has_leading_sign : List ItemClause → Bool
has_leading_sign clauses = unwrap_or (first_of leads_inside clauses) false

-- ---- entries of screens

-- marks in a row
abbrev pub number_of_mark : ScreenMark → ℕ
number_of_mark m.Highlight = 0
number_of_mark m.Lowlight = 1
number_of_mark m.ReverseVideo = 2
number_of_mark m.Underline = 3
number_of_mark m.Blink = 4
number_of_mark m.Secure = 5
number_of_mark m.Required = 6
number_of_mark m.Full = 7
number_of_mark m.Auto = 8

-- A clause is known by its first word: BLANK SCREEN and BLANK LINE are one clause, and so are ERASE EOL and ERASE EOS; each word of
-- marks is a clause of its own.
abbrev pub is_of_screen_kind : ScreenClauseKind → ScreenClause → Bool
is_of_screen_kind n.Blank (s.Blank what) = true
is_of_screen_kind n.Erase (s.Erase what) = true
is_of_screen_kind n.Line (s.Line position) = true
is_of_screen_kind n.Column (s.Column position) = true
is_of_screen_kind n.Value (s.Value text) = true
is_of_screen_kind n.Picture (s.Picture text) = true
is_of_screen_kind n.From (s.From operand) = true
is_of_screen_kind n.To (s.To item) = true
is_of_screen_kind n.Using (s.Using item) = true
is_of_screen_kind n.ForegroundColor (s.ForegroundColor colour) = true
is_of_screen_kind n.BackgroundColor (s.BackgroundColor colour) = true
is_of_screen_kind (n.Mark mark) (s.Mark other) = number_of_mark mark == number_of_mark other
is_of_screen_kind n.Outside s.Outside = true
is_of_screen_kind _ _ = false

-- The clauses that may be written once: all. An outside clause takes the words after it.
abbrev pub single_screen_clauses : List ScreenClauseKind
single_screen_clauses =
    n.Blank ∷ n.Erase ∷ n.Line ∷ n.Column ∷ n.Value ∷ n.Picture ∷ n.From ∷ n.To ∷ n.Using ∷ n.ForegroundColor ∷ n.BackgroundColor
    ∷ n.Mark m.Highlight ∷ n.Mark m.Lowlight ∷ n.Mark m.ReverseVideo ∷ n.Mark m.Underline ∷ n.Mark m.Blink ∷ n.Mark m.Secure ∷ n.Mark m.Required ∷ n.Mark m.Full ∷ n.Mark m.Auto ∷ []

-- some clause is written twice
abbrev pub is_screen_clause_twice : List ScreenClause → Bool
is_screen_clause_twice clauses = list_any (λ kind. are_several clauses (is_of_screen_kind kind)) single_screen_clauses

abbrev pub line_named : ScreenClause → Option Position
line_named (s.Line position) = Some position
line_named _ = None

abbrev pub column_named : ScreenClause → Option Position
column_named (s.Column position) = Some position
column_named _ = None

abbrev pub shown_text_named : ScreenClause → Option (List ℕ)
shown_text_named (s.Value text) = Some text
shown_text_named _ = None

-- the text after VALUE
abbrev pub shown_text : List ScreenClause → Option (List ℕ)
shown_text clauses = first_of shown_text_named clauses

abbrev pub screen_picture_named : ScreenClause → Option (List ℕ)
screen_picture_named (s.Picture text) = Some text
screen_picture_named _ = None

-- the text after PICTURE
abbrev pub screen_picture_text : List ScreenClause → Option (List ℕ)
screen_picture_text clauses = first_of screen_picture_named clauses

abbrev pub sender_named : ScreenClause → Option Operand
sender_named (s.From operand) = Some operand
sender_named _ = None

-- what FROM names
abbrev pub sender : List ScreenClause → Option Operand
sender clauses = first_of sender_named clauses

abbrev pub receiver_named : ScreenClause → Option Reference
receiver_named (s.To item) = Some item
receiver_named _ = None

-- what TO names
abbrev pub receiver : List ScreenClause → Option Reference
receiver clauses = first_of receiver_named clauses

abbrev pub both_named : ScreenClause → Option Reference
both_named (s.Using item) = Some item
both_named _ = None

-- what USING names
abbrev pub both_ways : List ScreenClause → Option Reference
both_ways clauses = first_of both_named clauses

abbrev pub foreground_named : ScreenClause → Option ℕ
foreground_named (s.ForegroundColor colour) = Some colour
foreground_named _ = None

abbrev pub background_named : ScreenClause → Option ℕ
background_named (s.BackgroundColor colour) = Some colour
background_named _ = None

abbrev pub foreground : List ScreenClause → Option ℕ
foreground clauses = first_of foreground_named clauses

abbrev pub background : List ScreenClause → Option ℕ
background clauses = first_of background_named clauses
