-- The clauses of a screen entry. Where one stands twice, the first counts.
use Rattle.std.specs.Prelude.{ℕ, nat_lt, Bool, true, false, List, [], ◌∷◌, ◌++◌, count_by, Option, Some, None, option_to_list}
use Rattle.std.specs.List.{list_any}
use Rattle.cob_base.specs.declared.operands.Operand.{Operand}
use Rattle.cob_base.specs.declared.operands.Operand.TheVariants as operands
use Rattle.cob_base.specs.declared.operands.Reference.{Reference}
use Rattle.cob_base.specs.declared.screen_entries.ScreenClause.{ScreenClause}
use Rattle.cob_base.specs.declared.screen_entries.ScreenClause.TheVariants as c
use Rattle.cob_base.specs.declared.screen_entries.ScreenEntry.{ScreenEntry}
use Rattle.cob_base.specs.declared.screen_entries.ScreenMark.{ScreenMark}
use Rattle.cob_base.specs.declared.screen_entries.ScreenMark.TheVariants as m
use Rattle.screen_rows.specs.declared.clauses.Look.{Look}
use Rattle.screen_rows.specs.declared.clauses.Own.{Own}
use Rattle.screen_rows.specs.declared.clauses.ClauseKind.{ClauseKind}
use Rattle.screen_rows.specs.declared.clauses.ClauseKind.TheVariants as k

-- ---- places, colours and marks

-- no mark and no colour
abbrev pub plain_look : Look
plain_look = record { highlight = false; lowlight = false; reverse_video = false; underline = false; blink = false; secure = false; required = false; full = false; auto = false; front = None; back = None }

-- no clause of these
abbrev pub no_clauses : Own
no_clauses = record { line = None; column = None; blank = None; erase = None; look = plain_look }

abbrev pub marked : Look → ScreenMark → Look
marked look m.Highlight = record look { highlight = true }
marked look m.Lowlight = record look { lowlight = true }
marked look m.ReverseVideo = record look { reverse_video = true }
marked look m.Underline = record look { underline = true }
marked look m.Blink = record look { blink = true }
marked look m.Secure = record look { secure = true }
marked look m.Required = record look { required = true }
marked look m.Full = record look { full = true }
marked look m.Auto = record look { auto = true }

-- a clause in front of others
abbrev pub with_clause : Own → ScreenClause → Own
with_clause own (c.Line position) = record own { line = Some position }
with_clause own (c.Column position) = record own { column = Some position }
with_clause own (c.Blank what) = record own { blank = Some what }
with_clause own (c.Erase what) = record own { erase = Some what }
with_clause own (c.Mark mark) = record own { look = marked own.look mark }
with_clause own (c.ForegroundColor number) = record own { look = record own.look { front = Some number } }
with_clause own (c.BackgroundColor number) = record own { look = record own.look { back = Some number } }
with_clause own (c.Value text) = own
with_clause own (c.Picture text) = own
with_clause own (c.From operand) = own
with_clause own (c.To reference) = own
with_clause own (c.Using reference) = own
with_clause own c.Outside = own

-- the clauses of an entry, each where it stands first
abbrev pub own_clauses : List ScreenClause → Own
own_clauses [] = no_clauses
own_clauses (clause ∷ rest) = with_clause (own_clauses rest) clause

-- ---- texts and operands

abbrev pub value_text : List ScreenClause → Option (List ℕ)
value_text [] = None
value_text (c.Value text ∷ rest) = Some text
value_text (_ ∷ rest) = value_text rest

abbrev pub picture_text : List ScreenClause → Option (List ℕ)
picture_text [] = None
picture_text (c.Picture text ∷ rest) = Some text
picture_text (_ ∷ rest) = picture_text rest

abbrev pub from_operand : List ScreenClause → Option Operand
from_operand [] = None
from_operand (c.From operand ∷ rest) = Some operand
from_operand (_ ∷ rest) = from_operand rest

abbrev pub to_reference : List ScreenClause → Option Reference
to_reference [] = None
to_reference (c.To reference ∷ rest) = Some reference
to_reference (_ ∷ rest) = to_reference rest

abbrev pub using_reference : List ScreenClause → Option Reference
using_reference [] = None
using_reference (c.Using reference ∷ rest) = Some reference
using_reference (_ ∷ rest) = using_reference rest

abbrev pub reference_in : Option Operand → List Reference
reference_in None = []
reference_in (Some (operands.Reference reference)) = reference ∷ []
reference_in (Some (operands.Constant constant)) = []

-- the references of an entry
abbrev pub references_of : ScreenEntry → List Reference
references_of entry = reference_in (from_operand entry.clauses) ++ option_to_list (to_reference entry.clauses) ++ option_to_list (using_reference entry.clauses)

-- ---- a clause twice

-- A clause is known by its first word; each mark and each colour is one of its own.
abbrev pub is_of : ClauseKind → ScreenClause → Bool
is_of k.Blank (c.Blank what) = true
is_of k.Erase (c.Erase what) = true
is_of k.Line (c.Line position) = true
is_of k.Column (c.Column position) = true
is_of k.Value (c.Value text) = true
is_of k.Picture (c.Picture text) = true
is_of k.From (c.From operand) = true
is_of k.To (c.To reference) = true
is_of k.Using (c.Using reference) = true
is_of k.Foreground (c.ForegroundColor number) = true
is_of k.Background (c.BackgroundColor number) = true
is_of k.Highlight (c.Mark m.Highlight) = true
is_of k.Lowlight (c.Mark m.Lowlight) = true
is_of k.ReverseVideo (c.Mark m.ReverseVideo) = true
is_of k.Underline (c.Mark m.Underline) = true
is_of k.Blink (c.Mark m.Blink) = true
is_of k.Secure (c.Mark m.Secure) = true
is_of k.Required (c.Mark m.Required) = true
is_of k.Full (c.Mark m.Full) = true
is_of k.Auto (c.Mark m.Auto) = true
is_of _ _ = false

abbrev pub all_kinds : List ClauseKind
all_kinds = k.Blank ∷ k.Erase ∷ k.Line ∷ k.Column ∷ k.Value ∷ k.Picture ∷ k.From ∷ k.To ∷ k.Using ∷ k.Foreground ∷ k.Background
    ∷ k.Highlight ∷ k.Lowlight ∷ k.ReverseVideo ∷ k.Underline ∷ k.Blink ∷ k.Secure ∷ k.Required ∷ k.Full ∷ k.Auto ∷ []

abbrev pub is_twice : List ScreenClause → Bool
is_twice clauses = list_any (λ kind. nat_lt 1 (count_by (is_of kind) clauses)) all_kinds
