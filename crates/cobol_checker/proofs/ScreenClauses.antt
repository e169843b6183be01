-- The clauses of an entry of a screen, as the rules on the front and as the plans of screens read them.
use Rattle.std.proofs.Common.{◌≡◌, ◌∙◌, refl, sym, ap, ◌+◌, nat_lt, Bool, cond, ◌||◌, List, [], ◌∷◌, map}
use Rattle.std.specs.Prelude.{count_by}
use Rattle.std.specs.List.{list_any}
use Rattle.std.proofs.lemmas.List.Sums.{sum_by-cons}
use Rattle.cob_base.specs.declared.screen_entries.ScreenClause.{ScreenClause}
use Rattle.cob_base.specs.declared.screen_entries.ScreenClause.TheVariants as s
use Rattle.cob_base.specs.declared.screen_entries.ScreenMark.TheVariants as m
use Rattle.data_names.specs.Clauses.{first_of}
use Rattle.entry_clauses.specs.Clauses.{line_named, column_named, shown_text, screen_picture_text, sender, receiver, both_ways, foreground, background, is_of_screen_kind, are_several, is_screen_clause_twice}
use Rattle.entry_clauses.specs.declared.screen_clauses.ScreenClauseKind.{ScreenClauseKind}
use Rattle.entry_clauses.specs.declared.screen_clauses.ScreenClauseKind.TheVariants as n
use Rattle.screen_rows.specs.declared.clauses.ClauseKind.{ClauseKind}
use Rattle.screen_rows.specs.Clauses.{own_clauses, value_text, picture_text, from_operand, to_reference, using_reference, is_of, is_twice, all_kinds}

pub line_is : (clauses : List ScreenClause) → (own_clauses clauses).line ≡ first_of line_named clauses
line_is [] = refl
line_is (s.Blank what ∷ rest) = line_is rest
line_is (s.Erase what ∷ rest) = line_is rest
line_is (s.Line position ∷ rest) = refl
line_is (s.Column position ∷ rest) = line_is rest
line_is (s.Value text ∷ rest) = line_is rest
line_is (s.Picture text ∷ rest) = line_is rest
line_is (s.From operand ∷ rest) = line_is rest
line_is (s.To item ∷ rest) = line_is rest
line_is (s.Using item ∷ rest) = line_is rest
line_is (s.ForegroundColor colour ∷ rest) = line_is rest
line_is (s.BackgroundColor colour ∷ rest) = line_is rest
line_is (s.Mark mark ∷ rest) = line_is rest
line_is (s.Outside ∷ rest) = line_is rest

pub column_is : (clauses : List ScreenClause) → (own_clauses clauses).column ≡ first_of column_named clauses
column_is [] = refl
column_is (s.Blank what ∷ rest) = column_is rest
column_is (s.Erase what ∷ rest) = column_is rest
column_is (s.Line position ∷ rest) = column_is rest
column_is (s.Column position ∷ rest) = refl
column_is (s.Value text ∷ rest) = column_is rest
column_is (s.Picture text ∷ rest) = column_is rest
column_is (s.From operand ∷ rest) = column_is rest
column_is (s.To item ∷ rest) = column_is rest
column_is (s.Using item ∷ rest) = column_is rest
column_is (s.ForegroundColor colour ∷ rest) = column_is rest
column_is (s.BackgroundColor colour ∷ rest) = column_is rest
column_is (s.Mark mark ∷ rest) = column_is rest
column_is (s.Outside ∷ rest) = column_is rest

pub front_is : (clauses : List ScreenClause) → (own_clauses clauses).look.front ≡ foreground clauses
front_is [] = refl
front_is (s.Blank what ∷ rest) = front_is rest
front_is (s.Erase what ∷ rest) = front_is rest
front_is (s.Line position ∷ rest) = front_is rest
front_is (s.Column position ∷ rest) = front_is rest
front_is (s.Value text ∷ rest) = front_is rest
front_is (s.Picture text ∷ rest) = front_is rest
front_is (s.From operand ∷ rest) = front_is rest
front_is (s.To item ∷ rest) = front_is rest
front_is (s.Using item ∷ rest) = front_is rest
front_is (s.ForegroundColor colour ∷ rest) = refl
front_is (s.BackgroundColor colour ∷ rest) = front_is rest
front_is (s.Mark m.Highlight ∷ rest) = front_is rest
front_is (s.Mark m.Lowlight ∷ rest) = front_is rest
front_is (s.Mark m.ReverseVideo ∷ rest) = front_is rest
front_is (s.Mark m.Underline ∷ rest) = front_is rest
front_is (s.Mark m.Blink ∷ rest) = front_is rest
front_is (s.Mark m.Secure ∷ rest) = front_is rest
front_is (s.Mark m.Required ∷ rest) = front_is rest
front_is (s.Mark m.Full ∷ rest) = front_is rest
front_is (s.Mark m.Auto ∷ rest) = front_is rest
front_is (s.Outside ∷ rest) = front_is rest

pub back_is : (clauses : List ScreenClause) → (own_clauses clauses).look.back ≡ background clauses
back_is [] = refl
back_is (s.Blank what ∷ rest) = back_is rest
back_is (s.Erase what ∷ rest) = back_is rest
back_is (s.Line position ∷ rest) = back_is rest
back_is (s.Column position ∷ rest) = back_is rest
back_is (s.Value text ∷ rest) = back_is rest
back_is (s.Picture text ∷ rest) = back_is rest
back_is (s.From operand ∷ rest) = back_is rest
back_is (s.To item ∷ rest) = back_is rest
back_is (s.Using item ∷ rest) = back_is rest
back_is (s.ForegroundColor colour ∷ rest) = back_is rest
back_is (s.BackgroundColor colour ∷ rest) = refl
back_is (s.Mark m.Highlight ∷ rest) = back_is rest
back_is (s.Mark m.Lowlight ∷ rest) = back_is rest
back_is (s.Mark m.ReverseVideo ∷ rest) = back_is rest
back_is (s.Mark m.Underline ∷ rest) = back_is rest
back_is (s.Mark m.Blink ∷ rest) = back_is rest
back_is (s.Mark m.Secure ∷ rest) = back_is rest
back_is (s.Mark m.Required ∷ rest) = back_is rest
back_is (s.Mark m.Full ∷ rest) = back_is rest
back_is (s.Mark m.Auto ∷ rest) = back_is rest
back_is (s.Outside ∷ rest) = back_is rest

pub value_is : (clauses : List ScreenClause) → value_text clauses ≡ shown_text clauses
value_is [] = refl
value_is (s.Blank what ∷ rest) = value_is rest
value_is (s.Erase what ∷ rest) = value_is rest
value_is (s.Line position ∷ rest) = value_is rest
value_is (s.Column position ∷ rest) = value_is rest
value_is (s.Value text ∷ rest) = refl
value_is (s.Picture text ∷ rest) = value_is rest
value_is (s.From operand ∷ rest) = value_is rest
value_is (s.To item ∷ rest) = value_is rest
value_is (s.Using item ∷ rest) = value_is rest
value_is (s.ForegroundColor colour ∷ rest) = value_is rest
value_is (s.BackgroundColor colour ∷ rest) = value_is rest
value_is (s.Mark mark ∷ rest) = value_is rest
value_is (s.Outside ∷ rest) = value_is rest

pub picture_is : (clauses : List ScreenClause) → picture_text clauses ≡ screen_picture_text clauses
picture_is [] = refl
picture_is (s.Blank what ∷ rest) = picture_is rest
picture_is (s.Erase what ∷ rest) = picture_is rest
picture_is (s.Line position ∷ rest) = picture_is rest
picture_is (s.Column position ∷ rest) = picture_is rest
picture_is (s.Value text ∷ rest) = picture_is rest
picture_is (s.Picture text ∷ rest) = refl
picture_is (s.From operand ∷ rest) = picture_is rest
picture_is (s.To item ∷ rest) = picture_is rest
picture_is (s.Using item ∷ rest) = picture_is rest
picture_is (s.ForegroundColor colour ∷ rest) = picture_is rest
picture_is (s.BackgroundColor colour ∷ rest) = picture_is rest
picture_is (s.Mark mark ∷ rest) = picture_is rest
picture_is (s.Outside ∷ rest) = picture_is rest

pub from_is : (clauses : List ScreenClause) → from_operand clauses ≡ sender clauses
from_is [] = refl
from_is (s.Blank what ∷ rest) = from_is rest
from_is (s.Erase what ∷ rest) = from_is rest
from_is (s.Line position ∷ rest) = from_is rest
from_is (s.Column position ∷ rest) = from_is rest
from_is (s.Value text ∷ rest) = from_is rest
from_is (s.Picture text ∷ rest) = from_is rest
from_is (s.From operand ∷ rest) = refl
from_is (s.To item ∷ rest) = from_is rest
from_is (s.Using item ∷ rest) = from_is rest
from_is (s.ForegroundColor colour ∷ rest) = from_is rest
from_is (s.BackgroundColor colour ∷ rest) = from_is rest
from_is (s.Mark mark ∷ rest) = from_is rest
from_is (s.Outside ∷ rest) = from_is rest

pub to_is : (clauses : List ScreenClause) → to_reference clauses ≡ receiver clauses
to_is [] = refl
to_is (s.Blank what ∷ rest) = to_is rest
to_is (s.Erase what ∷ rest) = to_is rest
to_is (s.Line position ∷ rest) = to_is rest
to_is (s.Column position ∷ rest) = to_is rest
to_is (s.Value text ∷ rest) = to_is rest
to_is (s.Picture text ∷ rest) = to_is rest
to_is (s.From operand ∷ rest) = to_is rest
to_is (s.To item ∷ rest) = refl
to_is (s.Using item ∷ rest) = to_is rest
to_is (s.ForegroundColor colour ∷ rest) = to_is rest
to_is (s.BackgroundColor colour ∷ rest) = to_is rest
to_is (s.Mark mark ∷ rest) = to_is rest
to_is (s.Outside ∷ rest) = to_is rest

pub using_is : (clauses : List ScreenClause) → using_reference clauses ≡ both_ways clauses
using_is [] = refl
using_is (s.Blank what ∷ rest) = using_is rest
using_is (s.Erase what ∷ rest) = using_is rest
using_is (s.Line position ∷ rest) = using_is rest
using_is (s.Column position ∷ rest) = using_is rest
using_is (s.Value text ∷ rest) = using_is rest
using_is (s.Picture text ∷ rest) = using_is rest
using_is (s.From operand ∷ rest) = using_is rest
using_is (s.To item ∷ rest) = using_is rest
using_is (s.Using item ∷ rest) = refl
using_is (s.ForegroundColor colour ∷ rest) = using_is rest
using_is (s.BackgroundColor colour ∷ rest) = using_is rest
using_is (s.Mark mark ∷ rest) = using_is rest
using_is (s.Outside ∷ rest) = using_is rest

pub highlight_is : (clauses : List ScreenClause) → (own_clauses clauses).look.highlight ≡ list_any (is_of_screen_kind (n.Mark m.Highlight)) clauses
highlight_is [] = refl
highlight_is (s.Blank what ∷ rest) = highlight_is rest
highlight_is (s.Erase what ∷ rest) = highlight_is rest
highlight_is (s.Line position ∷ rest) = highlight_is rest
highlight_is (s.Column position ∷ rest) = highlight_is rest
highlight_is (s.Value text ∷ rest) = highlight_is rest
highlight_is (s.Picture text ∷ rest) = highlight_is rest
highlight_is (s.From operand ∷ rest) = highlight_is rest
highlight_is (s.To item ∷ rest) = highlight_is rest
highlight_is (s.Using item ∷ rest) = highlight_is rest
highlight_is (s.ForegroundColor colour ∷ rest) = highlight_is rest
highlight_is (s.BackgroundColor colour ∷ rest) = highlight_is rest
highlight_is (s.Mark m.Highlight ∷ rest) = refl
highlight_is (s.Mark m.Lowlight ∷ rest) = highlight_is rest
highlight_is (s.Mark m.ReverseVideo ∷ rest) = highlight_is rest
highlight_is (s.Mark m.Underline ∷ rest) = highlight_is rest
highlight_is (s.Mark m.Blink ∷ rest) = highlight_is rest
highlight_is (s.Mark m.Secure ∷ rest) = highlight_is rest
highlight_is (s.Mark m.Required ∷ rest) = highlight_is rest
highlight_is (s.Mark m.Full ∷ rest) = highlight_is rest
highlight_is (s.Mark m.Auto ∷ rest) = highlight_is rest
highlight_is (s.Outside ∷ rest) = highlight_is rest

pub lowlight_is : (clauses : List ScreenClause) → (own_clauses clauses).look.lowlight ≡ list_any (is_of_screen_kind (n.Mark m.Lowlight)) clauses
lowlight_is [] = refl
lowlight_is (s.Blank what ∷ rest) = lowlight_is rest
lowlight_is (s.Erase what ∷ rest) = lowlight_is rest
lowlight_is (s.Line position ∷ rest) = lowlight_is rest
lowlight_is (s.Column position ∷ rest) = lowlight_is rest
lowlight_is (s.Value text ∷ rest) = lowlight_is rest
lowlight_is (s.Picture text ∷ rest) = lowlight_is rest
lowlight_is (s.From operand ∷ rest) = lowlight_is rest
lowlight_is (s.To item ∷ rest) = lowlight_is rest
lowlight_is (s.Using item ∷ rest) = lowlight_is rest
lowlight_is (s.ForegroundColor colour ∷ rest) = lowlight_is rest
lowlight_is (s.BackgroundColor colour ∷ rest) = lowlight_is rest
lowlight_is (s.Mark m.Highlight ∷ rest) = lowlight_is rest
lowlight_is (s.Mark m.Lowlight ∷ rest) = refl
lowlight_is (s.Mark m.ReverseVideo ∷ rest) = lowlight_is rest
lowlight_is (s.Mark m.Underline ∷ rest) = lowlight_is rest
lowlight_is (s.Mark m.Blink ∷ rest) = lowlight_is rest
lowlight_is (s.Mark m.Secure ∷ rest) = lowlight_is rest
lowlight_is (s.Mark m.Required ∷ rest) = lowlight_is rest
lowlight_is (s.Mark m.Full ∷ rest) = lowlight_is rest
lowlight_is (s.Mark m.Auto ∷ rest) = lowlight_is rest
lowlight_is (s.Outside ∷ rest) = lowlight_is rest

-- ---- clauses written twice

-- the kinds of clauses that the rules go through
abbrev screen_kinds : List ScreenClauseKind
screen_kinds = n.Blank ∷ n.Erase ∷ n.Line ∷ n.Column ∷ n.Value ∷ n.Picture ∷ n.From ∷ n.To ∷ n.Using ∷ n.ForegroundColor ∷ n.BackgroundColor
    ∷ n.Mark m.Highlight ∷ n.Mark m.Lowlight ∷ n.Mark m.ReverseVideo ∷ n.Mark m.Underline ∷ n.Mark m.Blink ∷ n.Mark m.Secure ∷ n.Mark m.Required ∷ n.Mark m.Full ∷ n.Mark m.Auto ∷ []

-- both list the same kinds
kinds_same : (clause : ScreenClause) → map (λ kind. is_of kind clause) all_kinds ≡ map (λ kind. is_of_screen_kind kind clause) screen_kinds
kinds_same (s.Blank what) = refl
kinds_same (s.Erase what) = refl
kinds_same (s.Line position) = refl
kinds_same (s.Column position) = refl
kinds_same (s.Value text) = refl
kinds_same (s.Picture text) = refl
kinds_same (s.From operand) = refl
kinds_same (s.To item) = refl
kinds_same (s.Using item) = refl
kinds_same (s.ForegroundColor colour) = refl
kinds_same (s.BackgroundColor colour) = refl
kinds_same (s.Mark m.Highlight) = refl
kinds_same (s.Mark m.Lowlight) = refl
kinds_same (s.Mark m.ReverseVideo) = refl
kinds_same (s.Mark m.Underline) = refl
kinds_same (s.Mark m.Blink) = refl
kinds_same (s.Mark m.Secure) = refl
kinds_same (s.Mark m.Required) = refl
kinds_same (s.Mark m.Full) = refl
kinds_same (s.Mark m.Auto) = refl
kinds_same s.Outside = refl

counted : (p q : ScreenClause → Bool) → ((clause : ScreenClause) → p clause ≡ q clause) → (clauses : List ScreenClause) → count_by p clauses ≡ count_by q clauses
counted p q h [] = refl
counted p q h (clause ∷ clauses) =
    sum_by-cons (λ one. cond (p one) 1 0) clause clauses ∙ ap (λ b. cond b 1 0 + count_by p clauses) (h clause) ∙ ap (λ n. cond (q clause) 1 0 + n) (counted p q h clauses)
    ∙ sym (sum_by-cons (λ one. cond (q one) 1 0) clause clauses)

twice_by : (kinds : List ClauseKind) (others : List ScreenClauseKind) (clauses : List ScreenClause)
    → ((clause : ScreenClause) → map (λ kind. is_of kind clause) kinds ≡ map (λ kind. is_of_screen_kind kind clause) others)
    → list_any (λ kind. nat_lt 1 (count_by (is_of kind) clauses)) kinds ≡ list_any (λ kind. are_several clauses (is_of_screen_kind kind)) others
twice_by [] [] clauses h = refl
twice_by [] (other ∷ others) clauses h = cc (h s.Outside)
twice_by (kind ∷ kinds) [] clauses h = cc (h s.Outside)
twice_by (kind ∷ kinds) (other ∷ others) clauses h =
    let first : (clause : ScreenClause) → is_of kind clause ≡ is_of_screen_kind other clause = λ clause. let e = h clause in cc e in
    let later : (clause : ScreenClause) → map (λ one. is_of one clause) kinds ≡ map (λ one. is_of_screen_kind one clause) others = λ clause. let e = h clause in cc e in
    ap (λ n. nat_lt 1 n || list_any (λ one. nat_lt 1 (count_by (is_of one) clauses)) kinds) (counted (is_of kind) (is_of_screen_kind other) first clauses)
    ∙ ap (λ b. nat_lt 1 (count_by (is_of_screen_kind other) clauses) || b) (twice_by kinds others clauses later)

-- a clause is written twice for both
pub twice_is : (clauses : List ScreenClause) → is_twice clauses ≡ is_screen_clause_twice clauses
twice_is clauses = twice_by all_kinds screen_kinds clauses kinds_same
