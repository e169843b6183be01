-- Where the items of screens stand, by the rules on the front and in the plans of screens: an item that stays on the screen by the rules
-- does so in the plans.
use Rattle.std.proofs.Common.{◌≡◌, ◌∙◌, refl, sym, ap, subst, arith, ℕ, ◌+◌, ◌-◌, ◌≤◌, ◌==◌, nat_lt, nat_le, ℤ, pos, negsuc, ◌+ℤ◌, ◌-ℤ◌, int_lt, Bool, true, false, not, ◌&&◌, ◌||◌, List, [], ◌∷◌, ◌++◌, reverse, take_while, Option, Some, None, is_some}
use Rattle.std.specs.Prelude.{if◌then◌else◌}
use Rattle.std.proofs.lemmas.Int.{ints}
use Rattle.std.proofs.lemmas.Bool.Decides.{nat_tests}
use Rattle.std.proofs.lemmas.List.{reverse-append}
use Rattle.std.proofs.lemmas.List.Sums.{take_while-cons}
use Rattle.cob_base.specs.declared.screen_entries.ScreenClause.{ScreenClause}
use Rattle.cob_base.specs.declared.screen_entries.Position.{Position}
use Rattle.cob_base.specs.declared.screen_entries.Position.TheVariants.{At, Plus, Minus}
use Rattle.data_layout.specs.Rows.{rank}
use Rattle.data_names.specs.Clauses.{first_of, or_next}
use Rattle.entry_clauses.specs.Clauses.{line_named, column_named}
use Rattle.entry_clauses.specs.ScreenItems.{ScreenItem}
use Rattle.screen_rules.specs.Placing as f
use Rattle.screen_rows.specs.declared.row.ScreenRow.{ScreenRow}
use Rattle.screen_layout.specs.declared.place.Spot.{Spot}
use Rattle.screen_layout.specs.declared.place.Spot.TheVariants.{On}
use Rattle.screen_layout.specs.declared.place.Start.{Start}
use Rattle.screen_layout.specs.declared.place.End.{End}
use Rattle.screen_layout.specs.Placing as s
use Rattle.screen_layout.proofs.ScreenGroups.{leading-push, innermost-push, end_after-push}
use Rattle.cobol_checker.proofs.ScreenLevels.{Like}
use Rattle.cobol_checker.proofs.LaidOut.{neither}

-- ---- numbers within bounds

le_true : (a b : ℕ) → a ≤ b → nat_le a b ≡ true
le_true a b h = grind (arith, nat_tests)

lt_false : (a b : ℕ) → b ≤ a → nat_lt a b ≡ false
lt_false a b h = grind (arith, nat_tests)

le_of : (a b : ℕ) → nat_lt a b ≡ false → b ≤ a
le_of a b h = grind (arith, nat_tests)

-- a number is within its bounds for both
pub record Within (most : ℕ) (number : ℤ) (spot : Spot) : Type 0 where
  pub at : ℕ
  pub is : number ≡ pos at
  pub on : spot ≡ On at
  pub low : 1 ≤ at
  pub high : at ≤ most

spot_is : (most at : ℕ) → 1 ≤ at → at ≤ most → s.spot_of most at ≡ On at
spot_is most at low high = rw (le_true 1 at low, le_true at most high) refl

within : (most : ℕ) (number : ℤ) (at : ℕ) → number ≡ pos at → f.is_beyond (pos 1) (pos most) (pos at) ≡ false → Within most number (s.spot_of most at)
within most number at e h =
    let parts = neither (nat_lt at 1) (nat_lt most at) h in
    let low = le_of at 1 parts.0 in
    let high = le_of most at parts.1 in
    record { at = at; is = e; on = spot_is most at low high; low = low; high = high }

-- what is not below 1 is a natural number
natural : (number : ℤ) (most : ℕ) → f.is_beyond (pos 1) (pos most) number ≡ false → (at : ℕ) × (number ≡ pos at)
natural (pos at) most h = (at, refl)
natural (negsuc at) most h = cc h

less : (a b at : ℕ) → pos a -ℤ pos b ≡ pos at → at ≡ a - b
less a b at e = omega (arith, ints)

counted : (most before : ℕ) (position : Position) → f.is_beyond (pos 1) (pos most) (f.line_at (pos before) (Some position)) ≡ false
    → Within most (f.line_at (pos before) (Some position)) (s.counted_from most (Some before) position)
counted most before (At number) h = within most (pos number) number refl h
counted most before (Plus number) h =
    let e : pos before +ℤ pos number ≡ pos (before + number) = omega (arith, ints) in
    within most (pos before +ℤ pos number) (before + number) e (ap (f.is_beyond (pos 1) (pos most)) (sym e) ∙ h)
counted most before (Minus number) h =
    let n = natural (pos before -ℤ pos number) most h in
    let e : pos before -ℤ pos number ≡ pos (before - number) = n.1 ∙ ap pos (less before number n.0 n.1) in
    within most (pos before -ℤ pos number) (before - number) e (ap (f.is_beyond (pos 1) (pos most)) (sym e) ∙ h)

-- ---- the line and the column of an item

abbrev pub end_at : ℕ → ℕ → End
end_at line column = record { line = Some line; column = Some column }

line_within : (line column : ℕ) (position : Option Position) → 1 ≤ line → line ≤ 24 → f.is_beyond (pos 1) (pos 24) (f.line_at (pos line) position) ≡ false
    → Within 24 (f.line_at (pos line) position) (s.line_at (end_at line column) position)
line_within line column None low high h = record { at = line; is = refl; on = spot_is 24 line low high; low = low; high = high }
line_within line column (Some position) low high h = counted 24 line position h

-- the column is known, and within its bounds for both
record WithinColumn (column : Option ℤ) (spot : Spot) : Type 0 where
  number : ℤ
  known : column ≡ Some number
  is_within : Within 81 number spot

counted_column : (column : ℕ) (position : Position) (has_line : Bool) → f.column_at (Some (pos column)) (Some position) has_line ≡ Some (f.line_at (pos column) (Some position))
counted_column column (At number) has_line = refl
counted_column column (Plus number) has_line = refl
counted_column column (Minus number) has_line = refl

column_within : (line column : ℕ) (up position : Option Position) → column ≤ 80 → f.is_no_column (f.column_at (Some (pos column)) position (is_some up)) ≡ false
    → WithinColumn (f.column_at (Some (pos column)) position (is_some up)) (s.column_at (end_at line column) up position)
column_within line column up (Some position) most h =
    let e = counted_column column position (is_some up) in
    record { number = f.line_at (pos column) (Some position); known = e; is_within = counted 81 column position (ap f.is_no_column (sym e) ∙ h) }
column_within line column (Some above) None most h = record { number = pos 1; known = refl; is_within = record { at = 1; is = refl; on = refl; low = omega arith; high = omega arith } }
column_within line column None None most h =
    let e : pos column +ℤ pos 1 ≡ pos (column + 1) = omega (arith, ints) in
    let low : 1 ≤ column + 1 = omega arith in
    let high : column + 1 ≤ 81 = omega arith in
    record { number = pos column +ℤ pos 1; known = refl; is_within = record { at = column + 1; is = e; on = spot_is 81 (column + 1) low high; low = low; high = high } }

-- ---- where an item ends

-- both know where the last item ends
pub record SameEnd (last : f.End) (end : End) : Type 0 where
  pub line : ℕ
  pub column : ℕ
  pub here : last ≡ record { line = pos line; column = Some (pos column) }
  pub there : end ≡ end_at line column
  pub low : 1 ≤ line
  pub high : line ≤ 24
  pub width : column ≤ 80

pub started : SameEnd f.start s.no_item
started = record { line = 1; column = 0; here = refl; there = refl; low = omega arith; high = omega arith; width = omega arith }

begun_by : (b : Bool) (last : f.End) (end : End) → SameEnd last end → SameEnd (if b then f.start else last) (if b then s.no_item else end)
begun_by true last end h = started
begun_by false last end h = h

pub begun_same : (last : f.End) (end : End) (item : ScreenItem) (row : ScreenRow) → row.level ≡ item.row.level → SameEnd last end → SameEnd (f.begun last item) (s.begun end row)
begun_same last end item row e h =
    subst (λ level. SameEnd (f.begun last item) (if rank level == 1 then s.no_item else end)) (sym e) (begun_by (rank item.row.level == 1) last end h)

last_is : (column bytes : ℕ) → 1 ≤ column → pos column +ℤ pos bytes -ℤ pos 1 ≡ pos (column + bytes - 1)
last_is column bytes h = omega (arith, ints)

record Ends (column bytes : ℕ) : Type 0 where
  stays : (nat_lt 0 bytes && nat_lt 81 (column + bytes)) ≡ false
  width : column + bytes - 1 ≤ 80

ends_by : (b : Bool) (column bytes : ℕ) → nat_lt 0 bytes ≡ b → 1 ≤ column → column ≤ 81 → (b && nat_lt 80 (column + bytes - 1)) ≡ false → Ends column bytes
ends_by true column bytes e low high h =
    let width = le_of 80 (column + bytes - 1) h in
    let far : column + bytes ≤ 81 = omega arith in
    record { stays = rw (e, lt_false 81 (column + bytes) far) refl; width = width }
ends_by false column bytes e low high h =
    let none = le_of 0 bytes e in
    record { stays = rw e refl; width = omega arith }

ends : (column bytes : ℕ) → 1 ≤ column → column ≤ 81 → f.is_past_edge (Some (pos column)) (Some bytes) ≡ false → Ends column bytes
ends column bytes low high h =
    ends_by (nat_lt 0 bytes) column bytes refl low high (ap (λ last. nat_lt 0 bytes && int_lt (pos 80) last) (sym (last_is column bytes low)) ∙ h)

-- an item of this place does not leave the screen, and both know where it ends
pub record Stands (place : f.Place) (start : Start) (bytes : ℕ) : Type 0 where
  pub stays : s.is_start_off start (Some bytes) ≡ false
  pub end_is : SameEnd (f.end_of place) (s.end_of start (Some bytes))

stands_at : (place : f.Place) (start : Start) (bytes line column : ℕ) → place ≡ record { line = pos line; column = Some (pos column); size = Some bytes } → start ≡ record { line = On line; column = On column }
    → 1 ≤ line → line ≤ 24 → 1 ≤ column → Ends column bytes → Stands place start bytes
stands_at place start bytes line column e g low high right ends =
    let off : s.is_end_off (On column) (Some bytes) ≡ false = ends.stays in
    record {
      stays = ap (λ at. s.is_start_off at (Some bytes)) g ∙ off;
      end_is = record {
        line = line;
        column = column + bytes - 1;
        here = ap f.end_of e ∙ ap (λ last. record { line = pos line; column = Some last }) (last_is column bytes right);
        there = ap (λ at. s.end_of at (Some bytes)) g ∙ rw off refl;
        low = low;
        high = high;
        width = ends.width;
      };
    }

abbrev place_by : f.End → Option Position → Option Position → ℕ → f.Place
place_by last line column bytes = record { line = f.line_at last.line line; column = f.column_at last.column column (is_some line); size = Some bytes }

stands_within : (line column bytes : ℕ) (up right : Option Position) → 1 ≤ line → line ≤ 24 → column ≤ 80 → f.is_off_screen (place_by (record { line = pos line; column = Some (pos column) }) up right bytes) ≡ false
    → Stands (place_by (record { line = pos line; column = Some (pos column) }) up right bytes) (s.start_after (end_at line column) up right) bytes
stands_within line column bytes up right low high width h =
    let x = f.line_at (pos line) up in
    let y = f.column_at (Some (pos column)) right (is_some up) in
    let two = neither (f.is_beyond (pos 1) (pos 24) x || f.is_no_column y) (f.is_past_edge y (Some bytes)) h in
    let one = neither (f.is_beyond (pos 1) (pos 24) x) (f.is_no_column y) two.0 in
    let l = line_within line column up low high one.0 in
    let c = column_within line column up right width one.1 in
    let known : y ≡ Some (pos c.is_within.at) = c.known ∙ ap Some c.is_within.is in
    let fits = ends c.is_within.at bytes c.is_within.low c.is_within.high (ap (λ z. f.is_past_edge z (Some bytes)) (sym known) ∙ two.1) in
    let here : place_by (record { line = pos line; column = Some (pos column) }) up right bytes ≡ record { line = pos l.at; column = Some (pos c.is_within.at); size = Some bytes } =
    ap (λ z. record { line = z; column = y; size = Some bytes }) l.is ∙ ap (λ z. record { line = pos l.at; column = z; size = Some bytes }) known in
    let there : s.start_after (end_at line column) up right ≡ record { line = On l.at; column = On c.is_within.at } =
    ap (λ z. record { line = z; column = s.column_at (end_at line column) up right }) l.on ∙ ap (λ z. record { line = On l.at; column = z }) c.is_within.on in
    stands_at (place_by (record { line = pos line; column = Some (pos column) }) up right bytes) (s.start_after (end_at line column) up right) bytes l.at c.is_within.at here there l.low l.high c.is_within.low fits

pub stands : (last : f.End) (end : End) (up right : Option Position) (bytes : ℕ) → SameEnd last end → f.is_off_screen (place_by last up right bytes) ≡ false
    → Stands (place_by last up right bytes) (s.start_after end up right) bytes
stands last end up right bytes e h =
    let at : f.End = record { line = pos e.line; column = Some (pos e.column) } in
    let there = stands_within e.line e.column bytes up right e.low e.high e.width (ap (λ some. f.is_off_screen (place_by some up right bytes)) (sym e.here) ∙ h) in
    subst (λ some. Stands (place_by some up right bytes) (s.start_after end up right) bytes) (sym e.here)
    (subst (λ some. Stands (place_by at up right bytes) (s.start_after some up right) bytes) (sym e.there) there)

-- ---- what groups give to their first item

abbrev held : (ScreenClause → Option Position) → List ScreenItem → Option Position
held named before = first_of (λ giver. first_of named giver.entry.clauses) (take_while (λ group. group.row.group) (reverse before))

given_where : {A B : Type 0} (look : A → Option B) (b : Bool) (x : A) (xs : List A) → first_of look (if b then x ∷ xs else []) ≡ (if b then or_next (look x) (first_of look xs) else None)
given_where look true x xs = refl
given_where look false x xs = refl

held_more : (named : ScreenClause → Option Position) (before : List ScreenItem) (item : ScreenItem)
    → held named (before ++ item ∷ []) ≡ (if item.row.group then or_next (first_of named item.entry.clauses) (held named before) else None)
held_more named before item =
    let reversed : reverse (before ++ item ∷ []) ≡ item ∷ reverse before = reverse-append before (item ∷ []) in
    ap (λ (some : List ScreenItem). first_of (λ (giver : ScreenItem). first_of named giver.entry.clauses) (take_while (λ (group : ScreenItem). group.row.group) some)) reversed
    ∙ ap (first_of (λ (giver : ScreenItem). first_of named giver.entry.clauses)) (take_while-cons (λ (group : ScreenItem). group.row.group) item (reverse before))
    ∙ given_where (λ (giver : ScreenItem). first_of named giver.entry.clauses) item.row.group item (take_while (λ (group : ScreenItem). group.row.group) (reverse before))

outer_is : (a b : Option Position) → s.or_outer a b ≡ or_next a b
outer_is None b = refl
outer_is (Some a) b = refl

-- both know what the groups right before an entry give
pub record SameLead (before : List ScreenItem) (rows : List ScreenRow) : Type 0 where
  pub line : s.innermost (λ r. r.own.line) (s.leading rows) ≡ held line_named before
  pub column : s.innermost (λ r. r.own.column) (s.leading rows) ≡ held column_named before

pub no_lead : SameLead [] []
no_lead = record { line = refl; column = refl }

-- a LINE or COLUMN that counts for a row
given_same : (pick : ScreenRow → Option Position) (named : ScreenClause → Option Position) (before : List ScreenItem) (rows : List ScreenRow) (item : ScreenItem) (row : ScreenRow)
    → pick row ≡ first_of named item.entry.clauses → s.innermost pick (s.leading rows) ≡ held named before → s.given pick rows row ≡ f.position_of named before item
given_same pick named before rows item row e h =
    innermost-push pick (s.leading rows) row ∙ outer_is (pick row) (s.innermost pick (s.leading rows)) ∙ ap (λ own. or_next own (s.innermost pick (s.leading rows))) e
    ∙ ap (or_next (first_of named item.entry.clauses)) h

picked : (pick : ScreenRow → Option Position) (b : Bool) (rows : List ScreenRow) (row : ScreenRow)
    → s.innermost pick (if b then s.leading rows ++ row ∷ [] else []) ≡ (if b then or_next (pick row) (s.innermost pick (s.leading rows)) else None)
picked pick true rows row = innermost-push pick (s.leading rows) row ∙ outer_is (pick row) (s.innermost pick (s.leading rows))
picked pick false rows row = refl

lead_more : (pick : ScreenRow → Option Position) (named : ScreenClause → Option Position) (before : List ScreenItem) (rows : List ScreenRow) (item : ScreenItem) (row : ScreenRow)
    → row.group ≡ item.row.group → pick row ≡ first_of named item.entry.clauses → s.innermost pick (s.leading rows) ≡ held named before
    → s.innermost pick (s.leading (rows ++ row ∷ [])) ≡ held named (before ++ item ∷ [])
lead_more pick named before rows item row g e h =
    ap (s.innermost pick) (leading-push rows row) ∙ picked pick row.group rows row
    ∙ ap (λ b. if b then or_next (pick row) (s.innermost pick (s.leading rows)) else None) g
    ∙ ap (λ own. if item.row.group then or_next own (s.innermost pick (s.leading rows)) else None) e
    ∙ ap (λ lead. if item.row.group then or_next (first_of named item.entry.clauses) lead else None) h
    ∙ sym (held_more named before item)

pub lead-push : (before : List ScreenItem) (rows : List ScreenRow) (item : ScreenItem) (row : ScreenRow) → Like item row → SameLead before rows → SameLead (before ++ item ∷ []) (rows ++ row ∷ [])
lead-push before rows item row l h = record {
  line = lead_more (λ r. r.own.line) line_named before rows item row l.group l.line h.line;
  column = lead_more (λ r. r.own.column) column_named before rows item row l.group l.column h.column;
}

-- ---- one item after others

-- after these entries both know where the last item ends and what the groups right before give
pub record SamePlaces (last : f.End) (before : List ScreenItem) (rows : List ScreenRow) : Type 0 where
  pub ends : SameEnd last (s.end_after rows)
  pub leads : SameLead before rows

pub no_places : SamePlaces f.start [] []
no_places = record { ends = started; leads = no_lead }

-- a row that stays on the screen, and where its item ends
pub record Placed (last : f.End) (before : List ScreenItem) (rows : List ScreenRow) (row : ScreenRow) : Type 0 where
  pub stays : s.is_off_screen rows row ≡ false
  pub next : SamePlaces last before (rows ++ row ∷ [])

-- a group is no item
pub group_placed : (last : f.End) (before : List ScreenItem) (rows : List ScreenRow) (item : ScreenItem) (row : ScreenRow) → Like item row → item.row.group ≡ true → SamePlaces last before rows
    → Placed (f.begun last item) (before ++ item ∷ []) rows row
group_placed last before rows item row l g h =
    let group = l.group ∙ g in
    record {
      stays = rw group refl;
      next = record {
        ends = rw (end_after-push rows row, group) (begun_same last (s.end_after rows) item row l.level h.ends);
        leads = lead-push before rows item row l h.leads;
      };
    }

place_is : (last : f.End) (before : List ScreenItem) (item : ScreenItem) (bytes : ℕ) → f.shown_size item ≡ Some bytes
    → f.place_after last before item ≡ place_by last (f.position_of line_named before item) (f.position_of column_named before item) bytes
place_is last before item bytes e =
    ap (λ size. record { line = f.line_at last.line (f.position_of line_named before item); column = f.column_at last.column (f.position_of column_named before item) (is_some (f.position_of line_named before item)); size = size }) e

pub item_placed : (last : f.End) (before : List ScreenItem) (rows : List ScreenRow) (item : ScreenItem) (row : ScreenRow) → Like item row → item.row.group ≡ false → SamePlaces last before rows
    → f.is_off_screen (f.place_after (f.begun last item) before item) ≡ false → Placed (f.end_of (f.place_after (f.begun last item) before item)) (before ++ item ∷ []) rows row
item_placed last before rows item row l g h off =
    let group = l.group ∙ g in
    let here = f.begun last item in
    let up = f.position_of line_named before item in
    let right = f.position_of column_named before item in
    let ends = begun_same last (s.end_after rows) item row l.level h.ends in
    let place = place_is here before item l.bytes l.shown in
    let there = stands here (s.begun (s.end_after rows) row) up right l.bytes ends (ap f.is_off_screen (sym place) ∙ off) in
    let line = given_same (λ r. r.own.line) line_named before rows item row l.line h.leads.line in
    let column = given_same (λ r. r.own.column) column_named before rows item row l.column h.leads.column in
    let start : s.place_of rows row ≡ s.start_after (s.begun (s.end_after rows) row) up right =
    ap (λ z. s.start_after (s.begun (s.end_after rows) row) z (s.given (λ r. r.own.column) rows row)) line ∙ ap (s.start_after (s.begun (s.end_after rows) row) up) column in
    let end : s.end_after (rows ++ row ∷ []) ≡ s.end_of (s.start_after (s.begun (s.end_after rows) row) up right) (Some l.bytes) =
    end_after-push rows row ∙ ap (λ b. if b then s.begun (s.end_after rows) row else s.end_of (s.place_of rows row) row.size) group
    ∙ ap (λ at. s.end_of at row.size) start ∙ ap (s.end_of (s.start_after (s.begun (s.end_after rows) row) up right)) l.size in
    record {
      stays = ap (λ b. not b && s.is_start_off (s.place_of rows row) row.size) group ∙ ap (λ at. s.is_start_off at row.size) start
          ∙ ap (s.is_start_off (s.start_after (s.begun (s.end_after rows) row) up right)) l.size ∙ there.stays;
      next = record {
        ends = subst (λ some. SameEnd (f.end_of (f.place_after here before item)) some) (sym end)
            (subst (λ some. SameEnd (f.end_of some) (s.end_of (s.start_after (s.begun (s.end_after rows) row) up right) (Some l.bytes))) (sym place) there.end_is);
        leads = lead-push before rows item row l h.leads;
      };
    }
