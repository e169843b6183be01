-- Places of screen items, one after another.
use Rattle.std.proofs.Common.{◌≡◌, ◌∙◌, refl, sym, ap, Bool, true, false, List, [], ◌∷◌, ◌++◌, append_assoc, reverse, Option, None}
use Rattle.std.specs.Prelude.{if◌then◌else◌, take_while}
use Rattle.std.proofs.lemmas.List.{map-append, reverse-append}
use Rattle.std.proofs.lemmas.List.Sums.{take_while-cons}
use Rattle.cob_base.specs.declared.line.Line.{Line}
use Rattle.cob_base.specs.declared.screen_entries.ScreenClause.{ScreenClause}
use Rattle.cob_base.specs.declared.screen_entries.Position.{Position}
use Rattle.data_names.specs.Clauses.{first_of, or_next}
use Rattle.name_rules.specs.declared.fault.Fault.{Fault}
use Rattle.screen_rules.specs.declared.placing.Placing.{Placing}
use Rattle.entry_clauses.specs.Clauses.{line_named, column_named}
use Rattle.entry_clauses.specs.ScreenItems.{ScreenItem}
use Rattle.screen_rules.specs.Placing.{End, Place, begun, end_of, is_off_screen, off_screen_line, off_screen_after, place_after}
use Rattle.screen_rules.specs.SeenPlaces.{seen_end, place_of, given, IsPlacing, Places}
use Rattle.name_rules.specs.Faults.{faults_at, fault_where}
use Rattle.name_rules.proofs.Later.{one_noted}

given_where : {A B : Type 0} (look : A → Option B) (b : Bool) (x : A) (xs : List A) → first_of look (if b then x ∷ xs else []) ≡ (if b then or_next (look x) (first_of look xs) else None)
given_where look true x xs = refl
given_where look false x xs = refl

-- what the groups give with one more entry
given_more : (named : ScreenClause → Option Position) (before : List ScreenItem) (item : ScreenItem)
    → given named (before ++ item ∷ []) ≡ (if item.row.group then or_next (first_of named item.entry.clauses) (given named before) else None)
given_more named before item =
    let reversed : reverse (before ++ item ∷ []) ≡ item ∷ reverse before = reverse-append before (item ∷ []) in
    ap (λ (some : List ScreenItem). first_of (λ (giver : ScreenItem). first_of named giver.entry.clauses) (take_while (λ (group : ScreenItem). group.row.group) some)) reversed
    ∙ ap (first_of (λ (giver : ScreenItem). first_of named giver.entry.clauses)) (take_while-cons (λ (group : ScreenItem). group.row.group) item (reverse before))
    ∙ given_where (λ (giver : ScreenItem). first_of named giver.entry.clauses) item.row.group item (take_while (λ (group : ScreenItem). group.row.group) (reverse before))

-- after a group
pub after_group : (before : List ScreenItem) (item : ScreenItem) (state next : Placing) → item.row.group ≡ true → IsPlacing before state → next.line ≡ or_next (first_of line_named item.entry.clauses) state.line
    → next.column ≡ or_next (first_of column_named item.entry.clauses) state.column → IsPlacing (before ++ item ∷ []) next
after_group before item state next g p l c = record {
  line_is = l ∙ ap (or_next (first_of line_named item.entry.clauses)) p.line_is
      ∙ sym (given_more line_named before item ∙ ap (λ b. if b then or_next (first_of line_named item.entry.clauses) (given line_named before) else None) g);
  column_is = c ∙ ap (or_next (first_of column_named item.entry.clauses)) p.column_is
      ∙ sym (given_more column_named before item ∙ ap (λ b. if b then or_next (first_of column_named item.entry.clauses) (given column_named before) else None) g);
}

-- after an elementary entry
pub after_item : (before : List ScreenItem) (item : ScreenItem) (next : Placing) → item.row.group ≡ false → next.line ≡ None → next.column ≡ None → IsPlacing (before ++ item ∷ []) next
after_item before item next g l c = record {
  line_is = l ∙ sym (given_more line_named before item ∙ ap (λ b. if b then or_next (first_of line_named item.entry.clauses) (given line_named before) else None) g);
  column_is = c ∙ sym (given_more column_named before item ∙ ap (λ b. if b then or_next (first_of column_named item.entry.clauses) (given column_named before) else None) g);
}

-- the faults with a group
pub group_noted : (last here : End) (before rest : List ScreenItem) (item : ScreenItem) (old : List Fault) → item.row.group ≡ true → here ≡ begun last item
    → old ++ faults_at 11 (off_screen_after here (before ++ item ∷ []) rest) ≡ old ++ faults_at 11 (off_screen_after last before (item ∷ rest))
group_noted last here before rest item old g e =
    let later : End → List Line = λ (some : End). off_screen_after some (before ++ item ∷ []) rest in
    let place = place_after (begun last item) before item in
    ap (λ (some : End). old ++ faults_at 11 (later some)) e
    ∙ ap (λ b. old ++ faults_at 11 (if b then later (begun last item) else off_screen_line place item.row.line ++ later (end_of place))) (sym g)

-- the faults with an elementary entry
pub item_noted : (last : End) (before rest : List ScreenItem) (item : ScreenItem) (place : Place) (next : Placing) (old new : List Fault) → item.row.group ≡ false → place ≡ place_after (begun last item) before item
    → Places place item.row.line old new next
    → new ++ faults_at 11 (off_screen_after (seen_end next.last) (before ++ item ∷ []) rest) ≡ old ++ faults_at 11 (off_screen_after last before (item ∷ rest))
item_noted last before rest item place next old new g e p =
    let later : End → List Line = λ (some : End). off_screen_after some (before ++ item ∷ []) rest in
    let here : Place → List Line = λ (some : Place). off_screen_line some item.row.line in
    let goal : Place → List Line = λ (some : Place). here some ++ later (end_of some) in
    ap (λ front. front ++ faults_at 11 (later (seen_end next.last))) p.found
    ∙ ap (λ (some : End). (old ++ fault_where (is_off_screen place) 11 item.row.line) ++ faults_at 11 (later some)) p.last
    ∙ append_assoc old (fault_where (is_off_screen place) 11 item.row.line) (faults_at 11 (later (end_of place)))
    ∙ ap (λ front. old ++ (front ++ faults_at 11 (later (end_of place)))) (one_noted 11 (is_off_screen place) item.row.line)
    ∙ ap (λ back. old ++ back) (sym (map-append _ (here place) (later (end_of place))))
    ∙ ap (λ (some : Place). old ++ faults_at 11 (goal some)) e
    ∙ ap (λ b. old ++ faults_at 11 (if b then later (begun last item) else goal (place_after (begun last item) before item))) (sym g)

-- the place of an item, by what is known before it
pub place_is : (last here : End) (line column : Option Position) (before : List ScreenItem) (item : ScreenItem) → here ≡ begun last item → line ≡ or_next (first_of line_named item.entry.clauses) (given line_named before)
    → column ≡ or_next (first_of column_named item.entry.clauses) (given column_named before) → place_of here line column item ≡ place_after (begun last item) before item
place_is last here line column before item e l c =
    let own_line = or_next (first_of line_named item.entry.clauses) (given line_named before) in
    ap (λ (some : End). place_of some line column item) e ∙ ap (λ (some : Option Position). place_of (begun last item) some column item) l
    ∙ ap (λ (some : Option Position). place_of (begun last item) own_line some item) c
