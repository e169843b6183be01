-- Acts and items one after another.
use Rattle.std.proofs.Common.{◌≡◌, ◌∙◌, refl, ap, sym, subst, ℕ, ◌+◌, ◌<◌, Bool, true, false, List, [], ◌∷◌, ◌++◌, length, take, get_or, append-nil, Option, Some, None}
use Rattle.std.specs.Prelude.{if◌then◌else◌, filter, slice_get}
use Rattle.std.specs.List.{flat_map, filter_map, last_or}
use Rattle.std.proofs.lemmas.List.{take_more}
use Rattle.std.proofs.lemmas.List.Elements.{filter-append, filter_map-append}
use Rattle.std.proofs.lemmas.Grind.{flat_map-append}
use Rattle.screen_cells.specs.Cells.{Shown}
use Rattle.screen_cells.specs.declared.cell.Cell.{Cell}
use Rattle.screen_layout.specs.declared.plan.Placed.{Placed}
use Rattle.screen_layout.specs.Painting.{Act, left_in, cell_after, AreAfter, has_size, last_shown, cursor_line, cursor_column, IsCursorAfter}

last_or-append : {A : Type 0} (o : Option A) (xs ys : List A) → last_or o (xs ++ ys) ≡ last_or (last_or o xs) ys
last_or-append o [] ys = refl
last_or-append o (x ∷ xs) ys = last_or-append (Some x) xs ys

-- ---- cells

pub in_order : (first second : List Act) (old mid new : List Cell) → AreAfter first old mid → AreAfter second mid new → AreAfter (first ++ second) old new
in_order first second old mid new f g = λ cell.
    let both : cell_after (first ++ second) old cell ≡ last_or (cell_after first old cell) (filter_map (left_in cell) second) =
    ap (last_or (slice_get old cell)) (filter_map-append (left_in cell) first second) ∙ last_or-append (slice_get old cell) (filter_map (left_in cell) first) (filter_map (left_in cell) second) in
    g cell ∙ ap (λ o. last_or o (filter_map (left_in cell) second)) (f cell) ∙ sym both

-- one item more
pub one_more : (acts : Placed → List Act) (items : List Placed) (i : ℕ) (item : Placed) (old mid new : List Cell) → i < length items → item ≡ get_or items i item
    → AreAfter (flat_map acts (take i items)) old mid → AreAfter (acts item) mid new → AreAfter (flat_map acts (take (i + 1) items)) old new
one_more acts items i item old mid new h e f g =
    let more : take (i + 1) items ≡ take i items ++ item ∷ [] = take_more items i item h ∙ ap (λ x. take i items ++ x ∷ []) (sym e) in
    let whole : flat_map acts (take (i + 1) items) ≡ flat_map acts (take i items) ++ acts item =
    ap (flat_map acts) more ∙ flat_map-append acts (take i items) (item ∷ []) ∙ ap (λ xs. flat_map acts (take i items) ++ xs) (append-nil (acts item)) in
    subst (λ (all : List Act). AreAfter all old new) (sym whole) (in_order (flat_map acts (take i items)) (acts item) old mid new f g)

-- ---- the cursor

line_more : (b : Bool) (o : Option Placed) (item : Placed) (line : ℕ) → cursor_line (last_or o (if b then item ∷ [] else [])) line ≡ cursor_line (last_or None (if b then item ∷ [] else [])) (cursor_line o line)
line_more true o item line = refl
line_more false o item line = refl

column_more : (b : Bool) (o : Option Placed) (item : Placed) (column : ℕ) → cursor_column (last_or o (if b then item ∷ [] else [])) column ≡ cursor_column (last_or None (if b then item ∷ [] else [])) (cursor_column o column)
column_more true o item column = refl
column_more false o item column = refl

pub one_behind : (items : List Placed) (i : ℕ) (item : Placed) (old mid new : Shown) → i < length items → item ≡ get_or items i item
    → IsCursorAfter (take i items) old mid → IsCursorAfter (item ∷ []) mid new → IsCursorAfter (take (i + 1) items) old new
one_behind items i item old mid new h e f g =
    let more : take (i + 1) items ≡ take i items ++ item ∷ [] = take_more items i item h ∙ ap (λ x. take i items ++ x ∷ []) (sym e) in
    let last : last_shown (take (i + 1) items) ≡ last_or (last_shown (take i items)) (if has_size item then item ∷ [] else []) =
    ap last_shown more ∙ ap (last_or None) (filter-append has_size (take i items) (item ∷ [])) ∙ last_or-append None (filter has_size (take i items)) (filter has_size (item ∷ [])) in
    record {
      line = g.line ∙ ap (cursor_line (last_shown (item ∷ []))) f.line ∙ sym (line_more (has_size item) (last_shown (take i items)) item old.line) ∙ ap (λ o. cursor_line o old.line) (sym last);
      column = g.column ∙ ap (cursor_column (last_shown (item ∷ []))) f.column ∙ sym (column_more (has_size item) (last_shown (take i items)) item old.column) ∙ ap (λ o. cursor_column o old.column) (sym last);
    }
