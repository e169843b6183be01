-- A row that is not at fault by itself is sound.
use Rattle.std.proofs.Common.{zero, suc, ◌≡◌, ℕ, ◌<◌, ◌≤◌, refl, sym, ◌∙◌, ap, subst, arith, inl, inr, Bool, true, false, not, ◌&&◌, ◌||◌, ◌==◌, Option, Some, None, List, [], ◌∷◌, length}
use Rattle.std.specs.Prelude.{if◌then◌else◌, is_some, is_none, nat_le, slice_get, All}
use Rattle.std.proofs.lemmas.Bool.Decides.{nat_tests}
use Rattle.cob_base.specs.declared.operands.Operand.{Operand}
use Rattle.cob_base.specs.declared.operands.Operand.TheVariants as operands
use Rattle.cob_base.specs.declared.operands.Reference.{Reference}
use Rattle.cob_base.specs.declared.screen_entries.ScreenClause.{ScreenClause}
use Rattle.cob_base.specs.declared.screen_entries.ScreenEntry.{ScreenEntry}
use Rattle.picture_rule.specs.Picture.{Form, PictureValue, plain, HasForm, is_digit_mark}
use Rattle.std.proofs.lemmas.List.Sums.{count_by-le-length}
use Rattle.std.proofs.lemmas.List.Elements.{All-head, All-tail}
use Rattle.picture_rule.specs.Text.{picture_of}
use Rattle.picture_rule.specs.declared.kind.PictureKind.TheVariants.{Alphanumeric}
use Rattle.cob_value.specs.Moves.{may_move}
use Rattle.data_layout.specs.Layout.{IsInside}
use Rattle.data_layout.specs.declared.layout.Item.{Item}
use Rattle.data_layout.specs.declared.layout.Layout.{Layout}
use Rattle.screen_rows.specs.declared.clauses.Look.{Look}
use Rattle.screen_rows.specs.declared.row.ScreenRow.{ScreenRow}
use Rattle.screen_rows.specs.declared.row.Content.{Content}
use Rattle.screen_rows.specs.declared.row.Show.{Show}
use Rattle.screen_rows.specs.declared.row.Show.TheVariants as s
use Rattle.screen_rows.specs.Clauses.{own_clauses, value_text, picture_text, from_operand, to_reference, using_reference, is_twice}
use Rattle.screen_names.specs.Names.{is_single, only_item}
use Rattle.screen_rows.specs.Rows.{IsSeen, text_or_none, unless_signed, is_past_colours, is_bad_look, is_bad_pairing, is_bad_by, has_operand, has_content, content_of, content_by, by_value, source, sink, target, single_or_none, where_passes, passes, operand_shown, as_item, as_text, constant_shown, shown_alone, both_or_none, spaces, IsLong, IsLongIn, HasLength, IsScreenRow, AreScreenRows}
use Rattle.screen_layout.specs.Plans.{MayShow, MayFillFrom, IsNamed}
use Rattle.screen_layout.specs.Planned.{IsSound, AreSound}

neither : (a b : Bool) → (a || b) ≡ false → (a ≡ false) × (b ≡ false)
neither false false h = (refl, refl)
neither false true h = cc
neither true b h = cc

not_both : (a b : Bool) → (a && b) ≡ false → a ≡ true → b ≡ false
not_both true b h e = h
not_both false b h e = cc

not_both_left : (a b : Bool) → (a && b) ≡ false → b ≡ true → a ≡ false
not_both_left true b h e = cc
not_both_left false b h e = refl

twice_not : (b : Bool) → not b ≡ false → b ≡ true
twice_not true h = refl
twice_not false h = cc

-- what is not at fault
pub record Parts (clauses : List ScreenClause) (found : Bool) : Type 0 where
  pub look : is_bad_look (own_clauses clauses).look ≡ false
  pub pairing : is_bad_pairing clauses ≡ false
  pub content : (is_some (picture_text clauses) && not found) ≡ false

pub parts_of : (level : ℕ) (clauses : List ScreenClause) (group found : Bool) → is_bad_by level clauses group found ≡ false → Parts clauses found
parts_of level clauses group found h =
    let a = is_twice clauses in
    let b = is_bad_look (own_clauses clauses).look in
    let c = group && has_content clauses in
    let d = is_bad_pairing clauses in
    let e = is_some (picture_text clauses) && not found in
    let five = neither (a || b || c || d || e) (level == 77) h in
    let four = neither (a || b || c || d) e five.0 in
    let three = neither (a || b || c) d four.0 in
    let two = neither (a || b) c three.0 in
    let one = neither a b two.0 in
    record { look = one.1; pairing = three.1; content = four.1 }

pub colours_of : (look : Look) → is_bad_look look ≡ false → (is_past_colours look.front ≡ false) × (is_past_colours look.back ≡ false)
colours_of look h =
    let two = neither ((look.highlight && look.lowlight) || is_past_colours look.front) (is_past_colours look.back) h in
    ((neither (look.highlight && look.lowlight) (is_past_colours look.front) two.0).1, two.1)

-- ---- sizes

at_most : (m k : ℕ) → m ≤ k → nat_le m k ≡ true
at_most m k h = grind (arith, nat_tests)

signed_out : (b : Bool) (n : ℕ) (p : PictureValue) (size : Option ℕ) (picture : Option PictureValue) → size ≡ unless_signed b n → picture ≡ unless_signed b p → is_some picture ≡ true → (size ≡ Some n) × (picture ≡ Some p)
signed_out true n p size picture e f h = let none : is_some picture ≡ false = ap is_some f in cc
signed_out false n p size picture e f h = (e, f)

some_length : (marks : List ℕ) → (marks ≡ [] → ⊥) → 0 < length marks
some_length [] h = absurd (h refl)
some_length (mark ∷ marks) h = omega arith

-- what has a form takes a byte at least
some_cells : (marks : List ℕ) (form : Form) → HasForm marks form → 0 < form.size
some_cells marks form (inl h) = let e = ap (λ f. f.size) h.is in let l = some_length marks h.some in omega arith
some_cells marks form (inr (inl h)) = let e = ap (λ f. f.size) h.is in let l = h.some in omega arith
some_cells marks form (inr (inr h)) = let e = ap (λ f. f.size) h.is in let l = h.some in let m = count_by-le-length is_digit_mark marks in omega arith

-- a size is known, and a picture of a line's length at most
pub cells_of : (text value : Option (List ℕ)) (size : Option ℕ) (picture : Option PictureValue) (found : Bool) → IsSeen text value size picture → (is_some text && not found) ≡ false → (found ≡ true → is_some picture ≡ true)
    → (n : ℕ) × (size ≡ Some n) × (n < 81 → (p : PictureValue) × (picture ≡ Some p) × (p.size ≡ n) × (text ≡ None → n ≡ length (text_or_none value)) × (is_some text ≡ true → 0 < n))
cells_of None value size picture found h c f =
    (length (text_or_none value), h.0, λ few. (plain Alphanumeric (length (text_or_none value)), h.1 ∙ rw (at_most (length (text_or_none value)) 9999 (omega arith)) refl, refl, λ _. refl, λ given. cc))
cells_of (Some text) value size picture found (inl h) c f = let given = f (twice_not found c) in let none : is_some picture ≡ false = ap is_some h.2 in cc
cells_of (Some text) value size picture found (inr (inl h)) c f = let given = f (twice_not found c) in let none : is_some picture ≡ false = ap is_some h.5 in cc
cells_of (Some text) value size picture found (inr (inr h)) c f =
    let form : Form = h.1 in
    let two = signed_out form.signed form.size (picture_of h.0 form) size picture h.4 h.5 (f (twice_not found c)) in
    (form.size, two.0, λ few. (picture_of h.0 form, two.1, refl, (λ none. cc), λ _. some_cells h.0 form h.2.1))

-- ---- what is shown and filled

item_inside : (total : ℕ) (items : List Item) (place : ℕ) (item : Item) → All (IsInside total) items → slice_get items place ≡ Some item → IsInside total item
item_inside total [] place item h e = cc
item_inside total (first ∷ items) zero item h e = let same : first ≡ item = cc in subst (λ (i : Item). IsInside total i) same (All-head (IsInside total) first items h)
item_inside total (first ∷ items) (suc place) item h e = item_inside total items place item (All-tail (IsInside total) first items h) e

single_by : (b : Bool) (items : List Item) (place number : ℕ) → is_single items place ≡ b → (if b then Some place else None) ≡ Some number → is_single items number ≡ true
single_by true items place number e h = let same : place ≡ number = cc in ap (is_single items) (sym same) ∙ e
single_by false items place number e h = cc

single_of : (items : List Item) (o : Option ℕ) (number : ℕ) → single_or_none items o ≡ Some number → is_single items number ≡ true
single_of items None number h = cc
single_of items (Some place) number h = single_by (is_single items place) items place number refl h

target_by : (b : Bool) (layout : Layout) (reference : Reference) (number : ℕ) → (if b then None else single_or_none layout.items (only_item layout.items reference)) ≡ Some number → is_single layout.items number ≡ true
target_by true layout reference number h = cc
target_by false layout reference number h = single_of layout.items (only_item layout.items reference) number h

passed_by : (b : Bool) (place number : ℕ) → (if b then Some place else None) ≡ Some number → (b ≡ true) × (place ≡ number)
passed_by true place number h = (refl, cc)
passed_by false place number h = cc

item_passed : (test : Item → Bool) (o : Option Item) → passes test o ≡ true → (item : Item) × (o ≡ Some item) × (test item ≡ true)
item_passed test None h = cc
item_passed test (Some item) h = (item, refl, h)

-- an item that was found passes, and is a single one
found_by : (test : Item → Bool) (layout : Layout) (reference : Reference) (o : Option ℕ) (number : ℕ) → All (IsInside layout.total) layout.items → target layout reference ≡ o → where_passes test layout o ≡ Some number
    → (item : Item) × IsNamed layout number item × (test item ≡ true)
found_by test layout reference None number inside t h = cc
found_by test layout reference (Some place) number inside t h =
    let two = passed_by (passes test (slice_get layout.items place)) place number h in
    let item = item_passed test (slice_get layout.items place) two.0 in
    let here : slice_get layout.items number ≡ Some item.0 = ap (slice_get layout.items) (sym two.1) ∙ item.1 in
    let single : is_single layout.items number ≡ true = ap (is_single layout.items) (sym two.1) ∙ target_by (is_some reference.subscript) layout reference place t in
    (item.0, record { here = here; single = single; inside = item_inside layout.total layout.items number item.0 inside here }, item.2)

filled : (layout : Layout) (p : PictureValue) (reference : Reference) (number : ℕ) → All (IsInside layout.total) layout.items → 0 < p.size → sink layout p reference ≡ Some number → MayFillFrom layout (Some number) p.size p
filled layout p reference number inside some h = (some, found_by (λ item. may_move p item.picture) layout reference (target layout reference) number inside refl h)

item_shown : (layout : Layout) (p : PictureValue) (reference : Reference) (o : Option ℕ) (show : Show) → All (IsInside layout.total) layout.items → source layout p reference ≡ o → as_item o ≡ Some show → MayShow layout show p.size p
item_shown layout p reference None show inside f h = cc
item_shown layout p reference (Some number) show inside f h =
    let same : s.Item number ≡ show = cc in
    subst (λ (x : Show). MayShow layout x p.size p) same (found_by (λ item. may_move item.picture p) layout reference (target layout reference) number inside refl f)

text_shown : (layout : Layout) (p : PictureValue) (o : Option (List ℕ)) (show : Show) → IsLong p.size show → as_text o ≡ Some show → MayShow layout show p.size p
text_shown layout p None show l h = cc
text_shown layout p (Some bytes) show l h = let same : s.Text bytes ≡ show = cc in subst (λ (x : Show). MayShow layout x p.size p) same (subst (λ (x : Show). IsLong p.size x) (sym same) l)

operand_ok : (layout : Layout) (p : PictureValue) (operand : Operand) (show : Show) → All (IsInside layout.total) layout.items → IsLong p.size show → operand_shown layout p operand ≡ Some show → MayShow layout show p.size p
operand_ok layout p (operands.Reference reference) show inside l h = item_shown layout p reference (source layout p reference) show inside refl h
operand_ok layout p (operands.Constant constant) show inside l h = text_shown layout p (constant_shown constant p) show l h

abbrev Fits : Layout → PictureValue → Show → Option ℕ → Type 0
Fits layout p show into = MayShow layout show p.size p × MayFillFrom layout into p.size p

alone_ok : (layout : Layout) (p : PictureValue) (o : Option Show) (show : Show) (into : Option ℕ) → shown_alone o ≡ Some (show, into) → (o ≡ Some show → MayShow layout show p.size p) → Fits layout p show into
alone_ok layout p None show into h f = cc
alone_ok layout p (Some x) show into h f =
    let left : Show × Option ℕ = (x, None) in
    let right : Show × Option ℕ = (show, into) in
    let pair : left ≡ right = cc in
    let none : None ≡ into = ap (λ q. q.1) pair in
    (f (ap (λ q. Some q.0) pair), subst (λ (o : Option ℕ). MayFillFrom layout o p.size p) none tt)

both_ok : (layout : Layout) (p : PictureValue) (o : Option Show) (place : Option ℕ) (show : Show) (into : Option ℕ) → both_or_none o place ≡ Some (show, into) → (o ≡ Some show → MayShow layout show p.size p)
    → ((number : ℕ) → place ≡ Some number → MayFillFrom layout (Some number) p.size p) → Fits layout p show into
both_ok layout p None place show into h f g = cc
both_ok layout p (Some x) None show into h f g = cc
both_ok layout p (Some x) (Some number) show into h f g =
    let left : Show × Option ℕ = (x, Some number) in
    let right : Show × Option ℕ = (show, into) in
    let pair : left ≡ right = cc in
    (f (ap (λ q. Some q.0) pair), subst (λ (o : Option ℕ). MayFillFrom layout o p.size p) (ap (λ q. q.1) pair) (g number refl))

pub content_ok : (layout : Layout) (p : PictureValue) (from : Option Operand) (to using : Option Reference) (otherwise show : Show) (into : Option ℕ) → All (IsInside layout.total) layout.items → 0 < p.size → IsLong p.size show
    → (is_some from || is_some to || is_some using) ≡ true → content_by layout p from to using otherwise ≡ Some (show, into) → Fits layout p show into
content_ok layout p None None None otherwise show into inside some l o h = cc
content_ok layout p (Some operand) None None otherwise show into inside some l o h = alone_ok layout p (operand_shown layout p operand) show into h (λ e. operand_ok layout p operand show inside l e)
content_ok layout p (Some operand) (Some reference) None otherwise show into inside some l o h =
    both_ok layout p (operand_shown layout p operand) (sink layout p reference) show into h (λ e. operand_ok layout p operand show inside l e) (λ number e. filled layout p reference number inside some e)
content_ok layout p None (Some reference) None otherwise show into inside some l o h =
    both_ok layout p (Some (s.Text (spaces p))) (sink layout p reference) show into h (λ e. text_shown layout p (Some (spaces p)) show l e) (λ number e. filled layout p reference number inside some e)
content_ok layout p None None (Some reference) otherwise show into inside some l o h =
    both_ok layout p (as_item (source layout p reference)) (sink layout p reference) show into h (λ e. item_shown layout p reference (source layout p reference) show inside refl e) (λ number e. filled layout p reference number inside some e)
content_ok layout p (Some operand) None (Some reference) otherwise show into inside some l o h = cc
content_ok layout p (Some operand) (Some other) (Some reference) otherwise show into inside some l o h = cc
content_ok layout p None (Some other) (Some reference) otherwise show into inside some l o h = cc

-- ---- a sound row

none_by : (layout : Layout) (p : PictureValue) (from : Option Operand) (to using : Option Reference) (otherwise : Show) → (is_some from || is_some to || is_some using) ≡ false → content_by layout p from to using otherwise ≡ Some (otherwise, None)
none_by layout p None None None otherwise h = refl
none_by layout p (Some a) None None otherwise h = cc
none_by layout p None (Some b) None otherwise h = cc
none_by layout p None None (Some c) otherwise h = cc
none_by layout p (Some a) (Some b) None otherwise h = cc
none_by layout p (Some a) None (Some c) otherwise h = cc
none_by layout p None (Some b) (Some c) otherwise h = cc
none_by layout p (Some a) (Some b) (Some c) otherwise h = cc

value_ok : (layout : Layout) (p : PictureValue) (value : Option (List ℕ)) (n : ℕ) → n ≡ length (text_or_none value) → MayShow layout (by_value value) n p
value_ok layout p None n h = h
value_ok layout p (Some text) n h = sym h

some_found : (o : Option (Show × Option ℕ)) → is_some o ≡ true → (x : Show × Option ℕ) × (o ≡ Some x)
some_found None h = cc
some_found (Some x) h = (x, refl)

found_has : (layout : Layout) (clauses : List ScreenClause) (picture : Option PictureValue) → is_some (content_of layout clauses picture) ≡ true → is_some picture ≡ true
found_has layout clauses None h = cc
found_has layout clauses (Some p) h = refl

no_text : (o : Option (List ℕ)) → is_some o ≡ false → (o ≡ None) × (is_none o ≡ true)
no_text None h = (refl, refl)
no_text (Some text) h = cc

-- what an item shows and fills, where it has a picture
content_fits : (b : Bool) (layout : Layout) (entry : ScreenEntry) (rest : List ScreenEntry) (row : ScreenRow) (content : Content) (p : PictureValue) (n : ℕ) → All (IsInside layout.total) layout.items → is_some (picture_text entry.clauses) ≡ b
    → IsScreenRow layout entry rest row content → Parts entry.clauses (is_some (content_of layout entry.clauses content.picture)) → content.picture ≡ Some p → p.size ≡ n
    → (picture_text entry.clauses ≡ None → n ≡ length (text_or_none (value_text entry.clauses))) → (is_some (picture_text entry.clauses) ≡ true → 0 < n) → MayShow layout content.show n p × MayFillFrom layout content.into n p
content_fits true layout entry rest row content p n inside b is parts e z v k =
    let found = some_found (content_of layout entry.clauses content.picture) (twice_not (is_some (content_of layout entry.clauses content.picture)) (not_both (is_some (picture_text entry.clauses)) (not (is_some (content_of layout entry.clauses content.picture))) parts.content b)) in
    let two = neither ((is_some (picture_text entry.clauses) && not (has_operand entry.clauses)) || (has_operand entry.clauses && is_none (picture_text entry.clauses))) (is_some (picture_text entry.clauses) && is_some (value_text entry.clauses)) parts.pairing in
    let one = neither (is_some (picture_text entry.clauses) && not (has_operand entry.clauses)) (has_operand entry.clauses && is_none (picture_text entry.clauses)) two.0 in
    let operand : has_operand entry.clauses ≡ true = twice_not (has_operand entry.clauses) (not_both (is_some (picture_text entry.clauses)) (not (has_operand entry.clauses)) one.0 b) in
    let shows = is.shows found.0.0 found.0.1 found.1 in
    let here : content_of layout entry.clauses (Some p) ≡ Some found.0 = ap (content_of layout entry.clauses) (sym e) ∙ found.1 in
    let long1 : HasLength entry.clauses (Some p) (content_of layout entry.clauses content.picture) = subst (λ (o : Option PictureValue). HasLength entry.clauses o (content_of layout entry.clauses content.picture)) e is.long in
    let long2 : IsLongIn p.size (Some found.0) = subst (λ (o : Option (Show × Option ℕ)). IsLongIn p.size o) found.1 (long1 operand) in
    let some : 0 < p.size = (let s = k b in omega arith) in
    let fits = content_ok layout p (from_operand entry.clauses) (to_reference entry.clauses) (using_reference entry.clauses) (by_value (value_text entry.clauses)) found.0.0 found.0.1 inside some long2 operand here in
    (subst (λ (x : Show). MayShow layout x n p) (sym shows.0) (subst (λ (m : ℕ). MayShow layout found.0.0 m p) z fits.0), subst (λ (o : Option ℕ). MayFillFrom layout o n p) (sym shows.1) (subst (λ (m : ℕ). MayFillFrom layout found.0.1 m p) z fits.1))
content_fits false layout entry rest row content p n inside b is parts e z v k =
    let none = no_text (picture_text entry.clauses) b in
    let two = neither ((is_some (picture_text entry.clauses) && not (has_operand entry.clauses)) || (has_operand entry.clauses && is_none (picture_text entry.clauses))) (is_some (picture_text entry.clauses) && is_some (value_text entry.clauses)) parts.pairing in
    let one = neither (is_some (picture_text entry.clauses) && not (has_operand entry.clauses)) (has_operand entry.clauses && is_none (picture_text entry.clauses)) two.0 in
    let operand : has_operand entry.clauses ≡ false = not_both_left (has_operand entry.clauses) (is_none (picture_text entry.clauses)) one.1 none.1 in
    let here : content_of layout entry.clauses content.picture ≡ Some (by_value (value_text entry.clauses), None) = ap (content_of layout entry.clauses) e ∙ none_by layout p (from_operand entry.clauses) (to_reference entry.clauses) (using_reference entry.clauses) (by_value (value_text entry.clauses)) operand in
    let shows = is.shows (by_value (value_text entry.clauses)) None here in
    (subst (λ (x : Show). MayShow layout x n p) (sym shows.0) (value_ok layout p (value_text entry.clauses) n (v none.0)), subst (λ (o : Option ℕ). MayFillFrom layout o n p) (sym shows.1) tt)

pub sound_row : (layout : Layout) (entry : ScreenEntry) (rest : List ScreenEntry) (row : ScreenRow) (content : Content) → All (IsInside layout.total) layout.items → IsScreenRow layout entry rest row content → row.bad ≡ false → IsSound layout row content
sound_row layout entry rest row content inside is h =
    let found = is_some (content_of layout entry.clauses content.picture) in
    let parts = parts_of entry.level entry.clauses row.group found (sym is.bad ∙ h) in
    let colours = colours_of (own_clauses entry.clauses).look parts.look in
    let cells = cells_of (picture_text entry.clauses) (value_text entry.clauses) row.size content.picture found is.seen parts.content (found_has layout entry.clauses content.picture) in
    record {
      front = ap (λ o. is_past_colours o.look.front) is.own ∙ colours.0;
      back = ap (λ o. is_past_colours o.look.back) is.own ∙ colours.1;
      cells = λ g. (
        cells.0,
        cells.1,
        λ few.
            let seen = cells.2 few in
            let fits = content_fits (is_some (picture_text entry.clauses)) layout entry rest row content seen.0 cells.0 inside refl is parts seen.1 seen.2 seen.3 seen.4 in
            (seen.0, seen.1, seen.2, fits.0, fits.1),
      );
    }

pub sound_rows : (layout : Layout) (entries : List ScreenEntry) (rows : List ScreenRow) (contents : List Content) → All (IsInside layout.total) layout.items → AreScreenRows layout entries rows contents → AreSound layout rows contents
sound_rows layout [] rows contents inside h = rw (h.0, h.1) refl
sound_rows layout (entry ∷ rest) [] contents inside h = absurd h
sound_rows layout (entry ∷ rest) (row ∷ rows) [] inside h = absurd h
sound_rows layout (entry ∷ rest) (row ∷ rows) (content ∷ contents) inside h = ((λ b. sound_row layout entry rest row content inside h.0 b), sound_rows layout rest rows contents inside h.1)
