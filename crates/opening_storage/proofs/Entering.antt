-- An item in a table, any item, and all items.
use Rattle.std.proofs.Common.{◌≡◌, ℕ, ◌+◌, ◌*◌, refl, sym, ◌∙◌, ap, subst, arith, Bool, true, false, List, [], ◌∷◌, ◌++◌, length, take, drop, append_assoc, append-nil, sum_by, Option, Some, None}
use Rattle.std.specs.Prelude.{if◌then◌else◌, is_some}
use Rattle.std.specs.List.{AllZip}
use Rattle.std.proofs.lemmas.List.{drop-drop}
use Rattle.data_layout.specs.declared.layout.Item.{Item}
use Rattle.data_layout.specs.declared.layout.Layout.{Layout}
use Rattle.data_layout.specs.Storage.{goes_on, own_size, number_of_times, storage}
use Rattle.data_names.specs.Items.{DataItem}
use Rattle.data_names.specs.Spots.{spot_of, spots_after}
use Rattle.opening_storage.specs.Opening.{Opens, gives_bytes, table_of}
use Rattle.opening_storage.specs.Filling.{Once, Filled, closed, closed_bytes, often, own_bytes, may_give, piece_of, pieces, with_more, added, entered, entered_all}
use Rattle.opening_storage.proofs.Lists.{front_more, front_less, behind}
use Rattle.opening_storage.proofs.Members.{Fact, Facts, given, rows_of, in_value_at, repeated_at, InValue, clear_after}
use Rattle.opening_storage.proofs.Tables.{InTable, Cursor, Standing, Matches, closing}
use Rattle.opening_storage.proofs.ItemLaws.{occurs_in, outer_table, in_the_table, not_nested, offset_inside, inside_forth, inside_back, opens_none}
use Rattle.opening_storage.proofs.Walk.{Step, gives_is, gives_not, in_value_not, is_group, no_bytes, clear_behind, stands_at, repeated_is, gives_outside, groups_outside, tables_outside, in_table_more}

-- ---- an item in a table that gives bytes

behind_table : (b : List ℕ) (start k stride held : ℕ) → drop held (drop (start + k * stride) b) ≡ drop ((start + held) + k * stride) b
behind_table b start k stride held =
    let same : (start + k * stride) + held ≡ (start + held) + k * stride = omega arith in drop-drop held (start + k * stride) b ∙ ap (λ n. drop n b) same

pub gives_inside : (layout : Layout) (total stride : ℕ) (bytes : List ℕ) (once : Once) (before : List DataItem) (x : DataItem) (rest : List DataItem) (ps : List Item) (place : Item)
    → Fact layout.items total before x rest place → Facts layout.items total (before ++ x ∷ []) rest ps → InTable layout.items stride before (x ∷ rest) bytes once
    → repeated_at before x ≡ true → in_value_at before x ≡ false → may_give x ≡ true → occurs_in x ≡ false
    → Step layout stride (record { bytes = bytes; table = Some once }) before x rest place (record { bytes = bytes; table = Some (record { bytes = once.bytes ++ own_bytes x place.picture; times = once.times }) })
gives_inside layout total stride bytes once before x rest ps place f fs t rep v g o =
    let c : List ℕ = own_bytes x place.picture in
    let gives : gives_bytes (spot_of before x rest) ≡ true = gives_is before x rest g v in
    let size : length c ≡ place.size = f.given gives in
    let cover = given before x rest place.size g f.size f.alone in
    let offset : place.offset ≡ length bytes + length once.bytes = offset_inside (rows_of before) x.row place.offset (length bytes + length once.bytes) f.offset (repeated_is before x true rep) t.place in
    let here : goes_on t.table.row x.row ≡ true = in_the_table t.before t.table t.later x t.outside t.members t.plain (subst (λ xs. repeated_at xs x ≡ true) t.parts rep) in
    let table : table_of (spot_of before x rest) ≡ Some t.table =
    ap (λ xs. table_of (spot_of xs x rest)) t.parts ∙ outer_table t.before t.table t.later x rest t.outside t.members t.plain t.occurs here in
    let next : InTable layout.items stride (before ++ x ∷ cover.ms) cover.ns bytes (record { bytes = once.bytes ++ c; times = once.times }) =
    in_table_more layout.items total stride before x cover.ms cover.ns ps bytes once c (subst (λ xs. InTable layout.items stride before (x ∷ xs) bytes once) cover.parts t) rep o cover.all
    (subst (λ xs. Facts layout.items total (before ++ x ∷ []) xs ps) cover.parts fs) (λ p. size ∙ cover.once p) in
    record {
      ms = cover.ms;
      ns = cover.ns;
      parts = cover.parts;
      in_value = cover.in_value;
      after = stride;
      stands = stands_at layout.items stride before x cover.ms cover.ns (record { bytes = bytes; table = Some (record { bytes = once.bytes ++ c; times = once.times }) })
          (record { clear = clear_after before x cover.ms cover.ns v cover.all cover.leaves; cursor = next });
      forth = λ b m h. (
        m.0,
        λ k l.
            (let law : take place.size (drop (place.offset + k * stride) b) ≡ c = inside_forth layout b (spot_of before x rest) t.table place once.times stride table gives t.times t.far h k l in
            let part : take (length c) (drop (length once.bytes) (drop (length bytes + k * stride) b)) ≡ c =
            ap (take (length c)) (behind_table b (length bytes) k stride (length once.bytes)) ∙ ap (λ n. take n (drop ((length bytes + length once.bytes) + k * stride) b)) size
            ∙ ap (λ n. take place.size (drop (n + k * stride) b)) (sym offset) ∙ law in
            front_more (drop (length bytes + k * stride) b) once.bytes c (m.1 k l) part),
      );
      back = λ b m. (
        (m.0, λ k l. front_less (drop (length bytes + k * stride) b) once.bytes c (m.1 k l)),
        inside_back layout b (spot_of before x rest) t.table place once.times stride table t.times t.far
            (λ k l.
            ap (λ n. take place.size (drop (n + k * stride) b)) offset ∙ sym (ap (λ n. take n (drop ((length bytes + length once.bytes) + k * stride) b)) size)
            ∙ sym (ap (take (length c)) (behind_table b (length bytes) k stride (length once.bytes))) ∙ behind (drop (length bytes + k * stride) b) once.bytes c (m.1 k l)),
      );
    }

pub groups_inside : (layout : Layout) (total stride : ℕ) (bytes : List ℕ) (once : Once) (before : List DataItem) (x : DataItem) (rest : List DataItem) (ps : List Item) (place : Item)
    → Fact layout.items total before x rest place → Facts layout.items total (before ++ x ∷ []) rest ps → InTable layout.items stride before (x ∷ rest) bytes once
    → repeated_at before x ≡ true → in_value_at before x ≡ false → may_give x ≡ false → occurs_in x ≡ false
    → Step layout stride (record { bytes = bytes; table = Some once }) before x rest place (record { bytes = bytes; table = Some once })
groups_inside layout total stride bytes once before x rest ps place f fs t rep v g o =
    let parts = is_group x g in
    let none : length {A = ℕ} [] ≡ own_size x.row + sum_by own_size [] = sym (ap (λ n. n + 0) (no_bytes x.row parts.0)) in
    let more : InTable layout.items stride (before ++ x ∷ []) rest bytes (record { bytes = once.bytes ++ []; times = once.times }) =
    in_table_more layout.items total stride before x [] rest ps bytes once [] t rep o refl fs (λ p. none) in
    let next : InTable layout.items stride (before ++ x ∷ []) rest bytes once =
    subst (λ xs. InTable layout.items stride (before ++ x ∷ []) rest bytes (record { bytes = xs; times = once.times })) (append-nil once.bytes) more in
    record {
      ms = [];
      ns = rest;
      parts = refl;
      in_value = tt;
      after = stride;
      stands = stands_at layout.items stride before x [] rest (record { bytes = bytes; table = Some once }) (record { clear = clear_behind before x rest v parts.1; cursor = next });
      forth = λ b m h. m;
      back = λ b m. (m, opens_none layout b (spot_of before x rest) place (gives_not before x rest g));
    }

-- ---- an item that no group with VALUE is around

added_given : (filled : Filled) (x : DataItem) (v r : Bool) (place : Item) → may_give x ≡ true
    → added filled (piece_of v r x place.picture) ≡ with_more filled.bytes filled.table (often (number_of_times x.row.occurs) (own_bytes x place.picture))
added_given filled x v r place g =
    ap (λ b. if b then with_more filled.bytes filled.table (often (number_of_times x.row.occurs) (own_bytes x place.picture))
    else (if is_some x.row.occurs then record { bytes = filled.bytes; table = Some (record { bytes = []; times = number_of_times x.row.occurs }) } else filled)) g

added_other : (filled : Filled) (x : DataItem) (v r o : Bool) (place : Item) → may_give x ≡ false → occurs_in x ≡ o
    → added filled (piece_of v r x place.picture) ≡ (if o then record { bytes = filled.bytes; table = Some (record { bytes = []; times = number_of_times x.row.occurs }) } else filled)
added_other filled x v r o place g e =
    ap (λ b. if b then with_more filled.bytes filled.table (often (number_of_times x.row.occurs) (own_bytes x place.picture))
    else (if is_some x.row.occurs then record { bytes = filled.bytes; table = Some (record { bytes = []; times = number_of_times x.row.occurs }) } else filled)) g
    ∙ ap (λ b. if b then record { bytes = filled.bytes; table = Some (record { bytes = []; times = number_of_times x.row.occurs }) } else filled) e

outside_by : (layout : Layout) (total stride : ℕ) (bytes : List ℕ) (before : List DataItem) (x : DataItem) (rest : List DataItem) (place : Item) (v r g o : Bool)
    → Fact layout.items total before x rest place → length bytes ≡ storage (rows_of before) → repeated_at before x ≡ false → in_value_at before x ≡ false → may_give x ≡ g → occurs_in x ≡ o
    → Step layout stride (record { bytes = bytes; table = None }) before x rest place (added (record { bytes = bytes; table = None }) (piece_of v r x place.picture))
outside_by layout total stride bytes before x rest place v r true o f l out clear g e =
    subst (λ now. Step layout stride (record { bytes = bytes; table = None }) before x rest place now) (sym (added_given (record { bytes = bytes; table = None }) x v r place g))
    (gives_outside layout total stride bytes before x rest place f l out clear g)
outside_by layout total stride bytes before x rest place v r false true f l out clear g e =
    subst (λ now. Step layout stride (record { bytes = bytes; table = None }) before x rest place now) (sym (added_other (record { bytes = bytes; table = None }) x v r true place g e))
    (tables_outside layout total stride bytes before x rest place f l out clear g e)
outside_by layout total stride bytes before x rest place v r false false f l out clear g e =
    subst (λ now. Step layout stride (record { bytes = bytes; table = None }) before x rest place now) (sym (added_other (record { bytes = bytes; table = None }) x v r false place g e))
    (groups_outside layout total stride bytes before x rest place f l out clear g e)

once_of : (o : Option ℕ) → is_some o ≡ false → number_of_times o ≡ 1
once_of None h = refl
once_of (Some n) h = cc

inside_by : (layout : Layout) (total stride : ℕ) (bytes : List ℕ) (once : Once) (before : List DataItem) (x : DataItem) (rest : List DataItem) (ps : List Item) (place : Item) (v r g : Bool)
    → Fact layout.items total before x rest place → Facts layout.items total (before ++ x ∷ []) rest ps → InTable layout.items stride before (x ∷ rest) bytes once
    → repeated_at before x ≡ true → in_value_at before x ≡ false → may_give x ≡ g → occurs_in x ≡ false
    → Step layout stride (record { bytes = bytes; table = Some once }) before x rest place (added (record { bytes = bytes; table = Some once }) (piece_of v r x place.picture))
inside_by layout total stride bytes once before x rest ps place v r true f fs t rep clear g o =
    let one : often (number_of_times x.row.occurs) (own_bytes x place.picture) ≡ own_bytes x place.picture = ap (λ n. often n (own_bytes x place.picture)) (once_of x.row.occurs o) in
    let e : added (record { bytes = bytes; table = Some once }) (piece_of v r x place.picture) ≡ record { bytes = bytes; table = Some (record { bytes = once.bytes ++ own_bytes x place.picture; times = once.times }) } =
    added_given (record { bytes = bytes; table = Some once }) x v r place g
    ∙ ap (λ xs. record { bytes = bytes; table = Some (record { bytes = once.bytes ++ xs; times = once.times }) }) one in
    subst (λ now. Step layout stride (record { bytes = bytes; table = Some once }) before x rest place now) (sym e) (gives_inside layout total stride bytes once before x rest ps place f fs t rep clear g o)
inside_by layout total stride bytes once before x rest ps place v r false f fs t rep clear g o =
    subst (λ now. Step layout stride (record { bytes = bytes; table = Some once }) before x rest place now) (sym (added_other (record { bytes = bytes; table = Some once }) x v r false place g o))
    (groups_inside layout total stride bytes once before x rest ps place f fs t rep clear g o)

-- the state may be seen by its parts
at_parts : (layout : Layout) (stride : ℕ) (filled other : Filled) (before : List DataItem) (x : DataItem) (rest : List DataItem) (place : Item) (now : Filled)
    → ((b : List ℕ) → Matches stride b filled → Matches stride b other) → ((b : List ℕ) → Matches stride b other → Matches stride b filled)
    → Step layout stride other before x rest place now → Step layout stride filled before x rest place now
at_parts layout stride filled other before x rest place now to from s =
    record {
      ms = s.ms;
      ns = s.ns;
      parts = s.parts;
      in_value = s.in_value;
      after = s.after;
      stands = s.stands;
      forth = λ b m h. s.forth b (to b m) h;
      back = λ b m. (let both = s.back b m in (from b both.0, both.1));
    }

repeated_by : (layout : Layout) (total stride : ℕ) (bytes : List ℕ) (table : Option Once) (before : List DataItem) (x : DataItem) (rest : List DataItem) (ps : List Item) (place : Item) (v r : Bool)
    → Fact layout.items total before x rest place → Facts layout.items total (before ++ x ∷ []) rest ps → Cursor layout.items stride before (x ∷ rest) bytes table
    → repeated_at before x ≡ true → in_value_at before x ≡ false
    → Step layout stride (record { bytes = bytes; table = table }) before x rest place (added (record { bytes = bytes; table = table }) (piece_of v r x place.picture))
repeated_by layout total stride bytes None before x rest ps place v r f fs c rep clear = let never : true ≡ false = sym rep ∙ c.1 in absurd (cc never)
repeated_by layout total stride bytes (Some once) before x rest ps place v r f fs c rep clear =
    inside_by layout total stride bytes once before x rest ps place v r (may_give x) f fs c rep clear refl (not_nested (rows_of before) x.row f.level (repeated_is before x true rep))

entered_by : (layout : Layout) (total stride : ℕ) (filled : Filled) (before : List DataItem) (x : DataItem) (rest : List DataItem) (ps : List Item) (place : Item) (v r rep : Bool)
    → Fact layout.items total before x rest place → Facts layout.items total (before ++ x ∷ []) rest ps → Standing layout.items stride before (x ∷ rest) filled
    → repeated_at before x ≡ rep → Step layout stride filled before x rest place (added (if rep then filled else closed filled) (piece_of v r x place.picture))
entered_by layout total stride filled before x rest ps place v r true f fs s rep =
    repeated_by layout total stride filled.bytes filled.table before x rest ps place v r f fs s.cursor rep s.clear
entered_by layout total stride filled before x rest ps place v r false f fs s rep =
    let c = closing layout.items stride before (x ∷ rest) filled s rep in
    at_parts layout stride filled (closed filled) before x rest place (added (closed filled) (piece_of v r x place.picture)) c.forth c.back
    (outside_by layout total stride (closed_bytes filled.bytes filled.table) before x rest place v r (may_give x) (occurs_in x) f c.size rep s.clear refl refl)

pub enters : (layout : Layout) (total stride : ℕ) (filled : Filled) (before : List DataItem) (x : DataItem) (rest : List DataItem) (ps : List Item) (place : Item)
    → Fact layout.items total before x rest place → Facts layout.items total (before ++ x ∷ []) rest ps → Standing layout.items stride before (x ∷ rest) filled
    → Step layout stride filled before x rest place (entered filled (piece_of (in_value_at before x) (repeated_at before x) x place.picture))
enters layout total stride filled before x rest ps place f fs s =
    let step = entered_by layout total stride filled before x rest ps place (in_value_at before x) (repeated_at before x) (repeated_at before x) f fs s refl in
    let e : entered filled (piece_of (in_value_at before x) (repeated_at before x) x place.picture)
    ≡ added (if repeated_at before x then filled else closed filled) (piece_of (in_value_at before x) (repeated_at before x) x place.picture) =
    ap (λ b. if b then filled else added (if repeated_at before x then filled else closed filled) (piece_of (in_value_at before x) (repeated_at before x) x place.picture)) s.clear in
    subst (λ now. Step layout stride filled before x rest place now) (sym e) step

-- an item in a group with VALUE
pub passes : (layout : Layout) (stride : ℕ) (filled : Filled) (before : List DataItem) (x : DataItem) (ms ns : List DataItem) (place : Item) → in_value_at before x ≡ true → InValue (before ++ x ∷ []) ms
    → Standing layout.items stride (before ++ x ∷ ms) ns filled
    → Step layout stride filled before x (ms ++ ns) place (entered filled (piece_of (in_value_at before x) (repeated_at before x) x place.picture))
passes layout stride filled before x ms ns place v vs s =
    let e : entered filled (piece_of (in_value_at before x) (repeated_at before x) x place.picture) ≡ filled =
    ap (λ b. if b then filled else added (if repeated_at before x then filled else closed filled) (piece_of (in_value_at before x) (repeated_at before x) x place.picture)) v in
    let step : Step layout stride filled before x (ms ++ ns) place filled =
    record {
      ms = ms;
      ns = ns;
      parts = refl;
      in_value = vs;
      after = stride;
      stands = stands_at layout.items stride before x ms ns filled s;
      forth = λ b m h. m;
      back = λ b m. (m, opens_none layout b (spot_of before x (ms ++ ns)) place (in_value_not before x (ms ++ ns) v));
    } in
    subst (λ now. Step layout stride filled before x (ms ++ ns) place now) (sym e) step

-- ---- all items

pub record Outcome (layout : Layout) (stride : ℕ) (filled : Filled) (before rest : List DataItem) (ps : List Item) (end : List ℕ) : Type 0 where
  pub size : length end ≡ storage (rows_of (before ++ rest))
  pub forth : (b : List ℕ) → Matches stride b filled → AllZip (Opens layout b) (spots_after before rest) ps → take (length end) b ≡ end
  pub back : (b : List ℕ) → take (length end) b ≡ end → Matches stride b filled × AllZip (Opens layout b) (spots_after before rest) ps

abbrev pub end_of : Filled → List DataItem → List DataItem → List Item → List ℕ
end_of filled before rest ps = (closed (entered_all filled (pieces (spots_after before rest) ps))).bytes

next_step : (layout : Layout) (total stride : ℕ) (filled : Filled) (before : List DataItem) (x : DataItem) (rest ms ns : List DataItem) (ps : List Item) (place : Item)
    → Fact layout.items total before x rest place → Facts layout.items total (before ++ x ∷ []) rest ps → x ∷ rest ≡ ms ++ ns → InValue before ms → Standing layout.items stride (before ++ ms) ns filled
    → Step layout stride filled before x rest place (entered filled (piece_of (in_value_at before x) (repeated_at before x) x place.picture))
next_step layout total stride filled before x rest [] ns ps place f fs e v s =
    let here : Standing layout.items stride before (x ∷ rest) filled =
    subst (λ xs. Standing layout.items stride xs (x ∷ rest) filled) (append-nil before) (subst (λ xs. Standing layout.items stride (before ++ []) xs filled) (sym e) s) in
    enters layout total stride filled before x rest ps place f fs here
next_step layout total stride filled before x rest (m ∷ ms) ns ps place f fs e v s =
    let first : m ≡ x = cc in
    let others : ms ++ ns ≡ rest = cc in
    let here : Standing layout.items stride (before ++ x ∷ ms) ns filled = subst (λ y. Standing layout.items stride (before ++ y ∷ ms) ns filled) first s in
    let value : in_value_at before x ≡ true = subst (λ y. in_value_at before y ≡ true) first v.0 in
    let values : InValue (before ++ x ∷ []) ms = subst (λ y. InValue (before ++ y ∷ []) ms) first v.1 in
    subst (λ xs. Step layout stride filled before x xs place (entered filled (piece_of (in_value_at before x) (repeated_at before x) x place.picture))) others
    (passes layout stride filled before x ms ns place value values here)

none_left : (ms ns : List DataItem) → [] ≡ ms ++ ns → (ms ≡ []) × (ns ≡ [])
none_left [] ns e = (refl, sym e)
none_left (m ∷ ms) ns e = absurd (cc e)

pub comes_out : (layout : Layout) (total stride : ℕ) (filled : Filled) (before rest ms ns : List DataItem) (ps : List Item) → Facts layout.items total before rest ps → rest ≡ ms ++ ns → InValue before ms
    → Standing layout.items stride (before ++ ms) ns filled → Outcome layout stride filled before rest ps (end_of filled before rest ps)
comes_out layout total stride filled before [] ms ns [] fs e v s =
    let none = none_left ms ns e in
    let here : Standing layout.items stride (before ++ []) [] filled =
    subst (λ xs. Standing layout.items stride (before ++ xs) [] filled) none.0 (subst (λ xs. Standing layout.items stride (before ++ ms) xs filled) none.1 s) in
    let c = closing layout.items stride (before ++ []) [] filled here tt in
    record { size = c.size; forth = λ b m h. c.forth b m; back = λ b m. (c.back b m, tt) }
comes_out layout total stride filled before [] ms ns (p ∷ ps) fs e v s = absurd fs
comes_out layout total stride filled before (x ∷ rest) ms ns [] fs e v s = absurd fs
comes_out layout total stride filled before (x ∷ rest) ms ns (place ∷ ps) fs e v s =
    let step = next_step layout total stride filled before x rest ms ns ps place fs.0 fs.1 e v s in
    let later = comes_out layout total step.after (entered filled (piece_of (in_value_at before x) (repeated_at before x) x place.picture)) (before ++ x ∷ []) rest step.ms step.ns ps fs.1 step.parts step.in_value step.stands in
    record {
      size = later.size ∙ ap (λ xs. storage (rows_of xs)) (append_assoc before (x ∷ []) rest);
      forth = λ b m h. later.forth b (step.forth b m h.0) h.1;
      back = λ b m. (let two = later.back b m in let one = step.back b two.0 in (one.0, (one.1, two.1)));
    }
