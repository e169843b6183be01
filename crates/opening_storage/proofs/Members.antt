-- What an item that gives bytes covers: itself, and the members of a group with VALUE.
use Rattle.std.proofs.Common.{◌≡◌, ℕ, ◌+◌, ◌*◌, ◌≤◌, ◌||◌, refl, sym, ◌∙◌, ap, subst, arith, Bool, true, false, cond, List, [], ◌∷◌, ◌++◌, map, append_assoc, sum_by, Some}
use Rattle.std.specs.Prelude.{filter, if◌then◌else◌, is_some, slice_get, length, not}
use Rattle.std.specs.List.{list_any, list_all}
use Rattle.std.proofs.lemmas.List.{map-append}
use Rattle.std.proofs.lemmas.List.Sums.{take_while-cons}
use Rattle.std.proofs.lemmas.List.Folds.{list_any-append}
use Rattle.data_layout.specs.declared.row.Row.{Row}
use Rattle.data_layout.specs.declared.layout.Item.{Item}
use Rattle.data_layout.specs.Storage.{goes_on, own_size, number_of_times, storage, members}
use Rattle.data_layout.specs.Faults.{is_bad_level}
use Rattle.data_layout.specs.Layout.{IsOffset, size_of}
use Rattle.data_names.specs.Items.{DataItem}
use Rattle.data_names.specs.Spots.{open_after, around, has_value, spot_of}
use Rattle.opening_storage.specs.Opening.{gives_bytes}
use Rattle.opening_storage.specs.Filling.{may_give, own_bytes}
use Rattle.opening_storage.proofs.Groups.{both, both_are, clear_after_group, around_inside}
use Rattle.opening_storage.proofs.Sums.{all-map, repeated_rows, has_occurs, bytes_of_one, bytes_of_group, plain_bytes}

abbrev pub row_of : DataItem → Row
row_of item = item.row

abbrev pub rows_of : List DataItem → List Row
rows_of items = map (λ (item : DataItem). item.row) items

-- the groups that an item behind others is in
abbrev pub groups_at : List DataItem → DataItem → List DataItem
groups_at before x = around (λ (item : DataItem). item.row) before x

abbrev pub in_value_at : List DataItem → DataItem → Bool
in_value_at before x = list_any has_value (groups_at before x)

abbrev pub repeated_at : List DataItem → DataItem → Bool
repeated_at before x = list_any (λ (group : DataItem). is_some group.row.occurs) (groups_at before x)

-- no group with VALUE is around the next item
abbrev pub Clear : List DataItem → List DataItem → Type 0
Clear before [] = Unit {0}
Clear before (y ∷ next) = in_value_at before y ≡ false

-- the next item stands in no table
abbrev pub Outside : List DataItem → List DataItem → Type 0
Outside before [] = Unit {0}
Outside before (y ∷ next) = repeated_at before y ≡ false

-- the next item is no member of the group
abbrev pub Leaves : Row → List DataItem → Type 0
Leaves g [] = Unit {0}
Leaves g (y ∷ next) = goes_on g y.row ≡ false

-- a group with VALUE is around each of these items
abbrev pub InValue : List DataItem → List DataItem → Type 0
InValue before [] = Unit {0}
InValue before (m ∷ ms) = (in_value_at before m ≡ true) × InValue (before ++ m ∷ []) ms

-- what is known of an item and its place
pub record Fact (places : List Item) (total : ℕ) (before : List DataItem) (x : DataItem) (rest : List DataItem) (place : Item) : Type 0 where
  pub offset : IsOffset (rows_of before) x.row place.offset
  pub size : place.size ≡ size_of x.row (rows_of rest)
  pub level : is_bad_level (rows_of before) x.row ≡ false
  pub numbered : slice_get places x.row.number ≡ Some place
  pub alone : x.row.group ≡ false → Leaves x.row rest
  pub within : place.offset + place.size ≤ total
  pub given : gives_bytes (spot_of before x rest) ≡ true → length (own_bytes x place.picture) ≡ place.size

abbrev pub Facts : List Item → ℕ → List DataItem → List DataItem → List Item → Type 0
Facts places total before [] [] = Unit {0}
Facts places total before [] (p ∷ ps) = ⊥
Facts places total before (x ∷ rest) [] = ⊥
Facts places total before (x ∷ rest) (p ∷ ps) = Fact places total before x rest p × Facts places total (before ++ x ∷ []) rest ps

-- ---- the members of a group and what comes behind them

pub record Split (g : Row) (rest : List DataItem) : Type 0 where
  pub ms : List DataItem
  pub ns : List DataItem
  pub parts : rest ≡ ms ++ ns
  pub all : list_all (λ (m : DataItem). goes_on g m.row) ms ≡ true
  pub leaves : Leaves g ns
  pub members_are : members g (rows_of rest) ≡ rows_of ms

more_split : (g : Row) (x : DataItem) (rest : List DataItem) (b : Bool) → goes_on g x.row ≡ b → Split g rest → Split g (x ∷ rest)
more_split g x rest true e s =
    record {
      ms = x ∷ s.ms;
      ns = s.ns;
      parts = ap (λ xs. x ∷ xs) s.parts;
      all = both_are (goes_on g x.row) (list_all (λ (m : DataItem). goes_on g m.row) s.ms) e s.all;
      leaves = s.leaves;
      members_are = take_while-cons (goes_on g) x.row (rows_of rest) ∙ ap (λ b. cond b (x.row ∷ members g (rows_of rest)) []) e ∙ ap (λ xs. x.row ∷ xs) s.members_are;
    }
more_split g x rest false e s =
    record {
      ms = [];
      ns = x ∷ rest;
      parts = refl;
      all = refl;
      leaves = e;
      members_are = take_while-cons (goes_on g) x.row (rows_of rest) ∙ ap (λ b. cond b (x.row ∷ members g (rows_of rest)) []) e;
    }

pub split : (g : Row) (rest : List DataItem) → Split g rest
split g [] = record { ms = []; ns = []; parts = refl; all = refl; leaves = tt; members_are = refl }
split g (x ∷ rest) = more_split g x rest (goes_on g x.row) refl (split g rest)

-- all rows that pass up to the first that does not
pub front_is : (g : Row) (ms ns : List DataItem) → list_all (λ (m : DataItem). goes_on g m.row) ms ≡ true → Leaves g ns → members g (rows_of ms ++ rows_of ns) ≡ rows_of ms
front_is g [] [] h l = refl
front_is g [] (y ∷ ns) h l = take_while-cons (goes_on g) y.row (rows_of ns) ∙ ap (λ b. cond b (y.row ∷ members g (rows_of ns)) []) l
front_is g (m ∷ ms) ns h l =
    let parts = both (goes_on g m.row) (list_all (λ (x : DataItem). goes_on g x.row) ms) h in
    take_while-cons (goes_on g) m.row (rows_of ms ++ rows_of ns) ∙ ap (λ b. cond b (m.row ∷ members g (rows_of ms ++ rows_of ns)) []) parts.0
    ∙ ap (λ xs. m.row ∷ xs) (front_is g ms ns parts.1 l)

-- ---- what comes behind is neither in the table nor in the VALUE

pub outside_after : (before : List DataItem) (x : DataItem) (ms ns : List DataItem) → repeated_at before x ≡ false → list_all (λ (m : DataItem). goes_on x.row m.row) ms ≡ true → Leaves x.row ns
    → Outside (before ++ x ∷ ms) ns
outside_after before x ms [] h all l = tt
outside_after before x ms (y ∷ ns) h all l = clear_after_group (λ (item : DataItem). item.row) (λ (g : DataItem). is_some g.row.occurs) before x ms y h all l

pub clear_after : (before : List DataItem) (x : DataItem) (ms ns : List DataItem) → in_value_at before x ≡ false → list_all (λ (m : DataItem). goes_on x.row m.row) ms ≡ true → Leaves x.row ns
    → Clear (before ++ x ∷ ms) ns
clear_after before x ms [] h all l = tt
clear_after before x ms (y ∷ ns) h all l = clear_after_group (λ (item : DataItem). item.row) has_value before x ms y h all l

-- ---- members of a group with VALUE are in it

any_chosen : {A : Type 0} (p q : A → Bool) (xs : List A) (x : A) (ys : List A) → q x ≡ true → p x ≡ true → list_any p (filter q xs ++ filter q (x ∷ ys)) ≡ true
any_chosen p q xs x ys h k =
    let first : filter q (x ∷ ys) ≡ x ∷ filter q ys = ap (λ b. if b then x ∷ filter q ys else filter q ys) h in
    list_any-append p (filter q xs) (filter q (x ∷ ys)) ∙ ap (λ zs. list_any p (filter q xs) || list_any p zs) first ∙ ap (λ b. list_any p (filter q xs) || (b || list_any p (filter q ys))) k
    ∙ or_true (list_any p (filter q xs))
  where
    or_true : (b : Bool) → (b || true) ≡ true
    or_true true = refl
    or_true false = refl

pub in_value_after : (before : List DataItem) (x : DataItem) (pre : List DataItem) (m : DataItem) → has_value x ≡ true → list_all (λ (y : DataItem). goes_on x.row y.row) pre ≡ true
    → goes_on x.row m.row ≡ true → in_value_at (before ++ x ∷ pre) m ≡ true
in_value_after before x pre m v all h =
    ap (list_any has_value) (around_inside (λ (item : DataItem). item.row) before x pre m all)
    ∙ any_chosen has_value (λ (g : DataItem). goes_on g.row m.row) (groups_at before x) x (open_after (λ (item : DataItem). item.row) pre) h v

all_more : (g : Row) (pre : List DataItem) (m : DataItem) → list_all (λ (y : DataItem). goes_on g y.row) pre ≡ true → goes_on g m.row ≡ true → list_all (λ (y : DataItem). goes_on g y.row) (pre ++ m ∷ []) ≡ true
all_more g [] m h k = both_are (goes_on g m.row) true k refl
all_more g (x ∷ pre) m h k =
    let parts = both (goes_on g x.row) (list_all (λ (y : DataItem). goes_on g y.row) pre) h in
    both_are (goes_on g x.row) (list_all (λ (y : DataItem). goes_on g y.row) (pre ++ m ∷ [])) parts.0 (all_more g pre m parts.1 k)

all_in_value : (before : List DataItem) (x : DataItem) (pre ms : List DataItem) → has_value x ≡ true → list_all (λ (y : DataItem). goes_on x.row y.row) pre ≡ true
    → list_all (λ (y : DataItem). goes_on x.row y.row) ms ≡ true → InValue (before ++ x ∷ pre) ms
all_in_value before x pre [] v all h = tt
all_in_value before x pre (m ∷ ms) v all h =
    let parts = both (goes_on x.row m.row) (list_all (λ (y : DataItem). goes_on x.row y.row) ms) h in (
      in_value_after before x pre m v all parts.0,
      subst (λ xs. InValue xs ms) (sym (append_assoc before (x ∷ pre) (m ∷ []))) (all_in_value before x (pre ++ m ∷ []) ms v (all_more x.row pre m all parts.0) parts.1),
    )

-- ---- an item that gives bytes

pub record Given (before : List DataItem) (x : DataItem) (rest : List DataItem) (size : ℕ) : Type 0 where
  pub ms : List DataItem
  pub ns : List DataItem
  pub parts : rest ≡ ms ++ ns
  pub all : list_all (λ (m : DataItem). goes_on x.row m.row) ms ≡ true
  pub leaves : Leaves x.row ns
  pub in_value : InValue (before ++ x ∷ []) ms
  pub bytes : repeated_at before x ≡ false → storage (rows_of (before ++ x ∷ ms)) ≡ storage (rows_of before) + number_of_times x.row.occurs * size
  pub once : list_any has_occurs (rows_of ms) ≡ false → size ≡ own_size x.row + sum_by own_size (rows_of ms)

rows_with : (before : List DataItem) (x : DataItem) (ms : List DataItem) → rows_of (before ++ x ∷ ms) ≡ rows_of before ++ x.row ∷ rows_of ms
rows_with before x ms = map-append (λ (item : DataItem). item.row) before (x ∷ ms)

given_alone : (before : List DataItem) (x : DataItem) (rest : List DataItem) (size : ℕ) → x.row.group ≡ false → size ≡ size_of x.row (rows_of rest) → Leaves x.row rest → Given before x rest size
given_alone before x rest size e s l =
    let own : size ≡ own_size x.row = s ∙ ap (λ b. if b then storage (members x.row (rows_of rest)) else x.row.size) e ∙ sym (ap (λ b. if b then 0 else x.row.size) e) in
    record {
      ms = [];
      ns = rest;
      parts = refl;
      all = refl;
      leaves = l;
      in_value = tt;
      bytes = λ h. ap storage (rows_with before x []) ∙ bytes_of_one (rows_of before) x.row (sym (repeated_rows (λ (item : DataItem). item.row) before x) ∙ h)
          ∙ ap (λ o. storage (rows_of before) + number_of_times x.row.occurs * o) (sym own);
      once = λ h. own ∙ omega arith;
    }

given_group : (before : List DataItem) (x : DataItem) (rest : List DataItem) (size : ℕ) → x.row.group ≡ true → has_value x ≡ true → size ≡ size_of x.row (rows_of rest) → Split x.row rest → Given before x rest size
given_group before x rest size e v s cut =
    let whole : size ≡ storage (rows_of cut.ms) = s ∙ ap (λ b. if b then storage (members x.row (rows_of rest)) else x.row.size) e ∙ ap storage cut.members_are in
    let none : own_size x.row ≡ 0 = ap (λ b. if b then 0 else x.row.size) e in
    record {
      ms = cut.ms;
      ns = cut.ns;
      parts = cut.parts;
      all = cut.all;
      leaves = cut.leaves;
      in_value = all_in_value before x [] cut.ms v refl cut.all;
      bytes = λ h. ap storage (rows_with before x cut.ms)
          ∙ bytes_of_group (rows_of before) x.row (rows_of cut.ms) (sym (repeated_rows (λ (item : DataItem). item.row) before x) ∙ h) e (all-map (λ (item : DataItem). item.row) (goes_on x.row) cut.ms ∙ cut.all)
          ∙ ap (λ o. storage (rows_of before) + number_of_times x.row.occurs * o) (sym whole);
      once = λ h. let zero_more : sum_by own_size (rows_of cut.ms) ≡ 0 + sum_by own_size (rows_of cut.ms) = omega arith in
          whole ∙ plain_bytes [] (rows_of cut.ms) refl h ∙ zero_more ∙ ap (λ o. o + sum_by own_size (rows_of cut.ms)) (sym none);
    }

given_by : (before : List DataItem) (x : DataItem) (rest : List DataItem) (size : ℕ) (b : Bool) → x.row.group ≡ b → may_give x ≡ true → size ≡ size_of x.row (rows_of rest) → (x.row.group ≡ false → Leaves x.row rest)
    → Given before x rest size
given_by before x rest size true e g s l =
    let v : has_value x ≡ true = sym (ap (λ b. not b || has_value x) e) ∙ g in given_group before x rest size e v s (split x.row rest)
given_by before x rest size false e g s l = given_alone before x rest size e s (l e)

pub given : (before : List DataItem) (x : DataItem) (rest : List DataItem) (size : ℕ) → may_give x ≡ true → size ≡ size_of x.row (rows_of rest) → (x.row.group ≡ false → Leaves x.row rest) → Given before x rest size
given before x rest size g s l = given_by before x rest size x.row.group refl g s l
