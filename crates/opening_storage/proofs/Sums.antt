-- How many bytes groups with their members have, and where the next row of a table lies.
use Rattle.std.proofs.Common.{◌≡◌, ℕ, ◌+◌, ◌*◌, ◌&&◌, ◌||◌, refl, sym, ◌∙◌, ap, arith, inl, inr, Bool, true, false, List, [], ◌∷◌, ◌++◌, map, append_assoc, sum_by, Option, Some, None}
use Rattle.std.specs.Prelude.{filter, if◌then◌else◌, is_some}
use Rattle.std.specs.List.{list_any, list_all}
use Rattle.std.proofs.lemmas.List.Sums.{sum_by-cons}
use Rattle.std.proofs.lemmas.List.Folds.{list_any-append, list_all-append}
use Rattle.data_layout.specs.declared.row.Row.{Row}
use Rattle.data_layout.specs.Storage.{goes_on, opened, groups, times, own_size, number_of_times, bytes_after, storage, is_repeated}
use Rattle.data_layout.proofs.Groups.{opened-push, times-append, storage-append, storage-push, is_repeated-is}
use Rattle.data_layout.proofs.Places.{NextIs, cut_of, repeated_of, next_is}
use Rattle.data_names.specs.Spots.{open_after, around}
use Rattle.data_names.proofs.Opened.{map-filter, list_any-map}
use Rattle.opening_storage.proofs.Groups.{both, both_are, neither, neither_is, open_inside, none_open}

-- ---- entries and their rows

pub all-map : {A : Type 0} (row : A → Row) (p : Row → Bool) (xs : List A) → list_all p (map row xs) ≡ list_all (λ x. p (row x)) xs
all-map row p [] = refl
all-map row p (x ∷ xs) = ap (λ b. p (row x) && b) (all-map row p xs)

opened_step : {A : Type 0} (row : A → Row) (x : A) (xs : List A) (ys : List Row) (b c : Bool) → b ≡ c → map row xs ≡ ys → map row (if b then x ∷ xs else xs) ≡ (if c then row x ∷ ys else ys)
opened_step row x xs ys true c e h = rw (sym e) (ap (λ zs. row x ∷ zs) h)
opened_step row x xs ys false c e h = rw (sym e) h

pub opened_rows : {A : Type 0} (row : A → Row) (xs : List A) → map row (open_after row xs) ≡ opened (map row xs)
opened_rows row [] = refl
opened_rows row (x ∷ xs) =
    opened_step row x (open_after row xs) (opened (map row xs)) (list_all (λ y. goes_on (row x) (row y)) xs) (list_all (goes_on (row x)) (map row xs)) (sym (all-map row (goes_on (row x)) xs)) (opened_rows row xs)

pub around_rows : {A : Type 0} (row : A → Row) (before : List A) (x : A) → map row (around row before x) ≡ groups (map row before) (row x)
around_rows row before x = map-filter row (λ group. goes_on group (row x)) (open_after row before) ∙ ap (filter (λ group. goes_on group (row x))) (opened_rows row before)

pub repeated_rows : {A : Type 0} (row : A → Row) (before : List A) (x : A) → list_any (λ group. is_some (row group).occurs) (around row before x) ≡ is_repeated (map row before) (row x)
repeated_rows row before x =
    sym (list_any-map row (λ group. is_some group.occurs) (around row before x)) ∙ ap (list_any (λ group. is_some group.occurs)) (around_rows row before x) ∙ is_repeated-is (map row before) (row x)

-- ---- rows that are open

map-same : (xs : List Row) → map (λ x. x) xs ≡ xs
map-same [] = refl
map-same (x ∷ xs) = ap (λ ys. x ∷ ys) (map-same xs)

opened_same : (xs : List Row) → open_after (λ x. x) xs ≡ opened xs
opened_same xs = sym (map-same (open_after (λ x. x) xs)) ∙ opened_rows (λ x. x) xs ∙ ap opened (map-same xs)

pub opened_inside : (ahead : List Row) (g : Row) (pre : List Row) → list_all (goes_on g) pre ≡ true → opened (ahead ++ g ∷ pre) ≡ groups ahead g ++ g ∷ opened pre
opened_inside ahead g pre h =
    sym (opened_same (ahead ++ g ∷ pre)) ∙ open_inside (λ x. x) ahead g pre h
    ∙ ap (λ xs. filter (λ group. goes_on group g) xs ++ g ∷ open_after (λ x. x) pre) (opened_same ahead)
    ∙ ap (λ xs. groups ahead g ++ g ∷ xs) (opened_same pre)

-- ---- how often

once_none : (o : Option ℕ) → is_some o ≡ false → number_of_times o ≡ 1
once_none None h = refl
once_none (Some n) h = cc

abbrev pub has_occurs : Row → Bool
has_occurs row = is_some row.occurs

pub times_none : (rows : List Row) → list_any has_occurs rows ≡ false → times rows ≡ 1
times_none [] h = refl
times_none (row ∷ rows) h =
    let parts = neither (has_occurs row) (list_any has_occurs rows) h in
    let one : number_of_times row.occurs ≡ 1 = once_none row.occurs parts.0 in
    let others : times rows ≡ 1 = times_none rows parts.1 in
    rw (one, others) refl

pub times_around : (before : List Row) (row : Row) → is_repeated before row ≡ false → times (groups before row) ≡ 1
times_around before row h = times_none (groups before row) (is_repeated-is before row ∙ h)

-- ---- bytes

spread : (o t n u r : ℕ) → o * (t * (n * u)) + (t * n) * r ≡ (t * n) * (o * u + r)
spread o t n u r = omega arith

pub bytes_inside : (ahead : List Row) (g : Row) (pre later : List Row) → list_all (goes_on g) pre ≡ true → list_all (goes_on g) later ≡ true
    → bytes_after (ahead ++ g ∷ pre) later ≡ (times (groups ahead g) * number_of_times g.occurs) * bytes_after pre later
bytes_inside ahead g pre [] h k = omega arith
bytes_inside ahead g pre (row ∷ later) h k =
    let parts = both (goes_on g row) (list_all (goes_on g) later) k in
    let one : list_all (goes_on g) (pre ++ row ∷ []) ≡ true =
    list_all-append (goes_on g) pre (row ∷ []) ∙ both_are (list_all (goes_on g) pre) (goes_on g row && true) h (both_are (goes_on g row) true parts.0 refl) in
    let more : (ahead ++ g ∷ pre) ++ row ∷ [] ≡ ahead ++ g ∷ (pre ++ row ∷ []) = append_assoc ahead (g ∷ pre) (row ∷ []) in
    let here : times (opened ((ahead ++ g ∷ pre) ++ row ∷ [])) ≡ times (groups ahead g) * (number_of_times g.occurs * times (opened (pre ++ row ∷ []))) =
    ap (λ xs. times (opened xs)) more ∙ ap times (opened_inside ahead g (pre ++ row ∷ []) one) ∙ times-append (groups ahead g) (g ∷ opened (pre ++ row ∷ [])) in
    let behind : bytes_after ((ahead ++ g ∷ pre) ++ row ∷ []) later ≡ (times (groups ahead g) * number_of_times g.occurs) * bytes_after (pre ++ row ∷ []) later =
    ap (λ xs. bytes_after xs later) more ∙ bytes_inside ahead g (pre ++ row ∷ []) later one parts.1 in
    ap (λ t. own_size row * t + bytes_after ((ahead ++ g ∷ pre) ++ row ∷ []) later) here
    ∙ ap (λ r. own_size row * (times (groups ahead g) * (number_of_times g.occurs * times (opened (pre ++ row ∷ [])))) + r) behind
    ∙ spread (own_size row) (times (groups ahead g)) (number_of_times g.occurs) (times (opened (pre ++ row ∷ []))) (bytes_after (pre ++ row ∷ []) later)

-- a row outside tables
pub bytes_of_one : (before : List Row) (row : Row) → is_repeated before row ≡ false → storage (before ++ row ∷ []) ≡ storage before + number_of_times row.occurs * own_size row
bytes_of_one before row h =
    let all : times (opened (before ++ row ∷ [])) ≡ times (groups before row) * (number_of_times row.occurs * 1) = ap times (opened-push before row) ∙ times-append (groups before row) (row ∷ []) in
    let none : times (groups before row) ≡ 1 = times_around before row h in
    let often : times (opened (before ++ row ∷ [])) ≡ number_of_times row.occurs = all ∙ ap (λ t. t * (number_of_times row.occurs * 1)) none ∙ omega arith in
    storage-push before row ∙ ap (λ t. storage before + own_size row * t) often ∙ turned (storage before) (own_size row) (number_of_times row.occurs)
  where
    turned : (s o n : ℕ) → s + o * n ≡ s + n * o
    turned s o n = omega arith

-- a group outside tables with its members
pub bytes_of_group : (before : List Row) (g : Row) (members : List Row) → is_repeated before g ≡ false → g.group ≡ true → list_all (goes_on g) members ≡ true
    → storage (before ++ g ∷ members) ≡ storage before + number_of_times g.occurs * storage members
bytes_of_group before g members h e k =
    let none : own_size g ≡ 0 = ap (λ b. if b then 0 else g.size) e in
    let head : storage (before ++ g ∷ []) ≡ storage before = bytes_of_one before g h ∙ ap (λ o. storage before + number_of_times g.occurs * o) none ∙ omega arith in
    let inside : bytes_after (before ++ g ∷ []) members ≡ (times (groups before g) * number_of_times g.occurs) * storage members = bytes_inside before g [] members refl k in
    let often : (times (groups before g) * number_of_times g.occurs) ≡ number_of_times g.occurs = ap (λ t. t * number_of_times g.occurs) (times_around before g h) ∙ omega arith in
    ap storage (sym (append_assoc before (g ∷ []) members)) ∙ storage-append (before ++ g ∷ []) members
    ∙ ap (λ s. s + bytes_after (before ++ g ∷ []) members) head ∙ ap (λ s. storage before + s) (inside ∙ ap (λ t. t * storage members) often)

none_opened : (xs : List Row) → list_any has_occurs xs ≡ false → list_any has_occurs (opened xs) ≡ false
none_opened xs h = ap (list_any has_occurs) (sym (opened_same xs)) ∙ none_open (λ x. x) has_occurs xs h

-- rows of which none has OCCURS
pub plain_bytes : (before later : List Row) → list_any has_occurs before ≡ false → list_any has_occurs later ≡ false → bytes_after before later ≡ sum_by own_size later
plain_bytes before [] h k = refl
plain_bytes before (row ∷ later) h k =
    let parts = neither (has_occurs row) (list_any has_occurs later) k in
    let one : list_any has_occurs (before ++ row ∷ []) ≡ false =
    list_any-append has_occurs before (row ∷ []) ∙ neither_is (list_any has_occurs before) (has_occurs row || false) h (neither_is (has_occurs row) false parts.0 refl) in
    let often : times (opened (before ++ row ∷ [])) ≡ 1 = times_none (opened (before ++ row ∷ [])) (none_opened (before ++ row ∷ []) one) in
    ap (λ t. own_size row * t + bytes_after (before ++ row ∷ []) later) often
    ∙ ap (λ r. own_size row * 1 + r) (plain_bytes (before ++ row ∷ []) later one parts.1)
    ∙ once_more (own_size row) (sum_by own_size later) ∙ sym (sum_by-cons own_size row later)
  where
    once_more : (o r : ℕ) → o * 1 + r ≡ o + r
    once_more o r = omega arith

-- ---- the next row of a table

place_in : (b : Bool) (next total : ℕ) → b ≡ true → next ≡ (if b then next else total)
place_in b next total h = rw h refl

nothing_twice : (b c : Bool) → b ≡ false → b ≡ true → c ≡ false
nothing_twice b c h k = cc

pub next_more : (before : List Row) (row : Row) (next : ℕ) → NextIs before next → is_repeated before row ≡ true → is_some row.occurs ≡ false → NextIs (before ++ row ∷ []) (next + own_size row)
next_more before row next h rep none =
    next_is before row next (storage before) next (next + own_size row) h refl (place_in (is_repeated before row) next (storage before) rep) (nothing_twice (is_some row.occurs) (is_repeated before row) none) refl

opened_here : (before : List Row) (g : Row) (ahead : List Row) (other : Row) (later : List Row) → is_repeated before g ≡ false → g.group ≡ true → before ++ g ∷ [] ≡ ahead ++ other ∷ later
    → list_all (goes_on other) later ≡ true → is_some other.occurs ≡ true → storage before ≡ storage ahead + sum_by own_size (other ∷ later)
opened_here before g ahead other later h e parts all occurs = elim (cut_of before g ahead other later parts) as (λ _. storage before ≡ storage ahead + sum_by own_size (other ∷ later)) [
  | inl (none, same, last) ↦
      (let size : own_size other ≡ 0 = ap own_size (sym last) ∙ ap (λ b. if b then 0 else g.size) e in
      let some : sum_by own_size (other ∷ later) ≡ own_size other + sum_by own_size later = sum_by-cons own_size other later in
      let nothing : sum_by own_size later ≡ 0 = ap (sum_by own_size) none in
      ap storage same ∙ sym (ap (λ n. storage ahead + n) (some ∙ ap (λ n. n + sum_by own_size later) size ∙ ap (λ n. 0 + n) nothing) ∙ omega arith))
  | inr (inner, ends, whole) ↦
      (let all' : (list_all (goes_on other) inner && (goes_on other g && true)) ≡ true = sym (list_all-append (goes_on other) inner (g ∷ [])) ∙ ap (list_all (goes_on other)) (sym ends) ∙ all in
      let two = both (list_all (goes_on other) inner) (goes_on other g && true) all' in
      let one = both (goes_on other g) true two.1 in
      let rep : is_repeated before g ≡ true = ap (λ xs. is_repeated xs g) whole ∙ repeated_of ahead other inner g two.0 one.0 occurs in
      let never : true ≡ false = sym rep ∙ h in
      absurd (cc never))
]

-- where a table begins
pub next_first : (before : List Row) (g : Row) → is_repeated before g ≡ false → g.group ≡ true → NextIs (before ++ g ∷ []) (storage before)
next_first before g h e ahead other later parts all occurs = opened_here before g ahead other later h e parts all occurs
