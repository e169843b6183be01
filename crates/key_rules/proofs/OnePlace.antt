-- Two items without OCCURS lie at one place exactly where as many items with bytes stand before them and they have as many.
use Rattle.std.proofs.Common.{◌≡◌, ◌∙◌, refl, sym, ap, subst, arith, ℕ, ◌+◌, ◌*◌, ◌≤◌, Bool, true, false, not, ◌&&◌, ◌||◌, cond, List, [], ◌∷◌, ◌++◌, append_assoc, length, map, drop, Option, Some, None}
use Rattle.std.specs.Prelude.{◌==◌, if◌then◌else◌, is_some, option_map, take_while, position}
use Rattle.std.specs.List.{list_any, list_all, filter_map, prefix_len}
use Rattle.std.proofs.Math.Nat.{mul-le-mul_left}
use Rattle.std.proofs.lemmas.Bool.{eqb-true, eqb-false, eq-eqb}
use Rattle.std.proofs.lemmas.List.{map-append, take-append-drop}
use Rattle.std.proofs.lemmas.List.Folds.{list_all-append}
use Rattle.std.proofs.lemmas.List.Sums.{sum_by-cons, sum_by-append, take_while-cons}
use Rattle.cob_base.specs.declared.operands.Reference.{Reference}
use Rattle.data_layout.specs.declared.row.Row.{Row}
use Rattle.data_layout.specs.Storage.{goes_on, opened, members, own_size, number_of_times, times, bytes_after, storage, is_repeated}
use Rattle.data_layout.specs.Layout.{size_of}
use Rattle.data_layout.proofs.Groups.{storage-append}
use Rattle.data_layout.proofs.Places.{times-some}
use Rattle.data_names.specs.Items.{DataItem}
use Rattle.data_names.specs.Facts.{has_bytes, count_with_bytes, count_inside}
use Rattle.data_names.specs.Spots as n
use Rattle.data_names.specs.Spots.{Spot, rows_before, rows_after, bytes_of, is_table}
use Rattle.data_names.specs.References.{found, only_one, matching, is_match}
use Rattle.data_names.proofs.Cuts.{spot_cut, repeated-is}
use Rattle.key_rules.specs.KeyPlaces.{is_unsized_under, is_of_record, has_place, placed_key, same_place, has_twins}
use Rattle.key_rules.specs.SeenKeys.{span_of, is_sized_before, seen_key, span_of_key, same_span}
use Rattle.key_rules.proofs.SizedBefore.{sized_before}

-- ---- tests

both : (a b : Bool) → (a && b) ≡ true → (a ≡ true) × (b ≡ true)
both true b h = (refl, h)
both false b h = cc h

neither : (a b : Bool) → (a || b) ≡ false → (a ≡ false) × (b ≡ false)
neither false false h = (refl, refl)
neither false true h = cc h
neither true b h = cc h

by_truth : (p q : Bool) → (p ≡ true → q ≡ true) → (q ≡ true → p ≡ true) → p ≡ q
by_truth true q h k = sym (h refl)
by_truth false true h k = k refl
by_truth false false h k = refl

-- ---- two fronts of one list

-- two numbers are the same exactly where two others are
record Alike (a b c d : ℕ) : Type 0 where
  forth : a ≡ b → c ≡ d
  back : c ≡ d → a ≡ b

turned : (a b c d : ℕ) → Alike a b c d → Alike b a d c
turned a b c d h = record { forth = λ e. sym (h.forth (sym e)); back = λ e. sym (h.back (sym e)) }

added : (k j a b c d : ℕ) → Alike a b c d → Alike (k + a) (k + b) (j + c) (j + d)
added k j a b c d h = record {
  forth = λ e. (let same : a ≡ b = omega (arith, e) in omega (arith, h.forth same));
  back = λ e. (let same : c ≡ d = omega (arith, e) in omega (arith, h.back same));
}

counted-cons : (row : Row) (rows : List Row) → count_with_bytes (row ∷ rows) ≡ (if has_bytes row then 1 else 0) + count_with_bytes rows
counted-cons row rows = sum_by-cons (λ (one : Row). cond (has_bytes one) 1 0) row rows

counted-append : (a b : List Row) → count_with_bytes (a ++ b) ≡ count_with_bytes a + count_with_bytes b
counted-append a b = sum_by-append (λ (one : Row). cond (has_bytes one) 1 0) a b

not_zero : (b : Bool) (n : ℕ) → (n == 0) ≡ b → not b ≡ true → 1 ≤ n
not_zero true n e h = cc h
not_zero false n e h = let some = eqb-false n 0 e in grind (arith, some)

zero_is : (b : Bool) (n : ℕ) → (n == 0) ≡ b → not b ≡ false → n ≡ 0
zero_is true n e h = eqb-true n 0 e
zero_is false n e h = cc h

none_step : (b : Bool) (row : Row) (t r c : ℕ) → has_bytes row ≡ b → 1 ≤ t → Alike 0 r 0 c → Alike 0 (own_size row * t + r) 0 ((if b then 1 else 0) + c)
none_step true row t r c e h k =
    let some : 1 ≤ own_size row = not_zero (own_size row == 0) (own_size row) refl e in
    let more : own_size row * 1 ≤ own_size row * t = mul-le-mul_left (own_size row) h in
    record { forth = λ q. absurd (omega (arith, some, more, q)); back = λ q. absurd (omega (arith, q)) }
none_step false row t r c e h k =
    let none : own_size row ≡ 0 = zero_is (own_size row == 0) (own_size row) refl e in
    rw none (record {
      forth = λ q. (let left : 0 ≡ r = omega (arith, q) in omega (arith, k.forth left));
      back = λ q. (let left : 0 ≡ c = omega (arith, q) in omega (arith, k.back left));
    })

none_alike : (before rows : List Row) → Alike 0 (bytes_after before rows) 0 (count_with_bytes rows)
none_alike before [] = record { forth = λ e. refl; back = λ e. refl }
none_alike before (row ∷ rows) =
    subst (λ (n : ℕ). Alike 0 (bytes_after before (row ∷ rows)) 0 n) (sym (counted-cons row rows))
    (none_step (has_bytes row) row (times (opened (before ++ row ∷ []))) (bytes_after (before ++ row ∷ []) rows) (count_with_bytes rows) refl (times-some (opened (before ++ row ∷ []))) (none_alike (before ++ row ∷ []) rows))

-- two fronts of one list have as many bytes exactly where they have as many items with bytes
fronts_alike : (before a b x y : List Row) → a ++ x ≡ b ++ y → Alike (bytes_after before a) (bytes_after before b) (count_with_bytes a) (count_with_bytes b)
fronts_alike before [] b x y e = none_alike before b
fronts_alike before (r ∷ a) [] x y e = turned 0 (bytes_after before (r ∷ a)) 0 (count_with_bytes (r ∷ a)) (none_alike before (r ∷ a))
fronts_alike before (r ∷ a) (s ∷ b) x y e =
    let same : r ≡ s = cc e in
    let rest : a ++ x ≡ b ++ y = cc e in
    let bytes : ℕ = own_size r * times (opened (before ++ r ∷ [])) in
    let later = added bytes (if has_bytes r then 1 else 0) _ _ _ _ (fronts_alike (before ++ r ∷ []) a b x y rest) in
    subst (λ (z : Row). Alike (bytes_after before (r ∷ a)) (bytes_after before (z ∷ b)) (count_with_bytes (r ∷ a)) (count_with_bytes (z ∷ b))) same
    (subst (λ (n : ℕ). Alike (bytes_after before (r ∷ a)) (bytes_after before (r ∷ b)) n (count_with_bytes (r ∷ b))) (sym (counted-cons r a))
    (subst (λ (n : ℕ). Alike (bytes_after before (r ∷ a)) (bytes_after before (r ∷ b)) ((if has_bytes r then 1 else 0) + count_with_bytes a) n) (sym (counted-cons r b)) later))

-- ---- the end of an item without OCCURS in or above it

once : (o : Option ℕ) → is_some o ≡ false → number_of_times o ≡ 1
once None e = refl
once (Some number) e = cc e

-- no group around the row has OCCURS, nor one less of them
fewer : (b : Bool) (test : Row → Bool) (x : Row) (xs : List Row) → list_any test (if b then x ∷ xs else xs) ≡ false → list_any test xs ≡ false
fewer true test x xs h = (neither (test x) (list_any test xs) h).1
fewer false test x xs h = h

and_last : (a b : Bool) → a ≡ true → (a && b) ≡ false → b ≡ false
and_last true b e h = h
and_last false b e h = cc e

open_once : (b : Bool) (g row : Row) (before rows others : List Row) → list_all (goes_on g) before ≡ b → list_all (goes_on g) (before ++ row ∷ rows) ≡ true
    → list_any (λ (group : Row). goes_on group row && is_some group.occurs) (if b then g ∷ others else others) ≡ false → number_of_times g.occurs ≡ 1
open_once false g row before rows others e all h = let parts = both (list_all (goes_on g) before) _ (sym (list_all-append (goes_on g) before (row ∷ rows)) ∙ all) in cc (e, parts.0)
open_once true g row before rows others e all h =
    let parts = both (list_all (goes_on g) before) (list_all (goes_on g) (row ∷ rows)) (sym (list_all-append (goes_on g) before (row ∷ rows)) ∙ all) in
    let here = (both (goes_on g row) (list_all (goes_on g) rows) parts.1).0 in
    once g.occurs (and_last (goes_on g row) (is_some g.occurs) here (neither (goes_on g row && is_some g.occurs) _ h).0)

times_step : (b : Bool) (g : Row) (rows : List Row) (n : ℕ) → (b ≡ true → number_of_times g.occurs ≡ 1) → times rows ≡ n → times (if b then g ∷ rows else rows) ≡ n
times_step true g rows n h e = rw (h refl, e) (omega arith)
times_step false g rows n h e = e

-- what is open behind such an item, within it, occurs as often as by itself
times_inside : (before : List Row) (row : Row) (rows : List Row) → is_repeated before row ≡ false → is_some row.occurs ≡ false → list_all (goes_on row) rows ≡ true
    → times (opened (before ++ row ∷ rows)) ≡ times (opened rows)
times_inside [] row rows h o all = times_step (list_all (goes_on row) rows) row (opened rows) _ (λ _. once row.occurs o) refl
times_inside (g ∷ before) row rows h o all =
    times_step (list_all (goes_on g) (before ++ row ∷ rows)) g (opened (before ++ row ∷ rows)) _
    (λ open_is. open_once (list_all (goes_on g) before) g row before rows (opened before) refl open_is h)
    (times_inside before row rows (fewer (list_all (goes_on g) before) (λ (group : Row). goes_on group row && is_some group.occurs) g (opened before) h) o all)

-- and it has as many bytes there as by itself
bytes_inside : (before : List Row) (row : Row) (front rest : List Row) → is_repeated before row ≡ false → is_some row.occurs ≡ false → list_all (goes_on row) (front ++ rest) ≡ true
    → bytes_after (before ++ row ∷ front) rest ≡ bytes_after front rest
bytes_inside before row front [] h o all = refl
bytes_inside before row front (x ∷ rest) h o all =
    let longer : front ++ x ∷ rest ≡ (front ++ x ∷ []) ++ rest = sym (append_assoc front (x ∷ []) rest) in
    let all' : list_all (goes_on row) ((front ++ x ∷ []) ++ rest) ≡ true = ap (list_all (goes_on row)) (sym longer) ∙ all in
    let first = (both (list_all (goes_on row) (front ++ x ∷ [])) (list_all (goes_on row) rest) (sym (list_all-append (goes_on row) (front ++ x ∷ []) rest) ∙ all')).0 in
    let more : (before ++ row ∷ front) ++ x ∷ [] ≡ before ++ row ∷ (front ++ x ∷ []) = append_assoc before (row ∷ front) (x ∷ []) in
    let here : times (opened ((before ++ row ∷ front) ++ x ∷ [])) ≡ times (opened (front ++ x ∷ [])) =
    ap (λ rows. times (opened rows)) more ∙ times_inside before row (front ++ x ∷ []) h o first in
    let later : bytes_after ((before ++ row ∷ front) ++ x ∷ []) rest ≡ bytes_after (front ++ x ∷ []) rest =
    ap (λ rows. bytes_after rows rest) more ∙ bytes_inside before row (front ++ x ∷ []) rest h o all' in
    ap (λ n. own_size x * n + bytes_after ((before ++ row ∷ front) ++ x ∷ []) rest) here ∙ ap (λ n. own_size x * times (opened (front ++ x ∷ [])) + n) later

chosen_passes : (p : Row → Bool) (b : Bool) (x : Row) (xs : List Row) → p x ≡ b → list_all p xs ≡ true → list_all p (cond b (x ∷ xs) []) ≡ true
chosen_passes p true x xs e h = rw (e, h) refl
chosen_passes p false x xs e h = refl

members_go_on : (p : Row → Bool) (xs : List Row) → list_all p (take_while p xs) ≡ true
members_go_on p [] = refl
members_go_on p (x ∷ xs) = rw (take_while-cons p x xs) (chosen_passes p (p x) x (take_while p xs) refl (members_go_on p xs))

-- the rows of an item: a group with its members, any other alone
abbrev part_of : Row → List Row → List Row
part_of row rest = if row.group then row ∷ members row rest else row ∷ []

-- its part ends its bytes later than it begins, and its items with bytes stand in it
record Ends (before : List Row) (row : Row) (rest : List Row) : Type 0 where
  bytes : storage (before ++ part_of row rest) ≡ storage before + size_of row rest
  counted : count_with_bytes (before ++ part_of row rest) ≡ count_with_bytes before + count_inside row rest
  left : List Row
  all : part_of row rest ++ left ≡ row ∷ rest

ends_by : (b : Bool) (before : List Row) (row : Row) (rest : List Row) → row.group ≡ b → is_repeated before row ≡ false → is_some row.occurs ≡ false → Ends before row rest
ends_by true before row rest g h o =
    let inside : List Row = members row rest in
    let none : own_size row ≡ 0 = ap (λ (b : Bool). if b then 0 else row.size) g in
    let empty : has_bytes row ≡ false = ap (λ (n : ℕ). not (n == 0)) none in
    let part : part_of row rest ≡ row ∷ inside = ap (λ (b : Bool). if b then row ∷ inside else row ∷ []) g in
    let size : size_of row rest ≡ storage inside = ap (λ (b : Bool). if b then storage inside else row.size) g in
    let count : count_inside row rest ≡ count_with_bytes inside = ap (λ (b : Bool). if b then count_with_bytes inside else count_with_bytes (row ∷ [])) g in
    let later : bytes_after (before ++ row ∷ []) inside ≡ storage inside = bytes_inside before row [] inside h o (members_go_on (goes_on row) rest) in
    let one : bytes_after before (row ∷ inside) ≡ storage inside = ap (λ (n : ℕ). n * times (opened (before ++ row ∷ [])) + bytes_after (before ++ row ∷ []) inside) none ∙ omega (arith, later) in
    let first : count_with_bytes (row ∷ inside) ≡ count_with_bytes inside = counted-cons row inside ∙ ap (λ (b : Bool). (if b then 1 else 0) + count_with_bytes inside) empty ∙ omega arith in
    record {
      bytes = ap (λ (rows : List Row). storage (before ++ rows)) part ∙ omega (arith, storage-append before (row ∷ inside), one, size);
      counted = ap (λ (rows : List Row). count_with_bytes (before ++ rows)) part ∙ omega (arith, counted-append before (row ∷ inside), first, count);
      left = drop (prefix_len (goes_on row) rest) rest;
      all = ap (λ (rows : List Row). rows ++ drop (prefix_len (goes_on row) rest) rest) part ∙ ap (λ (rows : List Row). row ∷ rows) (take-append-drop (prefix_len (goes_on row) rest) rest);
    }
ends_by false before row rest g h o =
    let own : own_size row ≡ row.size = ap (λ (b : Bool). if b then 0 else row.size) g in
    let part : part_of row rest ≡ row ∷ [] = ap (λ (b : Bool). if b then row ∷ members row rest else row ∷ []) g in
    let size : size_of row rest ≡ row.size = ap (λ (b : Bool). if b then storage (members row rest) else row.size) g in
    let count : count_inside row rest ≡ count_with_bytes (row ∷ []) = ap (λ (b : Bool). if b then count_with_bytes (members row rest) else count_with_bytes (row ∷ [])) g in
    let alone : times (opened (before ++ row ∷ [])) ≡ 1 = times_inside before row [] h o refl in
    let one : bytes_after before (row ∷ []) ≡ row.size = ap (λ (n : ℕ). own_size row * n + 0) alone ∙ omega (arith, own) in
    record {
      bytes = ap (λ (rows : List Row). storage (before ++ rows)) part ∙ omega (arith, storage-append before (row ∷ []), one, size);
      counted = ap (λ (rows : List Row). count_with_bytes (before ++ rows)) part ∙ omega (arith, counted-append before (row ∷ []), count);
      left = rest;
      all = ap (λ (rows : List Row). rows ++ rest) part;
    }

-- ---- two items

-- an item of the list without OCCURS in or above it
pub record IsAlone (items : List DataItem) (spot : Spot DataItem) : Type 0 where
  pub cut : items ≡ spot.before ++ spot.item ∷ spot.rest
  pub alone : is_table spot ≡ false

ends_of : (items : List DataItem) (spot : Spot DataItem) → IsAlone items spot → Ends (rows_before spot) spot.item.row (rows_after spot)
ends_of items spot h =
    let parts = neither (n.is_repeated spot) (is_some spot.item.row.occurs) h.alone in
    ends_by spot.item.row.group (rows_before spot) spot.item.row (rows_after spot) refl (sym (repeated-is spot) ∙ parts.0) parts.1

rows_cut : (items : List DataItem) (spot : Spot DataItem) → IsAlone items spot → map (λ (item : DataItem). item.row) items ≡ rows_before spot ++ spot.item.row ∷ rows_after spot
rows_cut items spot h = ap (map (λ (item : DataItem). item.row)) h.cut ∙ map-append (λ (item : DataItem). item.row) spot.before (spot.item ∷ spot.rest)

counted_bytes : (s t u v a b c d : ℕ) → Alike s t a b → Alike (s + u) (t + v) (a + c) (b + d) → ((a == b) && (c == d)) ≡ true → ((s == t) && (u == v)) ≡ true
counted_bytes s t u v a b c d begins ends e =
    let parts = both (a == b) (c == d) e in
    let same : a ≡ b = eqb-true a b parts.0 in
    let inside : c ≡ d = eqb-true c d parts.1 in
    let first : s ≡ t = begins.back same in
    let whole : s + u ≡ t + v = ends.back (omega (arith, same, inside)) in
    let second : u ≡ v = omega (arith, first, whole) in
    rw (eq-eqb s t first, eq-eqb u v second) refl

bytes_counted : (s t u v a b c d : ℕ) → Alike s t a b → Alike (s + u) (t + v) (a + c) (b + d) → ((s == t) && (u == v)) ≡ true → ((a == b) && (c == d)) ≡ true
bytes_counted s t u v a b c d begins ends e =
    let parts = both (s == t) (u == v) e in
    let same : s ≡ t = eqb-true s t parts.0 in
    let inside : u ≡ v = eqb-true u v parts.1 in
    let first : a ≡ b = begins.forth same in
    let whole : a + c ≡ b + d = ends.forth (omega (arith, same, inside)) in
    let second : c ≡ d = omega (arith, first, whole) in
    rw (eq-eqb a b first, eq-eqb c d second) refl

same_tests : (s t u v a b c d : ℕ) → Alike s t a b → Alike (s + u) (t + v) (a + c) (b + d) → ((a == b) && (c == d)) ≡ ((s == t) && (u == v))
same_tests s t u v a b c d begins ends = by_truth ((a == b) && (c == d)) ((s == t) && (u == v)) (counted_bytes s t u v a b c d begins ends) (bytes_counted s t u v a b c d begins ends)

pub one_place : (items : List DataItem) (spot other : Spot DataItem) → IsAlone items spot → IsAlone items other → same_span (span_of spot) (span_of other) ≡ same_place spot other
one_place items spot other h k =
    let e = ends_of items spot h in
    let f = ends_of items other k in
    let cut = rows_cut items spot h in
    let cut' = rows_cut items other k in
    let begins = fronts_alike [] (rows_before spot) (rows_before other) (spot.item.row ∷ rows_after spot) (other.item.row ∷ rows_after other) (sym cut ∙ cut') in
    let whole : (rows_before spot ++ part_of spot.item.row (rows_after spot)) ++ e.left ≡ rows_before spot ++ spot.item.row ∷ rows_after spot = append_assoc (rows_before spot) (part_of spot.item.row (rows_after spot)) e.left ∙ ap (λ rows. rows_before spot ++ rows) e.all in
    let whole' : (rows_before other ++ part_of other.item.row (rows_after other)) ++ f.left ≡ rows_before other ++ other.item.row ∷ rows_after other = append_assoc (rows_before other) (part_of other.item.row (rows_after other)) f.left ∙ ap (λ rows. rows_before other ++ rows) f.all in
    let ends = fronts_alike [] (rows_before spot ++ part_of spot.item.row (rows_after spot)) (rows_before other ++ part_of other.item.row (rows_after other)) e.left f.left (whole ∙ sym cut ∙ cut' ∙ sym whole') in
    same_tests (storage (rows_before spot)) (storage (rows_before other)) (bytes_of spot) (bytes_of other) (count_with_bytes (rows_before spot)) (count_with_bytes (rows_before other))
    (count_inside spot.item.row (rows_after spot)) (count_inside other.item.row (rows_after other)) begins (rw (sym e.bytes, sym f.bytes, sym e.counted, sym f.counted) ends)

-- ---- the keys of a file

abbrev AllAlone : List DataItem → List (Spot DataItem) → Type 0
AllAlone items [] = Unit {0}
AllAlone items (spot ∷ others) = IsAlone items spot × AllAlone items others

any_alike : (items : List DataItem) (spot : Spot DataItem) (others : List (Spot DataItem)) → IsAlone items spot → AllAlone items others
    → list_any (same_span (span_of spot)) (map span_of others) ≡ list_any (same_place spot) others
any_alike items spot [] h k = refl
any_alike items spot (other ∷ others) h k = rw (one_place items spot other h k.0, any_alike items spot others h k.1) refl

twins_alike : (items : List DataItem) (some : List (Spot DataItem)) → AllAlone items some → has_twins same_span (map span_of some) ≡ has_twins same_place some
twins_alike items [] h = refl
twins_alike items (spot ∷ others) h = rw (any_alike items spot others h.0 h.1, twins_alike items others h.1) refl

spans_map : {A : Type 0} (f : A → Option (Spot DataItem)) (keys : List A) (o : Option (Spot DataItem)) (key : A) → f key ≡ o → filter_map (λ one. option_map span_of (f one)) keys ≡ map span_of (filter_map f keys)
    → filter_map (λ one. option_map span_of (f one)) (key ∷ keys) ≡ map span_of (filter_map f (key ∷ keys))
spans_map f keys None key e h = rw e h
spans_map f keys (Some spot) key e h = rw e (ap (λ spans. span_of spot ∷ spans) h)

spans_are : {A : Type 0} (f : A → Option (Spot DataItem)) (keys : List A) → filter_map (λ one. option_map span_of (f one)) keys ≡ map span_of (filter_map f keys)
spans_are f [] = refl
spans_are f (key ∷ keys) = spans_map f keys (f key) key refl (spans_are f keys)

-- ---- an item that was found

only_of : (xs : List (Spot DataItem)) (spot : Spot DataItem) → only_one xs ≡ Some spot → xs ≡ spot ∷ []
only_of [] spot e = cc e
only_of (x ∷ []) spot e = let same : x ≡ spot = cc e in ap (λ one. one ∷ []) same
only_of (x ∷ (y ∷ xs)) spot e = cc e

not_true : (b : Bool) → not b ≡ true → b ≡ false
not_true true e = cc e
not_true false e = refl

alone_if : (b : Bool) (items : List DataItem) (one spot : Spot DataItem) → (b ≡ true → IsAlone items one) → (if b then Some one else None) ≡ Some spot → IsAlone items spot
alone_if true items one spot h k = let same : one ≡ spot = cc k in subst (IsAlone items) same (h refl)
alone_if false items one spot h k = cc k

-- an item that is found stands among all
cut_of : (items : List DataItem) (key : Reference) (one : Spot DataItem) → found items key ≡ Some one → items ≡ one.before ++ one.item ∷ one.rest
cut_of items key one e = spot_cut (is_match key.name key.qualifiers) [] items one (only_of (matching items key.name key.qualifiers) one e)

no_table : (description : Option ℕ) (one : Spot DataItem) → has_place description one ≡ true → is_table one ≡ false
no_table description one t = not_true (is_table one) (both (not (is_table one)) _ (both _ _ t).0).0

alone_of : (items : List DataItem) (description : Option ℕ) (key : Reference) (o : Option (Spot DataItem)) (spot : Spot DataItem) → found items key ≡ o → placed_key description o ≡ Some spot → IsAlone items spot
alone_of items description key None spot e h = cc h
alone_of items description key (Some one) spot e h =
    alone_if (is_of_record description one && has_place description one) items one spot
    (λ t. record { cut = cut_of items key one e; alone = no_table description one (both (is_of_record description one) _ t).1 }) h

all_alone_step : (items : List DataItem) (o : Option (Spot DataItem)) (f : Reference → Option (Spot DataItem)) (key : Reference) (keys : List Reference) → f key ≡ o → ((spot : Spot DataItem) → o ≡ Some spot → IsAlone items spot)
    → AllAlone items (filter_map f keys) → AllAlone items (filter_map f (key ∷ keys))
all_alone_step items None f key keys e h k = rw e k
all_alone_step items (Some spot) f key keys e h k = rw e (h spot refl, k)

all_alone : (items : List DataItem) (description : Option ℕ) (keys : List Reference) → AllAlone items (filter_map (λ (key : Reference). placed_key description (found items key)) keys)
all_alone items description [] = tt
all_alone items description (key ∷ keys) =
    all_alone_step items (placed_key description (found items key)) (λ (one : Reference). placed_key description (found items one)) key keys refl
    (λ spot e. alone_of items description key (found items key) spot refl e) (all_alone items description keys)

-- ---- the places that the code looks at are those of the definition

seen_is : (items : List DataItem) (description unsized_at : Option ℕ) (key : Reference) (o : Option (Spot DataItem)) → unsized_at ≡ position (is_unsized_under description) items → found items key ≡ o
    → seen_key description unsized_at o ≡ placed_key description o
seen_is items description unsized_at key None u e = refl
seen_is items description unsized_at key (Some one) u e =
    let sized = ap (λ (first : Option ℕ). is_sized_before first (length one.before)) u ∙ sized_before (is_unsized_under description) items one.before (one.item ∷ one.rest) (cut_of items key one e) in
    ap (λ (b : Bool). if is_of_record description one && ((not (is_table one) && n.is_sized one) && b) then Some one else None) sized

same_kept : {A B : Type 0} (f g : A → Option B) → ((x : A) → f x ≡ g x) → (xs : List A) → filter_map f xs ≡ filter_map g xs
same_kept f g h [] = refl
same_kept f g h (x ∷ xs) = rw (h x, same_kept f g h xs) refl

-- two keys lie at one place exactly where the code's places are the same
pub keys_alike : (items : List DataItem) (description unsized_at : Option ℕ) (keys : List Reference) → unsized_at ≡ position (is_unsized_under description) items
    → has_twins same_span (filter_map (λ (key : Reference). span_of_key description unsized_at (found items key)) keys) ≡ has_twins same_place (filter_map (λ (key : Reference). placed_key description (found items key)) keys)
keys_alike items description unsized_at keys u =
    ap (has_twins same_span) (spans_are (λ (key : Reference). seen_key description unsized_at (found items key)) keys
    ∙ ap (map span_of) (same_kept (λ (key : Reference). seen_key description unsized_at (found items key)) (λ (key : Reference). placed_key description (found items key)) (λ key. seen_is items description unsized_at key (found items key) u refl) keys))
    ∙ twins_alike items _ (all_alone items description keys)
