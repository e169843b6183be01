-- Bytes of a row with its members, as often as it occurs.
use Rattle.std.proofs.Common.{◌≡◌, ℕ, ◌+◌, ◌*◌, ◌<◌, ◌≤◌, refl, sym, ◌∙◌, ap, arith, Bool, true, false, not, ◌&&◌, nat_lt, List, [], ◌∷◌, ◌++◌, drop, sum_by}
use Rattle.std.specs.Prelude.{if◌then◌else◌, cond}
use Rattle.std.specs.List.{list_all, prefix_len}
use Rattle.std.proofs.Math.Nat.{mul-le-mul_left, mul-le-mul_right}
use Rattle.std.proofs.lemmas.Bool.Decides.{nat_tests}
use Rattle.std.proofs.lemmas.List.{take-append-drop}
use Rattle.std.proofs.lemmas.List.Sums.{take_while-cons}
use Rattle.std.proofs.lemmas.List.Folds.{list_all-append}
use Rattle.data_layout.specs.declared.row.Row.{Row}
use Rattle.data_layout.specs.Rows.{rank}
use Rattle.data_layout.specs.Storage.{goes_on, opened, members, times, own_size, number_of_times, bytes_after, storage}
use Rattle.data_layout.specs.Layout.{size_of}
use Rattle.data_layout.proofs.Groups.{bytes_after-append, storage-push}
use Rattle.data_layout.proofs.Places.{times-ahead, bytes_ahead, once_le, behind, size_le}

both : (a b : Bool) → (a && b) ≡ true → (a ≡ true) × (b ≡ true)
both true b h = (refl, h)
both false b h = cc

-- ---- rows that go on in one another

lower : (a b c : ℕ) → nat_lt a b ≡ true → nat_lt b c ≡ true → nat_lt a c ≡ true
lower a b c h k = grind (arith, nat_tests)

pub goes_further : (a b c : Row) → goes_on a b ≡ true → goes_on b c ≡ true → goes_on a c ≡ true
goes_further a b c h k =
    let one = both (not b.starts) (nat_lt (rank a.level) (rank b.level)) h in
    let two = both (not c.starts) (nat_lt (rank b.level) (rank c.level)) k in
    rw (two.0, lower (rank a.level) (rank b.level) (rank c.level) one.1 two.1) refl

pub all_further : (a b : Row) (rows : List Row) → goes_on a b ≡ true → list_all (goes_on b) rows ≡ true → list_all (goes_on a) rows ≡ true
all_further a b [] h k = refl
all_further a b (row ∷ rows) h k =
    let parts = both (goes_on b row) (list_all (goes_on b) rows) k in rw (goes_further a b row h parts.0, all_further a b rows h parts.1) refl

-- ---- members

members_step : (group row : Row) (rest : List Row) (b : Bool) → goes_on group row ≡ b → members group (row ∷ rest) ≡ (if b then row ∷ members group rest else [])
members_step group row rest true e = take_while-cons (goes_on group) row rest ∙ ap (λ b. cond b (row ∷ members group rest) []) e
members_step group row rest false e = take_while-cons (goes_on group) row rest ∙ ap (λ b. cond b (row ∷ members group rest) []) e

all_step : (group row : Row) (rest : List Row) (b : Bool) → goes_on group row ≡ b → list_all (goes_on group) (members group rest) ≡ true
    → list_all (goes_on group) (if b then row ∷ members group rest else []) ≡ true
all_step group row rest true e h = rw (e, h) refl
all_step group row rest false e h = refl

-- members go on in their group
members_go_on : (group : Row) (rest : List Row) → list_all (goes_on group) (members group rest) ≡ true
members_go_on group [] = refl
members_go_on group (row ∷ rest) =
    ap (list_all (goes_on group)) (members_step group row rest (goes_on group row) refl) ∙ all_step group row rest (goes_on group row) refl (members_go_on group rest)

-- rows that go on in a group are the first of its members
members_front : (group : Row) (later : List Row) (row : Row) (rest : List Row) → list_all (goes_on group) later ≡ true → goes_on group row ≡ true
    → members group (later ++ row ∷ rest) ≡ later ++ row ∷ members group rest
members_front group [] row rest h k = members_step group row rest true k
members_front group (other ∷ later) row rest h k =
    let parts = both (goes_on group other) (list_all (goes_on group) later) h in
    members_step group other (later ++ row ∷ rest) true parts.0 ∙ ap (λ xs. other ∷ xs) (members_front group later row rest parts.1 k)

-- the members of a member are among those of the group
among_step : (group row next : Row) (rest : List Row) (a b : Bool) → goes_on row next ≡ a → goes_on group next ≡ b → (a ≡ true → b ≡ true)
    → members row (members group rest) ≡ members row rest → members row (if b then next ∷ members group rest else []) ≡ (if a then next ∷ members row rest else [])
among_step group row next rest true true e f g h = members_step row next (members group rest) true e ∙ ap (λ xs. next ∷ xs) h
among_step group row next rest true false e f g h = let never : false ≡ true = g refl in absurd (cc never)
among_step group row next rest false true e f g h = members_step row next (members group rest) false e
among_step group row next rest false false e f g h = refl

members_among : (group row : Row) (rest : List Row) → goes_on group row ≡ true → members row (members group rest) ≡ members row rest
members_among group row [] h = refl
members_among group row (next ∷ rest) h =
    ap (members row) (members_step group next rest (goes_on group next) refl)
    ∙ among_step group row next rest (goes_on row next) (goes_on group next) refl refl (λ e. goes_further group row next h e) (members_among group row rest h)
    ∙ sym (members_step row next rest (goes_on row next) refl)

-- ---- bytes of a row with its members, as often as it occurs

first_open : (a : Bool) (group : Row) (rows : List Row) → a ≡ true → times (if a then group ∷ rows else rows) ≡ number_of_times group.occurs * times rows
first_open a group rows h = rw h refl

shared : (o n t r : ℕ) → o * (n * t) + n * r ≡ n * (o * t + r)
shared o n t r = omega arith

bytes_within : (group : Row) (pre later : List Row) → list_all (goes_on group) pre ≡ true → list_all (goes_on group) later ≡ true
    → bytes_after (group ∷ pre) later ≡ number_of_times group.occurs * bytes_after pre later
bytes_within group pre [] h k = omega arith
bytes_within group pre (row ∷ later) h k =
    let parts = both (goes_on group row) (list_all (goes_on group) later) k in
    let all : list_all (goes_on group) (pre ++ row ∷ []) ≡ true = list_all-append (goes_on group) pre (row ∷ []) ∙ rw (h, parts.0) refl in
    ap (λ t. own_size row * t + bytes_after (group ∷ (pre ++ row ∷ [])) later) (first_open (list_all (goes_on group) (pre ++ row ∷ [])) group (opened (pre ++ row ∷ [])) all)
    ∙ ap (λ r. own_size row * (number_of_times group.occurs * times (opened (pre ++ row ∷ []))) + r) (bytes_within group (pre ++ row ∷ []) later all parts.1)
    ∙ shared (own_size row) (number_of_times group.occurs) (times (opened (pre ++ row ∷ []))) (bytes_after (pre ++ row ∷ []) later)

one_time : (n : ℕ) → n * 1 ≡ n
one_time n = omega arith

-- what stands before a row, and the row with its members as often as it occurs, is no more than all bytes
pub table_le : (before : List Row) (row : Row) (rest : List Row)
    → storage before + (own_size row * number_of_times row.occurs + number_of_times row.occurs * storage (members row rest)) ≤ storage (before ++ row ∷ rest)
table_le before row rest =
    let n : ℕ = number_of_times row.occurs in
    let few : times (opened (row ∷ [])) ≤ times (opened (before ++ row ∷ [])) = times-ahead before (row ∷ []) in
    let often : n ≤ times (opened (before ++ row ∷ [])) = rw (one_time n) at few in
    let own : own_size row * n ≤ own_size row * times (opened (before ++ row ∷ [])) = mul-le-mul_left (own_size row) often in
    let inside : bytes_after (row ∷ []) (members row rest) ≤ bytes_after (before ++ row ∷ []) (members row rest) = bytes_ahead before (row ∷ []) (members row rest) in
    let each : bytes_after (row ∷ []) (members row rest) ≡ n * storage (members row rest) = bytes_within row [] (members row rest) refl (members_go_on row rest) in
    let cut : members row rest ++ drop (prefix_len (goes_on row) rest) rest ≡ rest = take-append-drop (prefix_len (goes_on row) rest) rest in
    let part : bytes_after (before ++ row ∷ []) (members row rest ++ drop (prefix_len (goes_on row) rest) rest) ≡ bytes_after (before ++ row ∷ []) (members row rest) + bytes_after ((before ++ row ∷ []) ++ members row rest) (drop (prefix_len (goes_on row) rest) rest) =
    bytes_after-append (before ++ row ∷ []) (members row rest) (drop (prefix_len (goes_on row) rest) rest) in
    let same : bytes_after (before ++ row ∷ []) (members row rest ++ drop (prefix_len (goes_on row) rest) rest) ≡ bytes_after (before ++ row ∷ []) rest = ap (bytes_after (before ++ row ∷ [])) cut in
    omega (arith, own, inside, each, part, same, behind before row rest, storage-push before row)

-- ---- places within a table

swapped : (a b : ℕ) → a * b ≡ b * a
swapped a b = omega arith

next_time : (m k n : ℕ) → k < n → k * m + m ≤ n * m
next_time m k n h = let one : (k + 1) * m ≤ n * m = mul-le-mul_right m (omega arith) in omega (arith, one)

-- a row that occurs itself
pub own_within : (b : Bool) (row : Row) (rest : List Row) (k : ℕ) → row.group ≡ b → k < number_of_times row.occurs
    → k * (if b then storage (members row rest) else row.size) + (if b then storage (members row rest) else row.size)
    ≤ own_size row * number_of_times row.occurs + number_of_times row.occurs * storage (members row rest)
own_within true row rest k e h = let most = next_time (storage (members row rest)) k (number_of_times row.occurs) h in omega (arith, most)
own_within false row rest k e h =
    let own : own_size row ≡ row.size = ap (λ b. if b then 0 else row.size) e in
    let most = next_time row.size k (number_of_times row.occurs) h in
    let turned : own_size row * number_of_times row.occurs ≡ number_of_times row.occurs * row.size = ap (λ o. o * number_of_times row.occurs) own ∙ swapped row.size (number_of_times row.occurs) in
    omega (arith, most, turned)

-- a row in one occurrence of a table, of which so many bytes stand before it
pub in_within : (b : Bool) (group : Row) (rest : List Row) (k part : ℕ) → group.group ≡ b → k < number_of_times group.occurs → part ≤ storage (members group rest)
    → own_size group + part + k * (if b then storage (members group rest) else group.size)
    ≤ own_size group * number_of_times group.occurs + number_of_times group.occurs * storage (members group rest)
in_within true group rest k part e h p =
    let own : own_size group ≡ 0 = ap (λ b. if b then 0 else group.size) e in
    let most = next_time (storage (members group rest)) k (number_of_times group.occurs) h in omega (arith, own, most, p)
in_within false group rest k part e h p =
    let own : own_size group ≡ group.size = ap (λ b. if b then 0 else group.size) e in
    let most = next_time group.size k (number_of_times group.occurs) h in
    let turned : own_size group * number_of_times group.occurs ≡ number_of_times group.occurs * group.size = ap (λ o. o * number_of_times group.occurs) own ∙ swapped group.size (number_of_times group.occurs) in
    let once : 1 * storage (members group rest) ≤ number_of_times group.occurs * storage (members group rest) = mul-le-mul_right (storage (members group rest)) (omega arith) in
    omega (arith, own, most, turned, once, p)

-- what stands before a member in one occurrence, and the member
pub part_le : (group : Row) (later : List Row) (row : Row) (rest : List Row) → list_all (goes_on group) later ≡ true → goes_on group row ≡ true
    → sum_by own_size later + size_of row rest ≤ storage (members group (later ++ row ∷ rest))
part_le group later row rest h k =
    let whole : storage (members group (later ++ row ∷ rest)) ≡ storage (later ++ row ∷ members group rest) = ap storage (members_front group later row rest h k) in
    let size : size_of row (members group rest) ≡ size_of row rest = ap (λ xs. if row.group then storage xs else row.size) (members_among group row rest k) in
    omega (arith, whole, size, once_le [] later, size_le later row (members group rest))
