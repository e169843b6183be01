-- Where the next row lies.
use Rattle.std.proofs.Common.{◌≡◌, ℕ, ◌+◌, ◌*◌, ◌≤◌, refl, sym, ◌∙◌, ap, arith, Bool, true, false, ◌&&◌, ◌||◌, inl, inr, ◌⊎◌, List, [], ◌∷◌, ◌++◌, drop, append_assoc, append-nil, sum_by, Option, Some, None}
use Rattle.std.specs.Prelude.{is_some, nat_eq, if◌then◌else◌}
use Rattle.std.specs.List.{list_all, list_any}
use Rattle.std.proofs.Math.Nat.{mul-le-mul_left, mul-le-mul_right}
use Rattle.std.proofs.lemmas.List.Sums.{sum_by-cons, sum_by-append}
use Rattle.std.proofs.lemmas.List.Folds.{list_all-append}
use Rattle.data_layout.specs.declared.row.Row.{Row}
use Rattle.data_layout.specs.Storage.{goes_on, opened, members, times, own_size, number_of_times, bytes_after, storage, is_repeated}
use Rattle.std.proofs.lemmas.Bool.{eqb-false}
use Rattle.std.proofs.lemmas.List.{take-append-drop}
use Rattle.std.specs.List.{prefix_len}
use Rattle.data_layout.specs.Layout.{IsOffset, size_of}
use Rattle.data_layout.proofs.Groups.{bytes_after-append, storage-append, storage-push}

-- ---- what occurs, occurs once at least

once_some : (b : Bool) (n : ℕ) → nat_eq n 0 ≡ b → 1 ≤ (if b then 1 else n)
once_some true n e = omega arith
once_some false n e = let some = eqb-false n 0 e in grind (arith, some)

once : (o : Option ℕ) → 1 ≤ number_of_times o
once None = omega arith
once (Some n) = once_some (nat_eq n 0) n refl

more_times : (o : Option ℕ) (t u : ℕ) → t ≤ u → t ≤ number_of_times o * u
more_times o t u h = let k : 1 * u ≤ number_of_times o * u = mul-le-mul_right u (once o) in omega arith

pub times-some : (rows : List Row) → 1 ≤ times rows
times-some [] = omega arith
times-some (row ∷ rows) = more_times row.occurs 1 (times rows) (times-some rows)

-- rows ahead open no fewer groups
times_ahead : (a : Bool) (row : Row) (rows : List Row) (t : ℕ) → t ≤ times rows → t ≤ times (if a then row ∷ rows else rows)
times_ahead true row rows t h = more_times row.occurs t (times rows) h
times_ahead false row rows t h = h

pub times-ahead : (ahead rows : List Row) → times (opened rows) ≤ times (opened (ahead ++ rows))
times-ahead [] rows = omega arith
times-ahead (row ∷ ahead) rows = times_ahead (list_all (goes_on row) (ahead ++ rows)) row (opened (ahead ++ rows)) (times (opened rows)) (times-ahead ahead rows)

-- by themselves rows have no more bytes than behind others
pub bytes_ahead : (ahead before rows : List Row) → bytes_after before rows ≤ bytes_after (ahead ++ before) rows
bytes_ahead ahead before [] = omega arith
bytes_ahead ahead before (row ∷ rows) =
    let here : own_size row * times (opened (before ++ row ∷ [])) ≤ own_size row * times (opened (ahead ++ (before ++ row ∷ []))) = mul-le-mul_left (own_size row) (times-ahead ahead (before ++ row ∷ [])) in
    let rest : bytes_after (before ++ row ∷ []) rows ≤ bytes_after (ahead ++ (before ++ row ∷ [])) rows = bytes_ahead ahead (before ++ row ∷ []) rows in
    rw (append_assoc ahead before (row ∷ [])) (omega arith)

-- each once is no more than as often as it occurs
pub once_le : (before rows : List Row) → sum_by own_size rows ≤ bytes_after before rows
once_le before [] = omega arith
once_le before (row ∷ rows) =
    let here : own_size row * 1 ≤ own_size row * times (opened (before ++ row ∷ [])) = mul-le-mul_left (own_size row) (times-some (opened (before ++ row ∷ []))) in
    let rest : sum_by own_size rows ≤ bytes_after (before ++ row ∷ []) rows = once_le (before ++ row ∷ []) rows in
    rw (sum_by-cons own_size row rows) (omega arith)

-- ---- a table that a row stands in

pub record Table (before : List Row) (row : Row) : Type 0 where
  pub ahead : List Row
  pub group : Row
  pub later : List Row
  pub parts : before ≡ ahead ++ group ∷ later
  pub members : list_all (goes_on group) later ≡ true
  pub here : goes_on group row ≡ true
  pub occurs : is_some group.occurs ≡ true

further : (other : Row) (before : List Row) (row : Row) → Table before row → Table (other ∷ before) row
further other before row t = record { ahead = other ∷ t.ahead; group = t.group; later = t.later; parts = ap (λ xs. other ∷ xs) t.parts; members = t.members; here = t.here; occurs = t.occurs }

both : (a b : Bool) → (a && b) ≡ true → (a ≡ true) × (b ≡ true)
both true true h = (refl, refl)
both true false h = cc
both false b h = cc

table_in : (a b c : Bool) (other : Row) (before rows : List Row) (row : Row) → list_all (goes_on other) before ≡ a → goes_on other row ≡ b → is_some other.occurs ≡ c
    → (list_any (λ group. goes_on group row && is_some group.occurs) rows ≡ true → Table before row)
    → list_any (λ group. goes_on group row && is_some group.occurs) (if a then other ∷ rows else rows) ≡ true → Table (other ∷ before) row
table_in true true true other before rows row ea eb ec f h = record { ahead = []; group = other; later = before; parts = refl; members = ea; here = eb; occurs = ec }
table_in true true false other before rows row ea eb ec f h = further other before row (f (rw (eb, ec) at h))
table_in true false c other before rows row ea eb ec f h = further other before row (f (rw eb at h))
table_in false b c other before rows row ea eb ec f h = further other before row (f h)

-- a repeated row stands in a table
pub table_of : (before : List Row) (row : Row) → is_repeated before row ≡ true → Table before row
table_of [] row h = cc
table_of (other ∷ before) row h = table_in (list_all (goes_on other) before) (goes_on other row) (is_some other.occurs) other before (opened before) row refl refl refl (table_of before row) h

-- ---- the place of a row

-- an open table's next place is its offset and what stands in it, each once
abbrev pub NextIs : List Row → ℕ → Type 0
NextIs before next = (ahead : List Row) (group : Row) (later : List Row) → before ≡ ahead ++ group ∷ later → list_all (goes_on group) later ≡ true
    → is_some group.occurs ≡ true → next ≡ storage ahead + sum_by own_size (group ∷ later)

in_place : (b : Bool) (before : List Row) (row : Row) (next total place : ℕ) → is_repeated before row ≡ b → NextIs before next → total ≡ storage before
    → place ≡ (if b then next else total) → IsOffset before row place
in_place false before row next total place e h t p = inl (e, p ∙ t)
in_place true before row next total place e h t p =
    let table : Table before row = table_of before row e in
    inr (
      table.ahead,
      table.group,
      table.later,
      table.parts,
      rw (list_all-append (goes_on table.group) table.later (row ∷ []), table.members, table.here) refl,
      table.occurs,
      p ∙ h table.ahead table.group table.later table.parts table.members table.occurs,
    )

-- the place of the next row is its offset
pub place_is : (before : List Row) (row : Row) (next total place : ℕ) → NextIs before next → total ≡ storage before → place ≡ (if is_repeated before row then next else total)
    → IsOffset before row place
place_is before row next total place h t p = in_place (is_repeated before row) before row next total place refl h t p

-- it is no more than all bytes before
pub offset_le : (before : List Row) (row : Row) (place : ℕ) → IsOffset before row place → place ≤ storage before
offset_le before row place (inl h) = omega (arith, h.1)
offset_le before row place (inr (ahead, group, later, parts, all, occurs, e)) =
    let whole : storage before ≡ storage ahead + bytes_after ahead (group ∷ later) = ap storage parts ∙ storage-append ahead (group ∷ later) in
    let some : sum_by own_size (group ∷ later) ≤ bytes_after ahead (group ∷ later) = once_le ahead (group ∷ later) in
    omega arith

-- ---- a list with one more row, cut at a row

pub nothing_left : (row group : Row) (ahead later : List Row) → [] ≡ ahead ++ group ∷ later → ⊥
nothing_left row group [] later e = cc
nothing_left row group (other ∷ ahead) later e = cc

abbrev pub Cut : List Row → Row → List Row → Row → List Row → Type 0
Cut before row ahead group later = ((later ≡ []) × (before ≡ ahead) × (row ≡ group)) ⊎ ((inner : List Row) × (later ≡ inner ++ row ∷ []) × (before ≡ ahead ++ group ∷ inner))

after_one : (other first : Row) (before ahead later : List Row) (row group : Row) → other ≡ first → Cut before row ahead group later → Cut (other ∷ before) row (first ∷ ahead) group later
after_one other first before ahead later row group e (inl h) = inl (h.0, cc, h.2)
after_one other first before ahead later row group e (inr h) = inr (h.0, h.1, cc)

pub cut_of : (before : List Row) (row : Row) (ahead : List Row) (group : Row) (later : List Row) → before ++ row ∷ [] ≡ ahead ++ group ∷ later → Cut before row ahead group later
cut_of [] row [] group later e = inl (cc, refl, cc)
cut_of [] row (first ∷ ahead) group later e = let none : [] ≡ ahead ++ group ∷ later = cc in absurd (nothing_left row group ahead later none)
cut_of (other ∷ before) row [] group later e = inr (before, cc, cc)
cut_of (other ∷ before) row (first ∷ ahead) group later e =
    let rest : before ++ row ∷ [] ≡ ahead ++ group ∷ later = cc in
    let begins : other ≡ first = cc in
    after_one other first before ahead later row group begins (cut_of before row ahead group later rest)

-- ---- the next place

-- a row in a table is repeated
repeated_in : (a : Bool) (other : Row) (p : Row → Bool) (rows : List Row) → list_any p rows ≡ true → list_any p (if a then other ∷ rows else rows) ≡ true
repeated_in true other p rows h = rw h (or_true (p other))
  where
    or_true : (b : Bool) → (b || true) ≡ true
    or_true true = refl
    or_true false = refl
repeated_in false other p rows h = h

pub repeated_of : (ahead : List Row) (group : Row) (later : List Row) (row : Row) → list_all (goes_on group) later ≡ true → goes_on group row ≡ true → is_some group.occurs ≡ true
    → is_repeated (ahead ++ group ∷ later) row ≡ true
repeated_of [] group later row a h o = rw (a, h, o) refl
repeated_of (other ∷ ahead) group later row a h o =
    repeated_in (list_all (goes_on other) (ahead ++ group ∷ later)) other (λ g. goes_on g row && is_some g.occurs) (opened (ahead ++ group ∷ later)) (repeated_of ahead group later row a h o)

pub next_is : (before : List Row) (row : Row) (next total place after : ℕ) → NextIs before next → total ≡ storage before → place ≡ (if is_repeated before row then next else total)
    → (is_some row.occurs ≡ true → is_repeated before row ≡ false) → after ≡ place + own_size row → NextIs (before ++ row ∷ []) after
next_is before row next total place after h t p not_nested a ahead group later parts all occurs =
    elim (cut_of before row ahead group later parts) as (λ _. after ≡ storage ahead + sum_by own_size (group ∷ later)) [
      | inl (none, same, last) ↦
          (let rep : is_repeated before row ≡ false = not_nested (ap (λ g. is_some g.occurs) last ∙ occurs) in
          let q : place ≡ storage before = p ∙ ap (λ b. if b then next else total) rep ∙ t in
          let w : storage before ≡ storage ahead = ap storage same in
          let o : own_size row ≡ own_size group = ap own_size last in
          rw none (omega arith))
      | inr (inner, ends, whole) ↦
          (let all' : (list_all (goes_on group) inner && (goes_on group row && true)) ≡ true = sym (list_all-append (goes_on group) inner (row ∷ [])) ∙ ap (list_all (goes_on group)) (sym ends) ∙ all in
          let two = both (list_all (goes_on group) inner) (goes_on group row && true) all' in
          let one = both (goes_on group row) true two.1 in
          let rep : is_repeated before row ≡ true = ap (λ xs. is_repeated xs row) whole ∙ repeated_of ahead group inner row two.0 one.0 occurs in
          let q : place ≡ next = p ∙ ap (λ b. if b then next else total) rep in
          let n : next ≡ storage ahead + sum_by own_size (group ∷ inner) = h ahead group inner whole two.0 occurs in
          let s : sum_by own_size (group ∷ (inner ++ row ∷ [])) ≡ sum_by own_size (group ∷ inner) + own_size row = sum_by-append own_size (group ∷ inner) (row ∷ []) ∙ omega arith in
          rw (ends, s) (a ∙ omega (arith, q, n)))
    ]

-- ---- the size of a row

pub behind : (before : List Row) (row : Row) (rest : List Row) → storage (before ++ row ∷ rest) ≡ storage (before ++ row ∷ []) + bytes_after (before ++ row ∷ []) rest
behind before row rest = ap storage (sym (append_assoc before (row ∷ []) rest)) ∙ storage-append (before ++ row ∷ []) rest

pub members_le : (before : List Row) (row : Row) (rest : List Row) → storage before + storage (members row rest) ≤ storage (before ++ row ∷ rest)
members_le before row rest =
    let inside : storage (members row rest) ≤ bytes_after ((before ++ row ∷ []) ++ []) (members row rest) = bytes_ahead (before ++ row ∷ []) [] (members row rest) in
    let inside' : storage (members row rest) ≤ bytes_after (before ++ row ∷ []) (members row rest) = rw append-nil at inside in
    let cut : members row rest ++ drop (prefix_len (goes_on row) rest) rest ≡ rest = take-append-drop (prefix_len (goes_on row) rest) rest in
    let part : bytes_after (before ++ row ∷ []) (members row rest ++ drop (prefix_len (goes_on row) rest) rest) ≡ bytes_after (before ++ row ∷ []) (members row rest) + bytes_after ((before ++ row ∷ []) ++ members row rest) (drop (prefix_len (goes_on row) rest) rest) = bytes_after-append (before ++ row ∷ []) (members row rest) (drop (prefix_len (goes_on row) rest) rest) in
    let whole : storage (before ++ row ∷ rest) ≡ storage (before ++ row ∷ []) + bytes_after (before ++ row ∷ []) rest = behind before row rest in
    let same : bytes_after (before ++ row ∷ []) (members row rest ++ drop (prefix_len (goes_on row) rest) rest) ≡ bytes_after (before ++ row ∷ []) rest = ap (bytes_after (before ++ row ∷ [])) cut in
    omega (arith, inside', part, whole, same, storage-push before row)

sizes_le : (b : Bool) (before : List Row) (row : Row) (rest : List Row) → row.group ≡ b → storage before + (if b then storage (members row rest) else row.size) ≤ storage (before ++ row ∷ rest)
sizes_le true before row rest e = members_le before row rest
sizes_le false before row rest e =
    let whole : storage (before ++ row ∷ rest) ≡ storage (before ++ row ∷ []) + bytes_after (before ++ row ∷ []) rest = behind before row rest in
    let one : storage (before ++ row ∷ []) ≡ storage before + own_size row * times (opened (before ++ row ∷ [])) = storage-push before row in
    let own : own_size row ≡ row.size = ap (λ b. if b then 0 else row.size) e in
    let some : own_size row * 1 ≤ own_size row * times (opened (before ++ row ∷ [])) = mul-le-mul_left (own_size row) (times-some (opened (before ++ row ∷ []))) in
    omega (arith, whole, one, own, some)

-- the size of a row is no more than all bytes
pub size_le : (before : List Row) (row : Row) (rest : List Row) → storage before + size_of row rest ≤ storage (before ++ row ∷ rest)
size_le before row rest = sizes_le row.group before row rest refl
