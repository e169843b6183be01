-- The bytes so far, the table that is open, and what closing it gives.
use Rattle.std.proofs.Common.{◌≡◌, ℕ, ◌+◌, ◌*◌, ◌<◌, refl, sym, ◌∙◌, ap, subst, arith, Bool, true, false, List, [], ◌∷◌, ◌++◌, length, take, drop, sum_by, Option, Some, None, length-append}
use Rattle.std.specs.Prelude.{if◌then◌else◌, is_some, slice_get}
use Rattle.std.specs.List.{list_any, list_all}
use Rattle.std.proofs.lemmas.List.{map-append, drop-drop}
use Rattle.std.proofs.lemmas.List.Sums.{sum_by-cons}
use Rattle.data_layout.specs.declared.row.Row.{Row}
use Rattle.data_layout.specs.declared.layout.Item.{Item}
use Rattle.data_layout.specs.Storage.{goes_on, own_size, number_of_times, storage, members, is_repeated}
use Rattle.data_layout.specs.Layout.{size_of}
use Rattle.data_layout.specs.Occurrences.{stride_of}
use Rattle.data_layout.proofs.Places.{NextIs, repeated_of}
use Rattle.data_names.specs.Items.{DataItem}
use Rattle.opening_storage.specs.Filling.{Once, Filled, closed, closed_bytes, often}
use Rattle.opening_storage.proofs.Lists.{length-often, front_more, front_less, behind, often_front, often_behind}
use Rattle.opening_storage.proofs.Sums.{all-map, repeated_rows, has_occurs, bytes_of_group, plain_bytes}
use Rattle.opening_storage.proofs.Members.{rows_of, repeated_at, Clear, Outside, Leaves, front_is}

-- how far an occurrence of this table lies from the one before it
abbrev pub stride_at : List Item → DataItem → ℕ
stride_at places table = stride_of (slice_get places table.row.number)

-- A table is open behind these items, and `next` comes: how it lies among them, and what is there of it.
pub record InTable (places : List Item) (stride : ℕ) (ahead next : List DataItem) (bytes : List ℕ) (once : Once) : Type 0 where
  pub before : List DataItem
  pub table : DataItem
  pub later : List DataItem
  pub parts : ahead ≡ before ++ table ∷ later
  pub members : list_all (λ (x : DataItem). goes_on table.row x.row) later ≡ true
  pub plain : list_any has_occurs (rows_of later) ≡ false
  pub group : table.row.group ≡ true
  pub occurs : is_some table.row.occurs ≡ true
  pub outside : repeated_at before table ≡ false
  pub times : once.times ≡ number_of_times table.row.occurs
  pub begins : length bytes ≡ storage (rows_of before)
  pub place : NextIs (rows_of ahead) (length bytes + length once.bytes)
  pub far : stride_at places table ≡ stride
  pub stride_is : stride ≡ size_of table.row (rows_of (later ++ next))

abbrev pub Cursor : List Item → ℕ → List DataItem → List DataItem → List ℕ → Option Once → Type 0
Cursor places stride ahead next bytes None = (length bytes ≡ storage (rows_of ahead)) × Outside ahead next
Cursor places stride ahead next bytes (Some once) = InTable places stride ahead next bytes once

pub record Standing (places : List Item) (stride : ℕ) (ahead next : List DataItem) (filled : Filled) : Type 0 where
  pub clear : Clear ahead next
  pub cursor : Cursor places stride ahead next filled.bytes filled.table

-- these bytes begin with what is there, and the occurrences of the open table with what is there of it
abbrev pub MatchesAt : ℕ → List ℕ → List ℕ → Option Once → Type 0
MatchesAt stride b bytes None = take (length bytes) b ≡ bytes
MatchesAt stride b bytes (Some once) =
    (take (length bytes) b ≡ bytes) × ((k : ℕ) → k < once.times → take (length once.bytes) (drop (length bytes + k * stride) b) ≡ once.bytes)

abbrev pub Matches : ℕ → List ℕ → Filled → Type 0
Matches stride b filled = MatchesAt stride b filled.bytes filled.table

pub record Closing (ahead : List DataItem) (stride : ℕ) (filled : Filled) : Type 0 where
  pub size : length (closed_bytes filled.bytes filled.table) ≡ storage (rows_of ahead)
  pub forth : (b : List ℕ) → Matches stride b filled → take (length (closed_bytes filled.bytes filled.table)) b ≡ closed_bytes filled.bytes filled.table
  pub back : (b : List ℕ) → take (length (closed_bytes filled.bytes filled.table)) b ≡ closed_bytes filled.bytes filled.table → Matches stride b filled

rows_split : (before : List DataItem) (x : DataItem) (ms : List DataItem) → rows_of (before ++ x ∷ ms) ≡ rows_of before ++ x.row ∷ rows_of ms
rows_split before x ms = map-append (λ (item : DataItem). item.row) before (x ∷ ms)

false_of : (b : Bool) → (b ≡ true → ⊥) → b ≡ false
false_of true h = absurd (h refl)
false_of false h = refl

rows_go_on : (g : Row) (xs : List DataItem) → list_all (λ (x : DataItem). goes_on g x.row) xs ≡ true → list_all (goes_on g) (rows_of xs) ≡ true
rows_go_on g xs h = all-map (λ (item : DataItem). item.row) (goes_on g) xs ∙ h

-- an item outside is no member of the table
pub leaves_table : (before : List DataItem) (table : DataItem) (later next : List DataItem) → list_all (λ (x : DataItem). goes_on table.row x.row) later ≡ true → is_some table.row.occurs ≡ true
    → Outside (before ++ table ∷ later) next → Leaves table.row next
leaves_table before table later [] h o out = tt
leaves_table before table later (y ∷ next) h o out = false_of (goes_on table.row y.row) (λ e.
    let rep : is_repeated (rows_of before ++ table.row ∷ rows_of later) y.row ≡ true = repeated_of (rows_of before) table.row (rows_of later) y.row (rows_go_on table.row later h) e o in
    let same : repeated_at (before ++ table ∷ later) y ≡ true =
    repeated_rows (λ (item : DataItem). item.row) (before ++ table ∷ later) y ∙ ap (λ xs. is_repeated xs y.row) (rows_split before table later) ∙ rep in
    let never : true ≡ false = sym same ∙ out in
    absurd (cc never))

-- a table that is whole has the bytes of its members
pub record Whole (before : List DataItem) (table : DataItem) (later : List DataItem) (stride begins held : ℕ) : Type 0 where
  pub held_is : held ≡ stride
  pub all : storage (rows_of (before ++ table ∷ later)) ≡ begins + number_of_times table.row.occurs * held

pub whole : (places : List Item) (stride : ℕ) (ahead next : List DataItem) (bytes : List ℕ) (once : Once) (t : InTable places stride ahead next bytes once) → Outside ahead next
    → Whole t.before t.table t.later stride (length bytes) (length once.bytes)
whole places stride ahead next bytes once t out =
    let leaves : Leaves t.table.row next = leaves_table t.before t.table t.later next t.members t.occurs (subst (λ xs. Outside xs next) t.parts out) in
    let rows : rows_of ahead ≡ rows_of t.before ++ t.table.row ∷ rows_of t.later = ap rows_of t.parts ∙ rows_split t.before t.table t.later in
    let place : length bytes + length once.bytes ≡ storage (rows_of t.before) + sum_by own_size (t.table.row ∷ rows_of t.later) =
    t.place (rows_of t.before) t.table.row (rows_of t.later) rows (rows_go_on t.table.row t.later t.members) t.occurs in
    let sum : sum_by own_size (t.table.row ∷ rows_of t.later) ≡ own_size t.table.row + sum_by own_size (rows_of t.later) = sum_by-cons own_size t.table.row (rows_of t.later) in
    let none : own_size t.table.row ≡ 0 = ap (λ b. if b then 0 else t.table.row.size) t.group in
    let plain : storage (rows_of t.later) ≡ sum_by own_size (rows_of t.later) = plain_bytes [] (rows_of t.later) refl t.plain in
    let held : length once.bytes ≡ storage (rows_of t.later) = omega (arith, place, sum, none, plain, t.begins) in
    let size : stride ≡ storage (rows_of t.later) =
    t.stride_is ∙ ap (λ b. if b then storage (members t.table.row (rows_of (t.later ++ next))) else t.table.row.size) t.group
    ∙ ap (λ xs. storage (members t.table.row xs)) (map-append (λ (item : DataItem). item.row) t.later next) ∙ ap storage (front_is t.table.row t.later next t.members leaves) in
    let bytes_are : storage (rows_of t.before ++ t.table.row ∷ rows_of t.later) ≡ storage (rows_of t.before) + number_of_times t.table.row.occurs * storage (rows_of t.later) =
    bytes_of_group (rows_of t.before) t.table.row (rows_of t.later) (sym (repeated_rows (λ (item : DataItem). item.row) t.before t.table) ∙ t.outside) t.group (rows_go_on t.table.row t.later t.members) in
    record {
      held_is = held ∙ sym size;
      all = ap storage (rows_split t.before t.table t.later) ∙ bytes_are ∙ ap (λ n. n + number_of_times t.table.row.occurs * storage (rows_of t.later)) (sym t.begins)
          ∙ ap (λ n. length bytes + number_of_times t.table.row.occurs * n) (sym held);
    }

at_further : (b : List ℕ) (m n : ℕ) → drop m (drop n b) ≡ drop (n + m) b
at_further b m n = drop-drop m n b

closing_table : (places : List Item) (stride : ℕ) (ahead next : List DataItem) (bytes : List ℕ) (once : Once) → InTable places stride ahead next bytes once → Outside ahead next
    → Closing ahead stride (record { bytes = bytes; table = Some once })
closing_table places stride ahead next bytes once t out =
    let w = whole places stride ahead next bytes once t out in
    let size : length (bytes ++ often once.times once.bytes) ≡ storage (rows_of ahead) =
    length-append bytes (often once.times once.bytes) ∙ ap (λ n. length bytes + n) (length-often once.times once.bytes) ∙ ap (λ n. length bytes + n * length once.bytes) t.times
    ∙ sym w.all ∙ ap (λ xs. storage (rows_of xs)) (sym t.parts) in
    let one : (b : List ℕ) (k : ℕ) → drop (k * length once.bytes) (drop (length bytes) b) ≡ drop (length bytes + k * stride) b =
    λ b k. at_further b (k * length once.bytes) (length bytes) ∙ ap (λ n. drop (length bytes + k * n) b) w.held_is in
    record {
      size = size;
      forth = λ b m. front_more b bytes (often once.times once.bytes) m.0
          (often_front once.times once.bytes (drop (length bytes) b) (λ k l. ap (take (length once.bytes)) (one b k) ∙ m.1 k l));
      back = λ b m. (
        front_less b bytes (often once.times once.bytes) m,
        λ k l. ap (take (length once.bytes)) (sym (one b k)) ∙ often_behind once.times once.bytes (drop (length bytes) b) (behind b bytes (often once.times once.bytes) m) k l,
      );
    }

closing_by : (places : List Item) (stride : ℕ) (ahead next : List DataItem) (bytes : List ℕ) (table : Option Once) → Cursor places stride ahead next bytes table → Outside ahead next
    → Closing ahead stride (record { bytes = bytes; table = table })
closing_by places stride ahead next bytes None c out = record { size = c.0; forth = λ b m. m; back = λ b m. m }
closing_by places stride ahead next bytes (Some once) c out = closing_table places stride ahead next bytes once c out

pub closing : (places : List Item) (stride : ℕ) (ahead next : List DataItem) (filled : Filled) → Standing places stride ahead next filled → Outside ahead next → Closing ahead stride filled
closing places stride ahead next filled s out =
    let c = closing_by places stride ahead next filled.bytes filled.table s.cursor out in record { size = c.size; forth = c.forth; back = c.back }

-- closed, nothing is open
pub stands_closed : (places : List Item) (stride : ℕ) (ahead next : List DataItem) (filled : Filled) → Standing places stride ahead next filled → Outside ahead next
    → Standing places stride ahead next (closed filled)
stands_closed places stride ahead next filled s out = record { clear = s.clear; cursor = ((closing places stride ahead next filled s out).size, out) }
