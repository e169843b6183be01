-- Items stand section by section: the records of each file in order, then working storage.
use Rattle.std.proofs.Common.{◌≡◌, ◌∙◌, ◌⊎◌, inl, inr, refl, sym, ap, subst, arith, ℕ, ◌+◌, ◌<◌, ◌≤◌, Bool, true, false, not, ◌&&◌, List, [], ◌∷◌, ◌++◌, append_assoc, append-nil, length, map, Option, Some, None}
use Rattle.std.specs.Prelude.{is_some}
use Rattle.std.specs.List.{list_any, list_all}
use Rattle.std.proofs.lemmas.Bool.Decides.{nat_tests}
use Rattle.cob_base.specs.declared.divisions.Front.{Front}
use Rattle.cob_base.specs.declared.divisions.DataDivision.{DataDivision}
use Rattle.cob_base.specs.declared.divisions.FileDescription.{FileDescription}
use Rattle.cob_base.specs.declared.data_entries.DataEntry.{DataEntry}
use Rattle.cob_base.specs.declared.data_entries.DataEntry.TheVariants.{Item, Condition}
use Rattle.data_layout.specs.declared.row.Row.{Row}
use Rattle.data_layout.specs.declared.row.Described.{Described}
use Rattle.data_layout.specs.Rows.{AreRows, AreAllRows, data_sections, file_section, storage_section, or_none}
use Rattle.data_names.specs.Parts.{Source, item_entries, descriptions_of, working_storage_of}
use Rattle.data_names.specs.Items.{DataItem, AreDataItems, file_sources}
use Rattle.data_names.specs.Seen.{filed}
use Rattle.key_rules.specs.KeyPlaces.{same_number}

-- a file of a number that is n at least
abbrev pub IsLater : ℕ → Option ℕ → Type 0
IsLater n None = Unit {0}
IsLater n (Some m) = n ≤ m

abbrev pub next : ℕ → Option ℕ → ℕ
next n None = n
next n (Some m) = m + 1

-- Items after one of the file `last`, where the files to come have the number n at least: each begins a section, or goes on in its.
abbrev pub Sectioned : Option ℕ → ℕ → List DataItem → Type 0
Sectioned last n [] = Unit {0}
Sectioned last n (x ∷ rest) =
    (x.row.in_file ≡ is_some x.source.file)
    × (((x.row.starts ≡ false) × (x.source.file ≡ last) × Sectioned last n rest)
    ⊎ ((x.row.starts ≡ true) × IsLater n x.source.file × Sectioned x.source.file (next n x.source.file) rest))

-- ---- one section

-- what is left behind the items of some entries
record Left (file : Option ℕ) (items : List DataItem) (rows : List Row) (sources : List Source) : Type 0 where
  rest : List DataItem
  rows_are : map (λ (item : DataItem). item.row) rest ≡ rows
  sources_are : map (λ (item : DataItem). item.source) rest ≡ sources
  joined : (n : ℕ) → Sectioned file n rest → Sectioned file n items

inner : (in_file : Bool) (k : ℕ) (file : Option ℕ) (entries : List DataEntry) (rows : List Row) (texts : List Described) (later : List Row) (more : List Source) (items : List DataItem)
    → in_file ≡ is_some file → AreRows in_file false k entries rows texts → map (λ (item : DataItem). item.row) items ≡ rows ++ later
    → map (λ (item : DataItem). item.source) items ≡ map (filed file) (item_entries entries) ++ more → Left file items later more
inner in_file k file [] rows texts later more items i h r s = record { rest = items; rows_are = r ∙ ap (λ front. front ++ later) h.0; sources_are = s; joined = λ n g. g }
inner in_file k file (Condition entry ∷ entries) rows texts later more items i h r s = inner in_file k file entries rows texts later more items i h r s
inner in_file k file (Item entry ∷ entries) rows texts later more [] i h r s = cc (r, h.6)
inner in_file k file (Item entry ∷ entries) rows texts later more (x ∷ items) i h r s =
    let both : x.row ∷ map (λ (item : DataItem). item.row) items ≡ h.0 ∷ (h.2 ++ later) = r ∙ ap (λ front. front ++ later) h.6 in
    let row : x.row ≡ h.0 = cc both in
    let rows_left : map (λ (item : DataItem). item.row) items ≡ h.2 ++ later = cc both in
    let source : x.source ≡ filed file entry = cc s in
    let sources_left : map (λ (item : DataItem). item.source) items ≡ map (filed file) (item_entries entries) ++ more = cc s in
    let tail = inner in_file (k + 1) file entries h.2 h.3 later more items i h.5 rows_left sources_left in
    let of_file : x.source.file ≡ file = ap (λ (one : Source). one.file) source in
    let starts : x.row.starts ≡ false = ap (λ (one : Row). one.starts) row ∙ h.4.starts in
    let inside : x.row.in_file ≡ is_some x.source.file = ap (λ (one : Row). one.in_file) row ∙ h.4.in_file ∙ i ∙ ap is_some (sym of_file) in
    record { rest = tail.rest; rows_are = tail.rows_are; sources_are = tail.sources_are; joined = λ n g. (inside, inl (starts, of_file, tail.joined n g)) }

record Begun (file : Option ℕ) (items : List DataItem) (rows : List Row) (sources : List Source) : Type 0 where
  rest : List DataItem
  rows_are : map (λ (item : DataItem). item.row) rest ≡ rows
  sources_are : map (λ (item : DataItem). item.source) rest ≡ sources
  joined : (last : Option ℕ) (n : ℕ) → IsLater n file → Sectioned file (next n file) rest → Sectioned last n rest → Sectioned last n items

begun : (in_file : Bool) (k : ℕ) (file : Option ℕ) (entries : List DataEntry) (rows : List Row) (texts : List Described) (later : List Row) (more : List Source) (items : List DataItem)
    → in_file ≡ is_some file → AreRows in_file true k entries rows texts → map (λ (item : DataItem). item.row) items ≡ rows ++ later
    → map (λ (item : DataItem). item.source) items ≡ map (filed file) (item_entries entries) ++ more → Begun file items later more
begun in_file k file [] rows texts later more items i h r s = record { rest = items; rows_are = r ∙ ap (λ front. front ++ later) h.0; sources_are = s; joined = λ last n l a b. b }
begun in_file k file (Condition entry ∷ entries) rows texts later more items i h r s = begun in_file k file entries rows texts later more items i h r s
begun in_file k file (Item entry ∷ entries) rows texts later more [] i h r s = cc (r, h.6)
begun in_file k file (Item entry ∷ entries) rows texts later more (x ∷ items) i h r s =
    let both : x.row ∷ map (λ (item : DataItem). item.row) items ≡ h.0 ∷ (h.2 ++ later) = r ∙ ap (λ front. front ++ later) h.6 in
    let row : x.row ≡ h.0 = cc both in
    let rows_left : map (λ (item : DataItem). item.row) items ≡ h.2 ++ later = cc both in
    let source : x.source ≡ filed file entry = cc s in
    let sources_left : map (λ (item : DataItem). item.source) items ≡ map (filed file) (item_entries entries) ++ more = cc s in
    let tail = inner in_file (k + 1) file entries h.2 h.3 later more items i h.5 rows_left sources_left in
    let of_file : x.source.file ≡ file = ap (λ (one : Source). one.file) source in
    let starts : x.row.starts ≡ true = ap (λ (one : Row). one.starts) row ∙ h.4.starts in
    let inside : x.row.in_file ≡ is_some x.source.file = ap (λ (one : Row). one.in_file) row ∙ h.4.in_file ∙ i ∙ ap is_some (sym of_file) in
    record {
      rest = tail.rest;
      rows_are = tail.rows_are;
      sources_are = tail.sources_are;
      joined = λ last n l a b. (inside, inr (starts, subst (IsLater n) (sym of_file) l, subst (λ (one : Option ℕ). Sectioned one (next n one) items) (sym of_file) (tail.joined (next n file) a)));
    }

-- ---- all sections

none_left : (last : Option ℕ) (n : ℕ) (items : List DataItem) → map (λ (item : DataItem). item.row) items ≡ [] → Sectioned last n items
none_left last n [] e = tt
none_left last n (x ∷ items) e = cc e

walk : (number k : ℕ) (files : List FileDescription) (storage : List DataEntry) (rows : List Row) (texts : List Described) (items : List DataItem)
    → AreAllRows k (map file_section files ++ storage_section storage ∷ []) rows texts → map (λ (item : DataItem). item.row) items ≡ rows
    → map (λ (item : DataItem). item.source) items ≡ file_sources number files ++ map (filed None) (item_entries storage) → (last : Option ℕ) (n : ℕ) → n ≤ number → Sectioned last n items
walk number k [] storage rows texts items h r s last n le =
    let section = begun false k None storage h.0 h.1 h.2 [] items refl h.4 (r ∙ h.6) (s ∙ sym (append-nil (map (filed None) (item_entries storage)))) in
    let none : map (λ (item : DataItem). item.row) section.rest ≡ [] = section.rows_are ∙ h.5.0 in
    section.joined last n tt (none_left None n section.rest none) (none_left last n section.rest none)
walk number k (file ∷ files) storage rows texts items h r s last n le =
    let section = begun true k (Some number) file.records h.0 h.1 h.2 (file_sources (number + 1) files ++ map (filed None) (item_entries storage)) items refl h.4 (r ∙ h.6)
    (s ∙ append_assoc (map (filed (Some number)) (item_entries file.records)) (file_sources (number + 1) files) (map (filed None) (item_entries storage))) in
    let tail = walk (number + 1) (k + length h.0) files storage h.2 h.3 section.rest h.5 section.rows_are section.sources_are in
    section.joined last n le (tail (Some number) (number + 1) (omega arith)) (tail last n (omega (arith, le)))

sectioned_of : (d : Option DataDivision) (rows : List Row) (texts : List Described) (items : List DataItem) → AreAllRows 0 (data_sections d) rows texts → map (λ (item : DataItem). item.row) items ≡ rows
    → map (λ (item : DataItem). item.source) items ≡ file_sources 0 (descriptions_of d) ++ map (filed None) (item_entries (working_storage_of d)) → Sectioned None 0 items
sectioned_of None rows texts items h r s = none_left None 0 items (r ∙ h.0)
sectioned_of (Some division) rows texts items h r s = walk 0 0 (or_none division.files) (or_none division.working_storage) rows texts items h r s None 0 (omega arith)

pub sectioned : (front : Front) (items : List DataItem) → AreDataItems front items → Sectioned None 0 items
sectioned front items h = sectioned_of front.data (map (λ (item : DataItem). item.row) items) (map (λ (item : DataItem). item.text) items) items h.rows refl h.entries

-- ---- what sections say of two items

starts_apart : {P : Type 0} (b : Bool) → b ≡ false → b ≡ true → P
starts_apart b e f = cc (e, f)

-- the items of one section are of one file
along : (last : Option ℕ) (n : ℕ) (middle : List DataItem) (x : DataItem) (rest : List DataItem) → Sectioned last n (middle ++ x ∷ rest)
    → list_all (λ (item : DataItem). not item.row.starts) (middle ++ x ∷ []) ≡ true → x.source.file ≡ last
along last n [] x rest (h, inl g) e = g.1
along last n [] x rest (h, inr g) e = starts_apart x.row.starts (none_starts x.row.starts e) g.0
  where
    none_starts : (b : Bool) → (not b && true) ≡ true → b ≡ false
    none_starts true e = cc e
    none_starts false e = refl
along last n (y ∷ middle) x rest (h, inl g) e = along last n middle x rest g.2 (later_all (not y.row.starts) (list_all (λ (item : DataItem). not item.row.starts) (middle ++ x ∷ [])) e)
  where
    later_all : (a b : Bool) → (a && b) ≡ true → b ≡ true
    later_all true b e = e
    later_all false b e = cc e
along last n (y ∷ middle) x rest (h, inr g) e = starts_apart y.row.starts (first_all y.row.starts (list_all (λ (item : DataItem). not item.row.starts) (middle ++ x ∷ [])) e) g.0
  where
    first_all : (a b : Bool) → (not a && b) ≡ true → a ≡ false
    first_all true b e = cc e
    first_all false b e = refl

pub one_file : (last : Option ℕ) (n : ℕ) (ahead : List DataItem) (g : DataItem) (middle : List DataItem) (x : DataItem) (rest : List DataItem)
    → Sectioned last n (ahead ++ g ∷ (middle ++ x ∷ rest)) → list_all (λ (item : DataItem). not item.row.starts) (middle ++ x ∷ []) ≡ true → x.source.file ≡ g.source.file
one_file last n [] g middle x rest (h, inl k) e = along last n middle x rest k.2 e ∙ sym k.1
one_file last n [] g middle x rest (h, inr k) e = along g.source.file (next n g.source.file) middle x rest k.2 e
one_file last n (y ∷ ahead) g middle x rest (h, inl k) e = one_file last n ahead g middle x rest k.2 e
one_file last n (y ∷ ahead) g middle x rest (h, inr k) e = one_file y.source.file (next n y.source.file) ahead g middle x rest k.2 e

pub inside_file : (last : Option ℕ) (n : ℕ) (ahead : List DataItem) (g : DataItem) (rest : List DataItem) → Sectioned last n (ahead ++ g ∷ rest) → g.row.in_file ≡ is_some g.source.file
inside_file last n [] g rest h = h.0
inside_file last n (y ∷ ahead) g rest (h, inl k) = inside_file last n ahead g rest k.2
inside_file last n (y ∷ ahead) g rest (h, inr k) = inside_file y.source.file (next n y.source.file) ahead g rest k.2

-- the file before has a smaller number than those to come
abbrev Below : Option ℕ → ℕ → Type 0
Below None n = Unit {0}
Below (Some m) n = m < n

below_next : (n : ℕ) (file : Option ℕ) → Below file (next n file)
below_next n None = tt
below_next n (Some m) = omega arith

not_last : (last : Option ℕ) (n f : ℕ) → Below last n → n ≤ f → same_number (Some f) last ≡ false
not_last None n f b le = refl
not_last (Some m) n f b le = let apart : m < f = omega (arith, b, le) in grind (arith, nat_tests)

still_later : (n f : ℕ) (file : Option ℕ) → IsLater n file → next n file ≤ f → n ≤ f
still_later n f None l le = le
still_later n f (Some m) l le = omega (arith, l, le)

-- before the item that begins a file's section none is of that file
pub first_of_file : (last : Option ℕ) (n : ℕ) (ahead : List DataItem) (g : DataItem) (rest : List DataItem) (f : ℕ) → Below last n → Sectioned last n (ahead ++ g ∷ rest) → g.row.starts ≡ true → g.source.file ≡ Some f
    → (n ≤ f) × (list_any (λ (item : DataItem). same_number (Some f) item.source.file) ahead ≡ false)
first_of_file last n [] g rest f b (h, inl k) st e = starts_apart g.row.starts k.0 st
first_of_file last n [] g rest f b (h, inr k) st e = (subst (IsLater n) e k.1, refl)
first_of_file last n (y ∷ ahead) g rest f b (h, inl k) st e =
    let later = first_of_file last n ahead g rest f b k.2 st e in
    let here : same_number (Some f) y.source.file ≡ false = ap (same_number (Some f)) k.1 ∙ not_last last n f b later.0 in (later.0, rw here later.1)
first_of_file last n (y ∷ ahead) g rest f b (h, inr k) st e =
    let later = first_of_file y.source.file (next n y.source.file) ahead g rest f (below_next n y.source.file) k.2 st e in
    let here : same_number (Some f) y.source.file ≡ false = not_last y.source.file (next n y.source.file) f (below_next n y.source.file) later.0 in
    (still_later n f y.source.file k.1 later.0, rw here later.1)
