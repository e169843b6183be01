-- Rows as they are gathered.
use Rattle.std.proofs.Common.{◌≡◌, ℕ, ◌+◌, ◌<◌, ◌≤◌, refl, sym, ◌∙◌, ap, subst, arith, Bool, true, false, List, [], ◌∷◌, ◌++◌, length, take, drop, get_or, map, append_assoc, append-nil, length-append}
use Rattle.std.proofs.Common.{add-one, drop-cons}
use Rattle.std.proofs.lemmas.List.{take_more, drop_all, map-append}
use Rattle.std.proofs.lemmas.Grind.{flat_map-append}
use Rattle.cob_base.specs.declared.divisions.FileDescription.{FileDescription}
use Rattle.cob_base.specs.declared.data_entries.DataEntry.{DataEntry}
use Rattle.cob_base.specs.declared.data_entries.DataEntry.TheVariants.{Item, Condition}
use Rattle.cob_base.specs.declared.data_entries.ItemEntry.{ItemEntry}
use Rattle.cob_base.specs.declared.data_entries.ConditionEntry.{ConditionEntry}
use Rattle.data_layout.specs.declared.row.Row.{Row}
use Rattle.data_layout.specs.declared.row.Described.{Described}
use Rattle.data_layout.specs.declared.reading.Gathered.{Gathered}
use Rattle.data_layout.specs.Rows.{Section, IsRow, AreRows, AreAllRows, strays, leading_conditions, file_section}
use Rattle.data_layout.specs.Gathered.{Adds, Goes}

pub goes_first : (in_file : Bool) (entries : List DataEntry) (rows : List Row) (texts : List Described) → Goes in_file true entries 0 rows rows texts texts
goes_first in_file entries rows texts = record {
  more = [];
  names = [];
  rows_are = sym (append-nil rows);
  texts_are = sym (append-nil texts);
  few = omega arith;
  read = λ r t h. h;
}

-- past an 88 entry
pub goes_past : (in_file starts : Bool) (entries : List DataEntry) (i : ℕ) (rows0 rows : List Row) (texts0 texts : List Described) (entry : ConditionEntry)
    → drop i entries ≡ Condition entry ∷ drop (i + 1) entries → Goes in_file starts entries i rows0 rows texts0 texts → Goes in_file starts entries (i + 1) rows0 rows texts0 texts
goes_past in_file starts entries i rows0 rows texts0 texts entry e g = record {
  more = g.more;
  names = g.names;
  rows_are = g.rows_are;
  texts_are = g.texts_are;
  few = let h = g.few in omega arith;
  read = λ r t h. g.read r t (rw e h);
}

-- with the row of an item
pub goes_on_with : (in_file starts : Bool) (entries : List DataEntry) (i : ℕ) (rows0 rows : List Row) (texts0 texts : List Described) (entry : ItemEntry) (row : Row) (text : Described)
    → drop i entries ≡ Item entry ∷ drop (i + 1) entries → IsRow in_file starts (length rows) entry (drop (i + 1) entries) row text
    → Goes in_file starts entries i rows0 rows texts0 texts → Goes in_file false entries (i + 1) rows0 (rows ++ row ∷ []) texts0 (texts ++ text ∷ [])
goes_on_with in_file starts entries i rows0 rows texts0 texts entry row text e k g = record {
  more = g.more ++ row ∷ [];
  names = g.names ++ text ∷ [];
  rows_are = ap (λ xs. xs ++ row ∷ []) g.rows_are ∙ append_assoc rows0 g.more (row ∷ []);
  texts_are = ap (λ xs. xs ++ text ∷ []) g.texts_are ∙ append_assoc texts0 g.names (text ∷ []);
  few = let h = g.few in let l = length-append g.more (row ∷ []) in omega arith;
  read = λ r t h.
      let n : length (rows ++ row ∷ []) ≡ length rows + 1 = length-append rows (row ∷ []) ∙ omega arith in
      let h' : AreRows in_file false (length rows + 1) (drop (i + 1) entries) r t = subst (λ (m : ℕ). AreRows in_file false m (drop (i + 1) entries) r t) n h in
      rw (append_assoc g.more (row ∷ []) r, append_assoc g.names (text ∷ []) t) (g.read (row ∷ r) (text ∷ t) (rw e (row, text, r, t, k, h', refl, refl)));
}

-- all entries
pub goes_all : (in_file starts : Bool) (entries : List DataEntry) (i : ℕ) (rows0 rows : List Row) (texts0 texts : List Described) → drop i entries ≡ []
    → (g : Goes in_file starts entries i rows0 rows texts0 texts) → AreRows in_file true (length rows0) entries g.more g.names
goes_all in_file starts entries i rows0 rows texts0 texts e g =
    rw (← append-nil g.more, ← append-nil g.names) (g.read [] [] (rw e (refl, refl)))

-- ---- sections one after another

pub AreAllRows-append : (n : ℕ) (a b : List Section) (r r' : List Row) (t t' : List Described) → AreAllRows n a r t → AreAllRows (n + length r) b r' t' → AreAllRows n (a ++ b) (r ++ r') (t ++ t')
AreAllRows-append n [] b r r' t t' h k =
    let n' : n + length r ≡ n = omega (arith, ap length h.0) in
    rw (h.0, h.1) (subst (λ (m : ℕ). AreAllRows m b r' t') n' k)
AreAllRows-append n (section ∷ a) b r r' t t' h k =
    let n' : n + length r ≡ (n + length h.0) + length h.2 = omega (arith, ap length h.6, length-append h.0 h.2) in (
      h.0,
      h.1,
      h.2 ++ r',
      h.3 ++ t',
      h.4,
      AreAllRows-append (n + length h.0) a b h.2 r' h.3 t' h.5 (subst (λ (m : ℕ). AreAllRows m b r' t') n' k),
      ap (λ xs. xs ++ r') h.6 ∙ append_assoc h.0 h.2 r',
      ap (λ xs. xs ++ t') h.7 ∙ append_assoc h.1 h.3 t',
    )

-- the entries from a place on
pub entry_at : (entries : List DataEntry) (i : ℕ) (entry : DataEntry) → i < length entries → entry ≡ get_or entries i entry → drop i entries ≡ entry ∷ drop (i + 1) entries
entry_at entries i entry h e = from_here ∙ ap (λ x. x ∷ drop (i + 1) entries) (sym e)
  where
    from_here : drop i entries ≡ get_or entries i entry ∷ drop (i + 1) entries
    from_here = rw (add-one, drop-cons entries i entry)

-- a section is added
pub added_one : (in_file starts : Bool) (entries : List DataEntry) (i : ℕ) (old new : Gathered) → length entries ≤ i
    → Goes in_file starts entries i old.rows.items new.rows.items old.texts.items new.texts.items → new.strays.items ≡ old.strays.items ++ leading_conditions entries
    → Adds (record { in_file = in_file; entries = entries } ∷ []) old new
added_one in_file starts entries i old new h g e = record {
  more = g.more;
  names = g.names;
  read = (g.more, g.names, [], [], goes_all in_file starts entries i old.rows.items new.rows.items old.texts.items new.texts.items (drop_all i entries h) g, (refl, refl), sym (append-nil g.more), sym (append-nil g.names));
  rows = g.rows_are;
  texts = g.texts_are;
  strays_are = e ∙ ap (λ xs. old.strays.items ++ xs) (sym (append-nil (leading_conditions entries)));
}

pub strays-append : (a b : List Section) → strays (a ++ b) ≡ strays a ++ strays b
strays-append a b = flat_map-append (λ section. leading_conditions section.entries) a b

-- sections are added one after another
pub Adds-append : (a b : List Section) (old mid new : Gathered) → Adds a old mid → Adds b mid new → Adds (a ++ b) old new
Adds-append a b old mid new g h =
    let n : length mid.rows.items ≡ length old.rows.items + length g.more = ap length g.rows ∙ length-append old.rows.items g.more in
    record {
      more = g.more ++ h.more;
      names = g.names ++ h.names;
      read = AreAllRows-append (length old.rows.items) a b g.more h.more g.names h.names g.read (subst (λ (m : ℕ). AreAllRows m b h.more h.names) n h.read);
      rows = h.rows ∙ ap (λ xs. xs ++ h.more) g.rows ∙ append_assoc old.rows.items g.more h.more;
      texts = h.texts ∙ ap (λ xs. xs ++ h.names) g.texts ∙ append_assoc old.texts.items g.names h.names;
      strays_are = h.strays_are ∙ ap (λ xs. xs ++ strays b) g.strays_are ∙ append_assoc old.strays.items (strays a) (strays b) ∙ ap (λ xs. old.strays.items ++ xs) (sym (strays-append a b));
    }

-- nothing is added
pub Adds-none : (old : Gathered) → Adds [] old old
Adds-none old = record { more = []; names = []; read = (refl, refl); rows = sym (append-nil old.rows.items); texts = sym (append-nil old.texts.items); strays_are = sym (append-nil old.strays.items) }

-- one more file
pub files_more : (files : List FileDescription) (i : ℕ) (d : FileDescription) (old new : Gathered) → i < length files → Adds (map file_section (take i files) ++ file_section (get_or files i d) ∷ []) old new
    → Adds (map file_section (take (i + 1) files)) old new
files_more files i d old new h g = rw (take_more files i d h, map-append file_section (take i files) (get_or files i d ∷ [])) g

-- a file is added
pub file_added : (files : List FileDescription) (i : ℕ) (file : FileDescription) (records : List DataEntry) (old mid new : Gathered) → i < length files → file ≡ get_or files i file → records ≡ file.records
    → Adds (map file_section (take i files)) old mid → Adds (record { in_file = true; entries = records } ∷ []) mid new → Adds (map file_section (take (i + 1) files)) old new
file_added files i file records old mid new h e r g k =
    let is : record { in_file = true; entries = records } ≡ file_section (get_or files i file) = ap (λ xs. record { in_file = true; entries = xs }) r ∙ ap file_section e in
    files_more files i file old new h (Adds-append (map file_section (take i files)) (file_section (get_or files i file) ∷ []) old mid new g
    (subst (λ (section : Section). Adds (section ∷ []) mid new) is k))
