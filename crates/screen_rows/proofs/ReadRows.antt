-- Rows of screen entries, as they are read.
use Rattle.std.proofs.Common.{◌≡◌, ℕ, ◌+◌, ◌<◌, ◌≤◌, refl, sym, ◌∙◌, ap, subst, add-one, drop-cons, List, [], ◌∷◌, ◌++◌, length, drop, get_or, append_assoc, append-nil}
use Rattle.std.proofs.lemmas.List.{drop_all}
use Rattle.cob_base.specs.declared.screen_entries.ScreenEntry.{ScreenEntry}
use Rattle.data_layout.specs.declared.layout.Layout.{Layout}
use Rattle.screen_rows.specs.declared.row.ScreenRow.{ScreenRow}
use Rattle.screen_rows.specs.declared.row.Content.{Content}
use Rattle.screen_rows.specs.Rows.{IsScreenRow, AreScreenRows}

abbrev pub GoOn : Layout → List ScreenEntry → ℕ → List ScreenRow → List Content → Type 0
GoOn layout entries i rows contents = (r : List ScreenRow) (c : List Content) → AreScreenRows layout (drop i entries) r c → AreScreenRows layout entries (rows ++ r) (contents ++ c)

-- the entries from a place on
pub entries_from : (entries : List ScreenEntry) (i : ℕ) (entry : ScreenEntry) → i < length entries → entry ≡ get_or entries i entry → drop i entries ≡ entry ∷ drop (i + 1) entries
entries_from entries i entry h e = from_here ∙ ap (λ x. x ∷ drop (i + 1) entries) (sym e)
  where
    from_here : drop i entries ≡ get_or entries i entry ∷ drop (i + 1) entries
    from_here = rw (add-one, drop-cons entries i entry)

-- one more row
pub go_on : (layout : Layout) (entries : List ScreenEntry) (i : ℕ) (entry : ScreenEntry) (rest : List ScreenEntry) (rows : List ScreenRow) (contents : List Content) (row : ScreenRow) (content : Content)
    → i < length entries → entry ≡ get_or entries i entry → rest ≡ drop (i + 1) entries → IsScreenRow layout entry rest row content → GoOn layout entries i rows contents
    → GoOn layout entries (i + 1) (rows ++ row ∷ []) (contents ++ content ∷ [])
go_on layout entries i entry rest rows contents row content h e f is so = λ r c k.
    let made : IsScreenRow layout entry (drop (i + 1) entries) row content = subst (λ (xs : List ScreenEntry). IsScreenRow layout entry xs row content) f is in
    rw (append_assoc rows (row ∷ []) r, append_assoc contents (content ∷ []) c) (so (row ∷ r) (content ∷ c) (rw (entries_from entries i entry h e) (made, k)))

-- all rows
pub gone_over : (layout : Layout) (entries : List ScreenEntry) (i : ℕ) (rows : List ScreenRow) (contents : List Content) → length entries ≤ i → GoOn layout entries i rows contents → AreScreenRows layout entries rows contents
gone_over layout entries i rows contents h so = rw (← append-nil rows, ← append-nil contents) (so [] [] (rw (drop_all i entries h) (refl, refl)))
