-- What faultless rows have.
use Rattle.std.proofs.Common.{◌≡◌, ℕ, ◌+◌, ◌*◌, ◌<◌, ◌≤◌, refl, sym, ◌∙◌, ap, subst, arith, min, Bool, true, false, not, ◌&&◌, ◌||◌, ◌==◌, List, [], ◌∷◌, ◌++◌, length, take, drop, get_or, append_assoc, append-nil, Option, Some, None}
use Rattle.std.specs.Prelude.{is_some, MatchBool, IsSome, ⊤}
use Rattle.std.specs.Prelude.{nat_le, nat_lt}
use Rattle.std.proofs.lemmas.Bool.Decides.{nat_tests}
use Rattle.std.specs.List.{list_all}
use Rattle.std.proofs.lemmas.List.Folds.{list_all-append}
use Rattle.data_layout.specs.declared.row.Row.{Row}
use Rattle.data_layout.specs.declared.row.Spelled.{Spelled}
use Rattle.data_layout.specs.declared.row.Spelled.TheVariants as s
use Rattle.data_layout.specs.declared.row.Described.{Described}
use Rattle.data_layout.specs.declared.fault.LayoutFault.{LayoutFault}
use Rattle.data_layout.specs.declared.fault.LayoutFault.TheVariants.{StorageLimit, RecordLimit, BadLevel, BadPicture}
use Rattle.std.proofs.Common.{length-drop}
use Rattle.cob_base.specs.declared.data_entries.DataEntry.{DataEntry}
use Rattle.cob_base.specs.declared.data_entries.DataEntry.TheVariants.{Item as ItemEntry, Condition}
use Rattle.picture_rule.specs.declared.kind.SignPlace.{SignPlace}
use Rattle.data_layout.specs.Rows.{rank, IsRead, AreRows, AreAllRows, Section, picture_text, sign_place}
use Rattle.data_layout.specs.Storage.{opened, members, times, own_size, storage, is_repeated}
use Rattle.data_layout.specs.Faults.{level_fits, is_missing, is_refused, is_unreadable, has_size, is_in_range, has_bad_clauses, is_bad_level, passes_storage, passes_record, fault_where, row_faults, faults_after}
use Rattle.data_layout.specs.Placed.{IsMatched, AreMatched, CanBePlaced, IsPlacing}
use Rattle.data_layout.proofs.Groups.{storage-push}
use Rattle.data_layout.proofs.Places.{behind, times-some, nothing_left}
use Rattle.data_layout.proofs.JudgedRows.{from_place}
use Rattle.std.proofs.Math.Nat.{mul-le-mul_left}
use Rattle.std.proofs.lemmas.List.{take_more, take-append-drop, drop_all, take_all}
use Rattle.picture_rule.specs.Picture.{PictureValue, signed_at}
use Rattle.picture_rule.specs.Text.{picture_of}
use Rattle.data_layout.specs.declared.layout.Item.{Item}
use Rattle.data_layout.specs.declared.placing.Placing.{Placing}
use Rattle.data_layout.specs.declared.walk.Walk.{Walk}
use Rattle.data_layout.specs.Walk.{IsAfter, counted}
use Rattle.data_layout.specs.Layout.{size_of, IsOffset, IsItemPicture, IsItem, IsInside, AreItems}
use Rattle.std.specs.Prelude.{All, if◌then◌else◌}
use Rattle.std.proofs.lemmas.List.Elements.{All-push, All-nil}

pub neither : (a b : Bool) → (a || b) ≡ false → (a ≡ false) × (b ≡ false)
neither false false h = (refl, refl)
neither false true h = cc
neither true b h = cc

not_both : (a b : Bool) → (a && b) ≡ false → a ≡ true → b ≡ false
not_both true b h e = h
not_both false b h e = cc

twice_not : (b : Bool) → not b ≡ false → b ≡ true
twice_not true h = refl
twice_not false h = cc

once_not : (b : Bool) → b ≡ false → not b ≡ true
once_not true h = cc
once_not false h = refl

pub not_nested : (before : List Row) (row : Row) → is_bad_level before row ≡ false → is_some row.occurs ≡ true → is_repeated before row ≡ false
not_nested before row h o =
    not_both (is_some row.occurs) (is_repeated before row) (neither (not (level_fits before row)) (is_some row.occurs && is_repeated before row) (neither (not (level_fits before row) || (is_some row.occurs && is_repeated before row)) (has_bad_clauses row) h).0).1 o

pub good_clauses : (before : List Row) (row : Row) → is_bad_level before row ≡ false → has_bad_clauses row ≡ false
good_clauses before row h = (neither (not (level_fits before row) || (is_some row.occurs && is_repeated before row)) (has_bad_clauses row) h).1

parts_good : (t u v w x y : Bool) → (t || u || v || w || x || y) ≡ false → (w ≡ false) × (y ≡ false)
parts_good t u v w x y h =
    let five = neither (t || u || v || w || x) y h in
    let four = neither (t || u || v || w) x five.0 in
    let three = neither (t || u || v) w four.0 in
    (three.1, five.1)

pub good_number : (row : Row) → has_bad_clauses row ≡ false → is_in_range row.occurs ≡ true
good_number row h = twice_not (is_in_range row.occurs) (parts_good row.twice (row.group && (row.level == 77)) (row.group && not (is_missing row.spelled)) (not row.group && is_missing row.spelled) (is_some row.occurs && (rank row.level == 1)) (not (is_in_range row.occurs)) h).1

fits_of : (spelled : Spelled) → is_missing spelled ≡ false → is_refused spelled ≡ false → spelled ≡ s.Fits
fits_of s.Missing h k = cc
fits_of s.Unreadable h k = cc
fits_of s.TooWide h k = cc
fits_of s.Fits h k = refl

unless : (b : Bool) (P : Type 0) → (b ≡ false → P) → MatchBool b ⊤ P
unless true P f = tt
unless false P f = f refl

is_given : (row : Row) → has_bad_clauses row ≡ false → row.group ≡ false → is_missing row.spelled ≡ false
is_given row h e = not_both (not row.group) (is_missing row.spelled) (parts_good row.twice (row.group && (row.level == 77)) (row.group && not (is_missing row.spelled)) (not row.group && is_missing row.spelled) (is_some row.occurs && (rank row.level == 1)) (not (is_in_range row.occurs)) h).0 (once_not row.group e)

pub has_picture : (row : Row) (text : Described) → has_bad_clauses row ≡ false → is_refused row.spelled ≡ false → IsMatched row text → MatchBool row.group ⊤ (IsSome text.picture)
has_picture row text h k m = unless row.group (IsSome text.picture) (λ e.
    let made = m (fits_of row.spelled (is_given row h e) k) in
    rw made.1 refl)

picture_sized : (b : Bool) (row : Row) (rest : List Row) (text : Described) (picture : PictureValue) → row.group ≡ b → (b ≡ false → row.spelled ≡ s.Fits) → IsMatched row text
    → IsItemPicture b (size_of row rest) text.picture picture → picture.size ≡ size_of row rest
picture_sized true row rest text picture e f m h = ap (λ p. p.size) h
picture_sized false row rest text picture e f m h =
    let made = m (f refl) in
    let same : Some made.0 ≡ Some picture = sym made.1 ∙ h in
    let one : made.0 ≡ picture = cc in
    let own : size_of row rest ≡ row.size = ap (λ b. if b then storage (members row rest) else row.size) e in
    sym (ap (λ p. p.size) one) ∙ made.2 ∙ sym own

-- an item's picture has its size
pub picture_is_sized : (row : Row) (rest : List Row) (text : Described) (picture : PictureValue) → has_bad_clauses row ≡ false → is_refused row.spelled ≡ false → IsMatched row text
    → IsItemPicture row.group (size_of row rest) text.picture picture → picture.size ≡ size_of row rest
picture_is_sized row rest text picture h k m i = picture_sized row.group row rest text picture refl (λ e. fits_of row.spelled (is_given row h e) k) m i

-- ---- bytes of a front

pub front_le : (before : List Row) (row : Row) (rest : List Row) → storage before + own_size row * times (opened (before ++ row ∷ [])) ≤ storage (before ++ row ∷ rest)
front_le before row rest = omega (arith, behind before row rest, storage-push before row)

-- ---- rows without faults

no_fault : (b : Bool) (fault : LayoutFault) → fault_where b fault ≡ [] → b ≡ false
no_fault true fault h = cc
no_fault false fault h = refl

pub empty_parts : (a b : List LayoutFault) → a ++ b ≡ [] → (a ≡ []) × (b ≡ [])
empty_parts [] b h = (refl, h)
empty_parts (x ∷ a) b h = cc

pub record Faultless (before : List Row) (row : Row) : Type 0 where
  pub storage : passes_storage before row ≡ false
  pub level : is_bad_level before row ≡ false
  pub picture : is_refused row.spelled ≡ false

pub faultless_row : (before : List Row) (row : Row) (rest : List Row) → row_faults before row rest ≡ [] → Faultless before row
faultless_row before row rest h =
    let a = fault_where (passes_storage before row) (StorageLimit row.line) in
    let b = fault_where (passes_record row rest) (RecordLimit row.line) in
    let c = fault_where (is_bad_level before row) (BadLevel row.line) in
    let d = fault_where (is_refused row.spelled) (BadPicture row.line) in
    let first = empty_parts a (b ++ (c ++ d)) h in
    let second = empty_parts b (c ++ d) first.1 in
    let third = empty_parts c d second.1 in
    record { storage = no_fault (passes_storage before row) (StorageLimit row.line) first.0; level = no_fault (is_bad_level before row) (BadLevel row.line) third.0; picture = no_fault (is_refused row.spelled) (BadPicture row.line) third.1 }

readable : (spelled : Spelled) → is_refused spelled ≡ false → not (is_unreadable spelled) ≡ true
readable s.Missing h = refl
readable s.Unreadable h = cc
readable s.TooWide h = cc
readable s.Fits h = refl

or_right : (a b : Bool) → b ≡ true → (a || b) ≡ true
or_right true b h = refl
or_right false b h = h

has_its_size : (row : Row) → is_refused row.spelled ≡ false → has_size row ≡ true
has_its_size row h = or_right row.group (not (is_unreadable row.spelled)) (readable row.spelled h)

at_most : (m k : ℕ) → m ≤ k → nat_le m k ≡ true
at_most m k h = grind (arith, nat_tests)

no_more : (k n : ℕ) → nat_lt k n ≡ false → n ≤ k
no_more k n h = grind (arith, nat_tests)

kept_limit : (k : ℕ) (a : Bool) (m n : ℕ) → a ≡ true → m ≤ k → (a && nat_le m k && nat_lt k n) ≡ false → n ≤ k
kept_limit k a m n e h f =
    let both : (a && nat_le m k) ≡ true = rw (e, at_most m k h) refl in
    no_more k n (not_both (a && nat_le m k) (nat_lt k n) f both)

-- storage keeps its limit
pub keeps_limit : (before rest : List Row) → storage before ≤ 1000000 → list_all has_size before ≡ true → faults_after before rest ≡ [] → storage (before ++ rest) ≤ 1000000
keeps_limit before [] few sized h = rw append-nil few
keeps_limit before (row ∷ rest) few sized h =
    let parts = empty_parts (row_faults before row rest) (faults_after (before ++ row ∷ []) rest) h in
    let good = faultless_row before row rest parts.0 in
    let all : list_all has_size (before ++ row ∷ []) ≡ true = list_all-append has_size before (row ∷ []) ∙ rw (sized, has_its_size row good.picture) refl in
    let here : storage (before ++ row ∷ []) ≤ 1000000 = kept_limit 1000000 (list_all has_size (before ++ row ∷ [])) (storage before) (storage (before ++ row ∷ [])) all few good.storage in
    rw (← append_assoc before (row ∷ []) rest) (keeps_limit (before ++ row ∷ []) rest here all parts.1)

-- ---- counts that are small

pub small_count : (n : ℕ) → n ≤ 1000000 → counted n ≡ n
small_count n h = omega arith

pub small_sum : (before : List Row) (row : Row) (rest : List Row) (place own after : ℕ) → place ≤ storage before → storage (before ++ row ∷ rest) ≤ 1000000 → own ≡ own_size row
    → after ≡ min (place + own) 18446744073709551615 → after ≡ place + own_size row
small_sum before row rest place own after low few e f =
    let most : storage before + own_size row * times (opened (before ++ row ∷ [])) ≤ storage (before ++ row ∷ rest) = front_le before row rest in
    let some : own_size row * 1 ≤ own_size row * times (opened (before ++ row ∷ [])) = mul-le-mul_left (own_size row) (times-some (opened (before ++ row ∷ []))) in
    omega (arith, most, some, low, few, e, f)

pub same_offset : (before : List Row) (row : Row) (place offset : ℕ) → offset ≡ place → IsOffset before row place → IsOffset before row offset
same_offset before row place offset e h = subst (λ (n : ℕ). IsOffset before row n) (sym e) h

pub sized_picture : (row : Row) (rest : List Row) (given : Option PictureValue) (size : ℕ) (picture : PictureValue) → size ≡ size_of row rest
    → IsItemPicture row.group size given picture → IsItemPicture row.group (size_of row rest) given picture
sized_picture row rest given size picture e h = subst (λ (n : ℕ). IsItemPicture row.group n given picture) e h

-- ---- items so far

-- The rows before `i` were placed: with items of the rest these are the items of all rows.
pub record SoFar (rows : List Row) (texts left : List Described) (i : ℕ) (placing : Placing) (items : List Item) : Type 0 where
  pub placing_is : IsPlacing (take i rows) placing
  pub faultless : faults_after (take i rows) (drop i rows) ≡ []
  pub matched : AreMatched (drop i rows) left
  pub inside : All (IsInside (storage rows)) items
  pub read : (more : List Item) → AreItems (take i rows) (drop i rows) left more → AreItems [] rows texts (items ++ more)

pub first_place : (walk : Walk) → IsAfter [] walk → IsPlacing [] (record { walk = walk; next = 0 })
first_place walk h = record { walk = h; next = λ ahead group later e all occurs. absurd (nothing_left group group ahead later e) }

-- a text is left while a row is
pub text_left : (row : Row) (rows : List Row) (left : List Described) → AreMatched (row ∷ rows) left → 0 < length left
text_left row rows [] h = absurd h
text_left row rows (text ∷ left) h = omega arith

-- one more row can be placed
pub can_place : (rows : List Row) (i : ℕ) (d : Row) (rest : List Row) (text : Described) (left : List Described) → i < length rows → rest ≡ drop (i + 1) rows → storage rows ≤ 1000000
    → faults_after (take i rows) (drop i rows) ≡ [] → AreMatched (drop i rows) (text ∷ left) → CanBePlaced (take i rows) (get_or rows i d) rest text
can_place rows i d rest text left h r few faultless matched =
    let here : drop i rows ≡ get_or rows i d ∷ drop (i + 1) rows = from_place rows i d h in
    let none : faults_after (take i rows) (get_or rows i d ∷ drop (i + 1) rows) ≡ [] = subst (λ (xs : List Row). faults_after (take i rows) xs ≡ []) here faultless in
    let good = faultless_row (take i rows) (get_or rows i d) (drop (i + 1) rows) (empty_parts (row_faults (take i rows) (get_or rows i d) (drop (i + 1) rows)) (faults_after (take i rows ++ get_or rows i d ∷ []) (drop (i + 1) rows)) none).0 in
    let fits : AreMatched (get_or rows i d ∷ drop (i + 1) rows) (text ∷ left) = subst (λ (xs : List Row). AreMatched xs (text ∷ left)) here matched in
    record {
      level = good.level;
      picture = good.picture;
      few = rw (r, ← here, take-append-drop i rows) few;
      matched = fits.0;
    }

-- one more row is placed
pub placed_more : (rows : List Row) (texts : List Described) (i : ℕ) (d : Row) (rest : List Row) (text : Described) (left : List Described) (placing next : Placing) (items : List Item) (item : Item)
    → i < length rows → rest ≡ drop (i + 1) rows → SoFar rows texts (text ∷ left) i placing items → IsItem (take i rows) (get_or rows i d) rest text item × IsPlacing (take i rows ++ get_or rows i d ∷ []) next × IsInside (storage (take i rows ++ get_or rows i d ∷ rest)) item
    → SoFar rows texts left (i + 1) next (items ++ item ∷ [])
placed_more rows texts i d rest text left placing next items item h r so k =
    let here : drop i rows ≡ get_or rows i d ∷ drop (i + 1) rows = from_place rows i d h in
    let all : storage (take i rows ++ get_or rows i d ∷ rest) ≡ storage rows = ap (λ xs. storage (take i rows ++ get_or rows i d ∷ xs)) r ∙ ap (λ xs. storage (take i rows ++ xs)) (sym here) ∙ ap storage (take-append-drop i rows) in
    let one : take (i + 1) rows ≡ take i rows ++ get_or rows i d ∷ [] = take_more rows i d h in
    let none : faults_after (take i rows) (get_or rows i d ∷ drop (i + 1) rows) ≡ [] = subst (λ (xs : List Row). faults_after (take i rows) xs ≡ []) here so.faultless in
    let fits : AreMatched (get_or rows i d ∷ drop (i + 1) rows) (text ∷ left) = subst (λ (xs : List Row). AreMatched xs (text ∷ left)) here so.matched in
    let made : IsItem (take i rows) (get_or rows i d) (drop (i + 1) rows) text item = subst (λ (xs : List Row). IsItem (take i rows) (get_or rows i d) xs text item) r k.0 in
    record {
      placing_is = rw one k.1;
      faultless = rw one (empty_parts (row_faults (take i rows) (get_or rows i d) (drop (i + 1) rows)) (faults_after (take i rows ++ get_or rows i d ∷ []) (drop (i + 1) rows)) none).1;
      matched = fits.1;
      inside = All-push (IsInside (storage rows)) items item so.inside (subst (λ (n : ℕ). IsInside n item) all k.2);
      read = λ more m.
          let whole : AreItems (take i rows) (get_or rows i d ∷ drop (i + 1) rows) (text ∷ left) (item ∷ more) = (made, rw one at m) in
          rw (append_assoc items (item ∷ []) more) (so.read (item ∷ more) (rw here whole));
    }

-- all rows are placed
pub placed_all : (rows : List Row) (texts left : List Described) (i : ℕ) (placing : Placing) (items : List Item) → length rows ≤ i → SoFar rows texts left i placing items → AreItems [] rows texts items
placed_all rows texts left i placing items h so =
    let over : drop i rows ≡ [] = drop_all i rows h in
    let none : left ≡ [] = subst (λ (xs : List Row). AreMatched xs left) over so.matched in
    rw (← append-nil items) (so.read [] (rw (over, none) (refl, refl)))

pub total_is : (rows : List Row) (i : ℕ) (placing : Placing) → length rows ≤ i → IsPlacing (take i rows) placing → storage rows ≤ 1000000 → placing.walk.total ≡ storage rows
total_is rows i placing h p few =
    let all : take i rows ≡ rows = take_all i rows h in
    p.walk.total ∙ ap (λ xs. counted (storage xs)) all ∙ small_count (storage rows) few

AreMatched-length : (rows : List Row) (left : List Described) → AreMatched rows left → length rows ≡ length left
AreMatched-length [] left h = sym (ap length h)
AreMatched-length (row ∷ rows) [] h = absurd h
AreMatched-length (row ∷ rows) (text ∷ left) h = let e = AreMatched-length rows left h.1 in omega arith

pub some_left : (rows : List Row) (i : ℕ) (left : List Described) → i < length rows → AreMatched (drop i rows) left → 0 < length left
some_left rows i left h m = omega (arith, AreMatched-length (drop i rows) left m, length-drop i rows)

pub so_first : (rows : List Row) (texts left : List Described) (walk : Walk) (items : List Item) → left ≡ texts → items ≡ [] → IsAfter [] walk → faults_after [] rows ≡ [] → AreMatched rows texts
    → SoFar rows texts left 0 (record { walk = walk; next = 0 }) items
so_first rows texts left walk items e n h f m = record {
  placing_is = first_place walk h;
  faultless = f;
  matched = rw e m;
  inside = rw n (All-nil (IsInside (storage rows)));
  read = λ more k. rw (n, ← e) k;
}

-- ---- rows with their texts

matched_read : (text : Option (List ℕ)) (place : SignPlace) (spelled : Spelled) (size : ℕ) (picture : Option PictureValue) → IsRead text place spelled size picture → spelled ≡ s.Fits
    → (p : PictureValue) × (picture ≡ Some p) × (p.size ≡ size)
matched_read None place spelled size picture h e = let no_text = h.0 in cc
matched_read (Some text) place s.Missing size picture h e = cc
matched_read (Some text) place s.Unreadable size picture h e = cc
matched_read (Some text) place s.TooWide size picture h e = cc
matched_read (Some text) place s.Fits size picture h e = (signed_at place (picture_of h.0 h.1), h.5, sym h.4)

pub matched_rows : (in_file starts : Bool) (n : ℕ) (entries : List DataEntry) (rows : List Row) (texts : List Described) → AreRows in_file starts n entries rows texts → AreMatched rows texts
matched_rows in_file starts n [] rows texts h = rw (h.0, h.1) refl
matched_rows in_file starts n (Condition entry ∷ rest) rows texts h = matched_rows in_file starts n rest rows texts h
matched_rows in_file starts n (ItemEntry entry ∷ rest) rows texts h =
    let one : IsMatched h.0 h.1 = λ e. matched_read (picture_text entry.clauses) (sign_place entry.clauses) h.0.spelled h.0.size h.1.picture h.4.read e in
    rw (h.6, h.7) (one, matched_rows in_file false (n + 1) rest h.2 h.3 h.5)

AreMatched-append : (a b : List Row) (s t : List Described) → AreMatched a s → AreMatched b t → AreMatched (a ++ b) (s ++ t)
AreMatched-append [] b s t h k = rw h k
AreMatched-append (row ∷ a) b [] t h k = absurd h
AreMatched-append (row ∷ a) b (text ∷ s) t h k = (h.0, AreMatched-append a b s t h.1 k)

pub matched_all : (n : ℕ) (sections : List Section) (rows : List Row) (texts : List Described) → AreAllRows n sections rows texts → AreMatched rows texts
matched_all n [] rows texts h = rw (h.0, h.1) refl
matched_all n (section ∷ sections) rows texts h =
    rw (h.6, h.7) (AreMatched-append h.0 h.2 h.1 h.3 (matched_rows section.in_file true n section.entries h.0 h.1 h.4) (matched_all (n + length h.0) sections h.2 h.3 h.5))
