-- The entries of a program's screens as the rules on the front and as the plans of screens see them: their levels.
use Rattle.std.proofs.Common.{◌≡◌, ◌∙◌, refl, sym, ap, ℕ, ◌==◌, nat_lt, Bool, true, false, not, ◌&&◌, ◌||◌, List, [], ◌∷◌, ◌++◌, map, Option, Some, None}
use Rattle.std.specs.Prelude.{if◌then◌else◌}
use Rattle.std.specs.List.{list_any, list_all, last_or}
use Rattle.data_layout.specs.declared.row.Row.{Row}
use Rattle.data_layout.specs.Rows.{rank}
use Rattle.data_layout.specs.Storage as r
use Rattle.data_layout.specs.Faults as r_faults
use Rattle.data_names.specs.Clauses.{first_of}
use Rattle.entry_clauses.specs.Clauses.{line_named, column_named}
use Rattle.entry_clauses.specs.ScreenItems.{ScreenItem}
use Rattle.screen_rules.specs.Placing.{shown_size}
use Rattle.screen_rows.specs.declared.row.ScreenRow.{ScreenRow}
use Rattle.screen_layout.specs.Placing as s

-- an entry as both see it
pub record Like (item : ScreenItem) (row : ScreenRow) : Type 0 where
  pub level : row.level ≡ item.row.level
  pub group : row.group ≡ item.row.group
  pub line : row.own.line ≡ first_of line_named item.entry.clauses
  pub column : row.own.column ≡ first_of column_named item.entry.clauses
  pub bytes : ℕ
  pub shown : shown_size item ≡ Some bytes
  pub size : row.size ≡ Some bytes

-- all entries as both see them
abbrev pub AreLike : List ScreenItem → List ScreenRow → Type 0
AreLike [] [] = Unit {0}
AreLike [] (row ∷ rows) = ⊥
AreLike (item ∷ items) [] = ⊥
AreLike (item ∷ items) (row ∷ rows) = Like item row × AreLike items rows

pub like-push : (items : List ScreenItem) (rows : List ScreenRow) (item : ScreenItem) (row : ScreenRow) → AreLike items rows → Like item row → AreLike (items ++ item ∷ []) (rows ++ row ∷ [])
like-push [] [] item row h l = (l, tt)
like-push [] (other ∷ rows) item row h l = absurd h
like-push (one ∷ items) [] item row h l = absurd h
like-push (one ∷ items) (other ∷ rows) item row h l = (h.0, like-push items rows item row h.1 l)

-- ---- Bools

pub both : (a b : Bool) → (a && b) ≡ true → (a ≡ true) × (b ≡ true)
both true b h = (refl, h)
both false b h = cc h

or_true : (a : Bool) → (a || true) ≡ true
or_true true = refl
or_true false = refl

-- what passes in one passes in the other
more : (a b p u v : Bool) → (a ≡ true → b ≡ true) → (u ≡ true → v ≡ true) → ((a && p) || u) ≡ true → ((b && p) || v) ≡ true
more true b true u v f g h = rw (f refl) refl
more true b false u v f g h = rw (g h) (or_true (b && false))
more false b p u v f g h = rw (g h) (or_true (b && p))

-- ---- going on

abbrev row_of : ScreenItem → Row
row_of item = item.row

goes_more : (x y : ScreenItem) (row other : ScreenRow) → row.level ≡ x.row.level → other.level ≡ y.row.level → r.goes_on x.row y.row ≡ true → s.goes_on row other ≡ true
goes_more x y row other e f h = ap (λ level. nat_lt (rank level) (rank other.level)) e ∙ ap (λ level. nat_lt (rank x.row.level) (rank level)) f ∙ (both (not y.row.starts) (nat_lt (rank x.row.level) (rank y.row.level)) h).1

all_more : (x : ScreenItem) (row : ScreenRow) (items : List ScreenItem) (rows : List ScreenRow) → row.level ≡ x.row.level → AreLike items rows → list_all (r.goes_on x.row) (map row_of items) ≡ true
    → list_all (s.goes_on row) rows ≡ true
all_more x row [] [] e l h = refl
all_more x row [] (other ∷ rows) e l h = absurd l
all_more x row (y ∷ items) [] e l h = absurd l
all_more x row (y ∷ items) (other ∷ rows) e l h =
    let parts = both (r.goes_on x.row y.row) (list_all (r.goes_on x.row) (map row_of items)) h in
    rw (goes_more x y row other e l.0.level parts.0) (all_more x row items rows e l.1 parts.1)

any_if : {A : Type 0} (b : Bool) (test : A → Bool) (x : A) (xs : List A) → list_any test (if b then x ∷ xs else xs) ≡ ((b && test x) || list_any test xs)
any_if true test x xs = refl
any_if false test x xs = refl

abbrev of_rank : ℕ → Row → Bool
of_rank n other = rank other.level == n

abbrev of_rank_too : ℕ → ScreenRow → Bool
of_rank_too n other = rank other.level == n

open_more : (n : ℕ) (items : List ScreenItem) (rows : List ScreenRow) → AreLike items rows → list_any (of_rank n) (r.opened (map row_of items)) ≡ true → list_any (of_rank_too n) (s.opened rows) ≡ true
open_more n [] [] l h = cc h
open_more n [] (other ∷ rows) l h = absurd l
open_more n (x ∷ items) [] l h = absurd l
open_more n (x ∷ items) (row ∷ rows) l h =
    let a = list_all (r.goes_on x.row) (map row_of items) in
    let b = list_all (s.goes_on row) rows in
    let u = list_any (of_rank n) (r.opened (map row_of items)) in
    let v = list_any (of_rank_too n) (s.opened rows) in
    any_if b (of_rank_too n) row (s.opened rows) ∙ ap (λ level. (b && (rank level == n)) || v) l.0.level
    ∙ more a b (of_rank n x.row) u v (all_more x row items rows l.0.level l.1) (open_more n items rows l.1) (sym (any_if a (of_rank n) x.row (r.opened (map row_of items))) ∙ h)

-- ---- the last one

abbrev SameLast : Option Row → Option ScreenRow → Type 0
SameLast None None = Unit {0}
SameLast None (Some row) = ⊥
SameLast (Some x) None = ⊥
SameLast (Some x) (Some row) = row.level ≡ x.level

last_same : (o : Option Row) (p : Option ScreenRow) (items : List ScreenItem) (rows : List ScreenRow) → SameLast o p → AreLike items rows → SameLast (last_or o (map row_of items)) (last_or p rows)
last_same o p [] [] h l = h
last_same o p [] (row ∷ rows) h l = absurd l
last_same o p (x ∷ items) [] h l = absurd l
last_same o p (x ∷ items) (row ∷ rows) h l = last_same (Some x.row) (Some row) items rows l.0.level l.1

deeper_more : (o : Option Row) (p : Option ScreenRow) (y : Row) (row : ScreenRow) → SameLast o p → row.level ≡ y.level → r_faults.goes_deeper o y ≡ true → s.goes_deeper p row ≡ true
deeper_more None p y row h e k = cc k
deeper_more (Some x) None y row h e k = absurd h
deeper_more (Some x) (Some other) y row h e k =
    ap (λ level. nat_lt (rank level) (rank row.level)) h ∙ ap (λ level. nat_lt (rank x.level) (rank level)) e ∙ (both (not y.starts) (nat_lt (rank x.level) (rank y.level)) k).1

-- ---- levels that fit

fit_more : (top starts d o e p : Bool) → (d ≡ true → e ≡ true) → (o ≡ true → p ≡ true) → (top || (not starts && (d || o))) ≡ true → (top || e || p) ≡ true
fit_more true starts d o e p f g h = refl
fit_more false true d o e p f g h = cc h
fit_more false false true o e p f g h = rw (f refl) refl
fit_more false false false o e p f g h = rw (g h) (or_true e)

-- a level that fits by the rules fits in the plans
pub level_more : (items : List ScreenItem) (rows : List ScreenRow) (item : ScreenItem) (row : ScreenRow) → AreLike items rows → row.level ≡ item.row.level → r_faults.level_fits (map row_of items) item.row ≡ true
    → s.level_fits rows row ≡ true
level_more items rows item row l e h =
    let n = rank item.row.level in
    let before = map row_of items in
    let deeper = r_faults.goes_deeper (r.last_of before) item.row in
    let opens = list_any (of_rank n) (r.opened before) in
    let last = last_same None None items rows tt l in
    ap (λ level. (rank level == 1) || s.goes_deeper (last_or None rows) row || list_any (of_rank_too (rank level)) (s.opened rows)) e
    ∙ fit_more (n == 1) item.row.starts deeper opens (s.goes_deeper (last_or None rows) row) (list_any (of_rank_too n) (s.opened rows))
    (deeper_more (r.last_of before) (last_or None rows) item.row row last e) (open_more n items rows l) h
