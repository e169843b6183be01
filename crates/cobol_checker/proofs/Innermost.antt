-- The groups of an item are those of its innermost group, and that group.
use Rattle.std.proofs.Common.{◌≡◌, ◌∙◌, ◌⊎◌, inl, inr, refl, sym, ap, arith, ℕ, Bool, true, false, not, ◌&&◌, nat_lt, List, [], ◌∷◌, ◌++◌}
use Rattle.std.specs.Prelude.{if◌then◌else◌, filter}
use Rattle.std.specs.List.{list_all}
use Rattle.std.proofs.lemmas.Bool.Decides.{nat_tests}
use Rattle.std.proofs.lemmas.List.Folds.{list_all-append}
use Rattle.data_layout.specs.declared.row.Row.{Row}
use Rattle.data_layout.specs.Rows.{rank}
use Rattle.data_layout.specs.Storage.{goes_on}
use Rattle.data_names.specs.Items.{DataItem}
use Rattle.data_names.specs.Spots.{open_after, around}

both : (a b : Bool) → (a && b) ≡ true → (a ≡ true) × (b ≡ true)
both true b h = (refl, h)
both false b h = cc h

-- ---- going on

less : (a b c : ℕ) → nat_lt a b ≡ true → nat_lt b c ≡ true → nat_lt a c ≡ true
less a b c h k = grind (arith, nat_tests)

-- what goes on in a group goes on in the group's own groups
goes_far : (x g m : Row) → goes_on x g ≡ true → goes_on g m ≡ true → goes_on x m ≡ true
goes_far x g m h k =
    let first = both (not g.starts) (nat_lt (rank x.level) (rank g.level)) h in
    let later = both (not m.starts) (nat_lt (rank g.level) (rank m.level)) k in
    rw (later.0, less (rank x.level) (rank g.level) (rank m.level) first.1 later.1) refl

abbrev goes : DataItem → DataItem → Bool
goes group item = goes_on group.row item.row

all_far : (x g : DataItem) (middle : List DataItem) → goes x g ≡ true → list_all (goes g) middle ≡ true → list_all (goes x) middle ≡ true
all_far x g [] h k = refl
all_far x g (m ∷ middle) h k = let parts = both (goes g m) (list_all (goes g) middle) k in rw (goes_far x.row g.row m.row h parts.0, all_far x g middle h parts.1) refl

-- the innermost group of an item, with what stands ahead of it and behind it
pub record Inner (before : List DataItem) (item : DataItem) : Type 0 where
  pub ahead : List DataItem
  pub group : DataItem
  pub middle : List DataItem
  pub cut : before ≡ ahead ++ group ∷ middle
  pub goes_inside : list_all (goes group) middle ≡ true
  pub holds : goes group item ≡ true
  pub groups : around (λ (other : DataItem). other.row) before item ≡ around (λ (other : DataItem). other.row) ahead group ++ group ∷ []

-- one more entry ahead is a group of the item exactly where it is one of the innermost group
same_keep : (x : DataItem) (ahead : List DataItem) (g : DataItem) (middle : List DataItem) (item : DataItem) (a b : Bool) → list_all (goes x) ahead ≡ a → goes x g ≡ b
    → list_all (goes g) middle ≡ true → goes g item ≡ true → (list_all (goes x) (ahead ++ g ∷ middle) && goes x item) ≡ (a && b)
same_keep x ahead g middle item true true e f h k =
    rw (list_all-append (goes x) ahead (g ∷ middle), e, f, all_far x g middle f h, goes_far x.row g.row item.row f k) refl
same_keep x ahead g middle item true false e f h k = rw (list_all-append (goes x) ahead (g ∷ middle), e, f) refl
same_keep x ahead g middle item false b e f h k = rw (list_all-append (goes x) ahead (g ∷ middle), e) refl

-- the entry at the head is kept or not
kept : (a b : Bool) (x item : DataItem) (open_ : List DataItem) → goes x item ≡ b
    → filter (λ (group : DataItem). goes group item) (if a then x ∷ open_ else open_) ≡ (if a && b then x ∷ filter (λ (group : DataItem). goes group item) open_ else filter (λ (group : DataItem). goes group item) open_)
kept true true x item open_ e = rw e refl
kept true false x item open_ e = rw e refl
kept false b x item open_ e = refl

around-cons : (x : DataItem) (later : List DataItem) (item : DataItem)
    → around (λ (other : DataItem). other.row) (x ∷ later) item
    ≡ (if list_all (goes x) later && goes x item then x ∷ around (λ (other : DataItem). other.row) later item else around (λ (other : DataItem). other.row) later item)
around-cons x later item = kept (list_all (goes x) later) (goes x item) x item (open_after (λ (other : DataItem). other.row) later) refl

pushed : (b : Bool) (x g : DataItem) (front : List DataItem) → (if b then x ∷ (front ++ g ∷ []) else front ++ g ∷ []) ≡ (if b then x ∷ front else front) ++ g ∷ []
pushed true x g front = refl
pushed false x g front = refl

first_group : (b : Bool) (x : DataItem) (later : List DataItem) (item : DataItem) → (list_all (goes x) later && goes x item) ≡ b → around (λ (other : DataItem). other.row) later item ≡ []
    → (around (λ (other : DataItem). other.row) (x ∷ later) item ≡ []) ⊎ Inner (x ∷ later) item
first_group true x later item e n =
    let parts = both (list_all (goes x) later) (goes x item) e in
    inr (record { ahead = []; group = x; middle = later; cut = refl; goes_inside = parts.0; holds = parts.1; groups = around-cons x later item ∙ rw (e, n) refl })
first_group false x later item e n = inl (around-cons x later item ∙ rw (e, n) refl)

-- an item stands in no group, or has an innermost one
pub innermost : (before : List DataItem) (item : DataItem) → (around (λ (other : DataItem). other.row) before item ≡ []) ⊎ Inner before item
innermost [] item = inl refl
innermost (x ∷ later) item =
    elim (innermost later item) as (λ _. (around (λ (other : DataItem). other.row) (x ∷ later) item ≡ []) ⊎ Inner (x ∷ later) item) [
      | inl none ↦ first_group (list_all (goes x) later && goes x item) x later item refl none
      | inr i ↦ inr (record {
        ahead = x ∷ i.ahead;
        group = i.group;
        middle = i.middle;
        cut = ap (λ rest. x ∷ rest) i.cut;
        goes_inside = i.goes_inside;
        holds = i.holds;
        groups = around-cons x later item
            ∙ ap (λ b. if b then x ∷ around (λ (other : DataItem). other.row) later item else around (λ (other : DataItem). other.row) later item)
            (ap (λ rest. list_all (goes x) rest && goes x item) i.cut ∙ same_keep x i.ahead i.group i.middle item (list_all (goes x) i.ahead) (goes x i.group) refl refl i.goes_inside i.holds)
            ∙ ap (λ rest. if list_all (goes x) i.ahead && goes x i.group then x ∷ rest else rest) i.groups
            ∙ pushed (list_all (goes x) i.ahead && goes x i.group) x i.group (around (λ (other : DataItem). other.row) i.ahead i.group)
            ∙ ap (λ front. front ++ i.group ∷ []) (sym (around-cons x i.ahead i.group));
      })
    ]
