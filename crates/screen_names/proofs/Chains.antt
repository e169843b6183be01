-- An item and its groups, step by step.
use Rattle.std.proofs.Common.{◌≡◌, ℕ, ◌+◌, ◌<◌, ◌≤◌, refl, sym, ◌∙◌, ap, arith, add-one, drop-cons, Bool, true, false, ◌&&◌, ◌==◌, List, [], ◌∷◌, length, drop, get_or, Option, Some, None}
use Rattle.std.specs.Prelude.{if◌then◌else◌, nat_le}
use Rattle.std.proofs.Common.{inl, inr}
use Rattle.std.proofs.lemmas.Bool.{cases_lt}
use Rattle.std.proofs.lemmas.Bool.Decides.{nat_tests}
use Rattle.std.specs.List.{list_all}
use Rattle.std.proofs.lemmas.List.{drop_all}
use Rattle.data_layout.specs.declared.layout.Item.{Item}
use Rattle.data_layout.specs.Occurrences.{item_at, group_of, with_item, around}
use Rattle.screen_names.specs.Names.{is_named, are_qualifiers}

at_most : (m k : ℕ) → m ≤ k → nat_le m k ≡ true
at_most m k h = grind (arith, nat_tests)

not_most : (k m : ℕ) → k < m → nat_le m k ≡ false
not_most k m h = grind (arith, nat_tests)

-- one step outward
pub around_one : (n m : ℕ) (items : List Item) (place : Option ℕ) → n ≡ m + 1 → around n items place ≡ with_item (item_at items place) (around m items (group_of (item_at items place)))
around_one n m items place e = rw (e, add-one) refl

-- the qualifiers that are left
pub names_left : (names : List (List ℕ)) (i : ℕ) (d : List ℕ) → i < length names → drop i names ≡ get_or names i d ∷ drop (i + 1) names
names_left names i d h = rw (add-one, drop-cons names i d)

-- with a group that is there
passed : (b : Bool) (names : List (List ℕ)) (i : ℕ) (d : List ℕ) (group : Item) (groups : List Item) → i < length names → is_named group.name (get_or names i d) ≡ b
    → are_qualifiers (drop i names) (group ∷ groups) ≡ are_qualifiers (drop (if b then i + 1 else i) names) groups
passed true names i d group groups h e = rw (names_left names i d h, e) refl
passed false names i d group groups h e = rw (names_left names i d h, e) refl

pub qualifiers_more : (names : List (List ℕ)) (i : ℕ) (d : List ℕ) (n m : ℕ) (items : List Item) (place : Option ℕ) (group : Item) (named : Bool) (whole : Bool)
    → i < length names → n ≡ m + 1 → item_at items place ≡ Some group → named ≡ is_named group.name (get_or names i d)
    → are_qualifiers (drop i names) (around n items place) ≡ whole → are_qualifiers (drop (if named then i + 1 else i) names) (around m items group.parent) ≡ whole
qualifiers_more names i d n m items place group named whole h e f k w =
    let chain : around n items place ≡ group ∷ around m items group.parent = around_one n m items place e ∙ ap (λ o. with_item o (around m items (group_of o))) f in
    let step = passed named names i d group (around m items group.parent) h (sym k) in
    sym step ∙ ap (are_qualifiers (drop i names)) (sym chain) ∙ w

-- no group is left
pub qualifiers_none : (names : List (List ℕ)) (i : ℕ) (d : List ℕ) (n m : ℕ) (items : List Item) (place : Option ℕ) (whole : Bool)
    → i < length names → n ≡ m + 1 → item_at items place ≡ None → are_qualifiers (drop i names) (around n items place) ≡ whole → false ≡ whole
qualifiers_none names i d n m items place whole h e f w =
    let chain : around n items place ≡ [] = around_one n m items place e ∙ ap (λ o. with_item o (around m items (group_of o))) f in
    let named : are_qualifiers (drop i names) [] ≡ false = rw (names_left names i d h) refl in
    sym named ∙ ap (are_qualifiers (drop i names)) (sym chain) ∙ w

-- every qualifier is passed
pub qualifiers_all : (names : List (List ℕ)) (i : ℕ) (groups : List Item) (whole : Bool) → length names ≤ i → are_qualifiers (drop i names) groups ≡ whole → true ≡ whole
qualifiers_all names i groups whole h w = let all : drop i names ≡ [] = drop_all i names h in sym (ap (λ xs. are_qualifiers xs groups) all) ∙ w

-- no group is left to pass
pub qualifiers_end : (names : List (List ℕ)) (i n : ℕ) (items : List Item) (place : Option ℕ) (whole : Bool) → n ≡ 0 → are_qualifiers (drop i names) (around n items place) ≡ whole → nat_le (length names) i ≡ whole
qualifiers_end names i n items place whole e w =
    let over : are_qualifiers (drop i names) [] ≡ whole = ap (λ m. are_qualifiers (drop i names) (around m items place)) (sym e) ∙ w in
    elim (cases_lt i (length names)) as (λ _. nat_le (length names) i ≡ whole) [
      | inl less ↦ (let some : are_qualifiers (drop i names) [] ≡ false = rw (names_left names i [] less) refl in not_most i (length names) less ∙ sym some ∙ over)
      | inr most ↦ (let none : are_qualifiers (drop i names) [] ≡ true = rw (drop_all i names most) refl in at_most (length names) i most ∙ sym none ∙ over)
    ]

-- ---- without OCCURS

pub single_more : (n m : ℕ) (items : List Item) (place : Option ℕ) (item : Item) (whole : Bool) → n ≡ m + 1 → item_at items place ≡ Some item → item.occurs ≡ 0
    → list_all (λ i. i.occurs == 0) (around n items place) ≡ whole → list_all (λ i. i.occurs == 0) (around m items item.parent) ≡ whole
single_more n m items place item whole e f o w =
    let chain : around n items place ≡ item ∷ around m items item.parent = around_one n m items place e ∙ ap (λ q. with_item q (around m items (group_of q))) f in
    let here : (item.occurs == 0) ≡ true = rw o refl in
    ap (λ b. b && list_all (λ i. i.occurs == 0) (around m items item.parent)) (sym here) ∙ ap (list_all (λ i. i.occurs == 0)) (sym chain) ∙ w
