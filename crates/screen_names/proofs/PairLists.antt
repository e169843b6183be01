-- The numbers of items under the pairs of their names with those of the groups around them.
use Rattle.std.proofs.Common.{◌≡◌, ◌∙◌, refl, ap, sym, arith, ℕ, zero, suc, ◌+◌, ◌-◌, ◌<◌, ◌≤◌, ◌==◌, Bool, true, false, ◌&&◌, ◌||◌, List, [], ◌∷◌, ◌++◌, append_assoc, append-nil, length, get_or, Option, Some, None}
use Rattle.std.specs.Prelude.{if◌then◌else◌, slice_get, filter}
use Rattle.std.specs.List.{list_any, last_or}
use Rattle.std.specs.Cmp.Lexicographic.{bytes_decides}
use Rattle.std.proofs.lemmas.Bool.Decides.{nat_tests}
use Rattle.std.proofs.lemmas.Option.{slice_get_within}
use Rattle.cob_base.specs.declared.operands.Reference.{Reference}
use Rattle.data_layout.specs.declared.layout.Item.{Item}
use Rattle.data_layout.specs.Occurrences.{item_at, group_of, with_item, around, around_item}
use Rattle.data_names.specs.declared.asked.AskedPairs.{AskedPairs}
use Rattle.data_names.specs.Asked.{is_asked, is_name_asked}
use Rattle.data_names.specs.Names.{in_small, pair_key, is_number, ends_with}
use Rattle.data_names.specs.Pairs.{is_pair, is_in}
use Rattle.screen_names.specs.Names.{is_named, are_qualifiers, matches, numbers_where}
use Rattle.screen_names.specs.NamePairs.{group_names, is_kept}
use Rattle.screen_names.proofs.Chains.{around_one}
use Rattle.screen_names.proofs.NamedItems.{filter_where}

-- ---- the names of the groups around an item

-- with the name of one more group
pub names_more : (names more whole : List (Option (List ℕ))) (name : Option (List ℕ)) (items : List Item) (place : Option ℕ) (n m : ℕ) (group : Item) → n ≡ m + 1 → item_at items place ≡ Some group → name ≡ group.name
    → more ≡ names ++ name ∷ [] → names ++ group_names (around n items place) ≡ whole → more ++ group_names (around m items group.parent) ≡ whole
names_more names more whole name items place n m group e f g p w =
    let chain : around n items place ≡ group ∷ around m items group.parent = around_one n m items place e ∙ ap (λ o. with_item o (around m items (group_of o))) f in
    let outer = group_names (around m items group.parent) in
    ap (λ front. front ++ outer) p ∙ append_assoc names (name ∷ []) outer ∙ ap (λ one. names ++ one ∷ outer) g ∙ ap (λ groups. names ++ group_names groups) (sym chain) ∙ w

-- no group is left
pub names_none : (names whole : List (Option (List ℕ))) (items : List Item) (place : Option ℕ) (n m : ℕ) → n ≡ m + 1 → item_at items place ≡ None → names ++ group_names (around n items place) ≡ whole → names ≡ whole
names_none names whole items place n m e f w =
    let chain : around n items place ≡ [] = around_one n m items place e ∙ ap (λ o. with_item o (around m items (group_of o))) f in
    sym (append-nil names) ∙ ap (λ groups. names ++ group_names groups) (sym chain) ∙ w

-- all are gone through
pub names_end : (names whole : List (Option (List ℕ))) (items : List Item) (place : Option ℕ) (n : ℕ) → n ≡ 0 → names ++ group_names (around n items place) ≡ whole → names ≡ whole
names_end names whole items place n e w = sym (append-nil names) ∙ ap (λ k. names ++ group_names (around k items place)) (sym e) ∙ w

-- ---- one item more

last_or-end : {A : Type 0} (o : Option A) (xs : List A) (x : A) → last_or o (xs ++ x ∷ []) ≡ Some x
last_or-end o [] x = refl
last_or-end o (y ∷ xs) x = last_or-end (Some y) xs x

other_number : (n k : ℕ) → n < k → (n == k) ≡ false
other_number n k h = grind (arith, nat_tests)

ends_before : (b : Bool) (xs : List ℕ) (n k : ℕ) → n < k → ends_with k xs ≡ false → ends_with k (xs ++ (if b then n ∷ [] else [])) ≡ false
ends_before true xs n k h e = ap (is_number k) (last_or-end None xs n) ∙ other_number n k h
ends_before false xs n k h e = ap (λ ys. ends_with k ys) (append-nil xs) ∙ e

-- numbers below this one don't end with it
pub below : (test : ℕ → Bool) (n k : ℕ) → n ≤ k → ends_with k (numbers_where test n) ≡ false
below test zero k h = refl
below test (suc n) k h = ends_before (test n) (numbers_where test n) n k (omega arith) (below test n k (omega arith))

-- the item and its groups
pub here : (items : List Item) (number : ℕ) (item : Item) → slice_get items number ≡ Some item → around_item items number ≡ item ∷ around (length items - 1) items item.parent
here items number item e =
    let within = slice_get_within items number item e in
    let one : length items ≡ (length items - 1) + 1 = omega arith in
    around_one (length items) (length items - 1) items (Some number) one ∙ ap (λ o. with_item o (around (length items - 1) items (group_of o))) e

-- ---- among the items of a pair are all that a reference with this qualifier matches

any_more : (b : Bool) (p : Item → Bool) (groups : List Item) → list_any p groups ≡ true → (b || list_any p groups) ≡ true
any_more true p groups h = refl
any_more false p groups h = h

first_found : (b : Bool) (name : List ℕ) (names : List (List ℕ)) (groups : List Item) → (if b then are_qualifiers names groups else are_qualifiers (name ∷ names) groups) ≡ true
    → (are_qualifiers (name ∷ names) groups ≡ true → list_any (λ group. is_named group.name name) groups ≡ true) → (b || list_any (λ group. is_named group.name name) groups) ≡ true
first_found true name names groups e f = refl
first_found false name names groups e f = f e

later_found : (b : Bool) (name : List ℕ) (names : List (List ℕ)) (groups : List Item) (found : Bool) → (if b then are_qualifiers names groups else are_qualifiers (name ∷ names) groups) ≡ true
    → (are_qualifiers names groups ≡ true → found ≡ true) → (are_qualifiers (name ∷ names) groups ≡ true → found ≡ true) → found ≡ true
later_found true name names groups found e f g = f e
later_found false name names groups found e f g = g e

-- each qualifier is the name of a group
qualified : (names : List (List ℕ)) (groups : List Item) (i : ℕ) (d : List ℕ) → i < length names → are_qualifiers names groups ≡ true → list_any (λ group. is_named group.name (get_or names i d)) groups ≡ true
qualified [] groups i d h e = absurd (omega arith)
qualified (name ∷ names) [] i d h e = cc
qualified (name ∷ names) (group ∷ groups) zero d h e = first_found (is_named group.name name) name names groups e (qualified (name ∷ names) groups zero d h)
qualified (name ∷ names) (group ∷ groups) (suc i) d h e =
    any_more (is_named group.name (get_or names i d)) (λ g. is_named g.name (get_or names i d)) groups
    (later_found (is_named group.name name) name names groups (list_any (λ g. is_named g.name (get_or names i d)) groups) e (qualified names groups i d (omega arith)) (qualified (name ∷ names) groups (suc i) d h))

or_second : (c d : Bool) → d ≡ true → (c || d) ≡ true
or_second true d h = refl
or_second false d h = h

either_implied : (a b c d : Bool) → (a ≡ true → c ≡ true) → (b ≡ true → d ≡ true) → (a || b) ≡ true → (c || d) ≡ true
either_implied true b c d f g h = rw (f refl) refl
either_implied false b c d f g h = or_second c d (g h)

any_name : (p : Item → Bool) (q : Option (List ℕ) → Bool) (groups : List Item) → ((group : Item) → p group ≡ true → q group.name ≡ true) → list_any p groups ≡ true → list_any q (group_names groups) ≡ true
any_name p q [] f h = cc
any_name p q (group ∷ groups) f h = either_implied (p group) (list_any p groups) (q group.name) (list_any q (group_names groups)) (f group) (any_name p q groups f) h

same_name : (given name : List ℕ) → is_named (Some given) name ≡ true → in_small given ≡ in_small name
same_name given name h = (bytes_decides (in_small given) (in_small name)).0 h

named_pair : (own name qualifier : List ℕ) (given : Option (List ℕ)) → in_small own ≡ in_small name → is_named given qualifier ≡ true → is_pair (pair_key name qualifier) own given ≡ true
named_pair own name qualifier None e h = cc
named_pair own name qualifier (Some group) e h =
    let same : pair_key own group ≡ pair_key name qualifier = ap (λ small. small ++ 32 ∷ in_small group) e ∙ ap (λ small. in_small name ++ 32 ∷ small) (same_name group qualifier h) in
    (bytes_decides (pair_key own group) (pair_key name qualifier)).1 same

two : (a b : Bool) → (a && b) ≡ true → (a ≡ true) × (b ≡ true)
two true true h = (refl, refl)
two true false h = cc
two false b h = cc

both : (a b : Bool) → a ≡ true → b ≡ true → (a && b) ≡ true
both true b h k = k
both false b h k = h

-- the item of a name that is asked for, under the key of a pair that is
kept_named : (asked : AskedPairs) (reference : Reference) (i : ℕ) (d : List ℕ) (given : Option (List ℕ)) (groups : List Item) → i < length reference.qualifiers
    → is_asked asked (in_small reference.name) ≡ true → is_asked asked (pair_key reference.name (get_or reference.qualifiers i d)) ≡ true → (is_named given reference.name && are_qualifiers reference.qualifiers groups) ≡ true
    → (is_name_asked asked given && (is_in (pair_key reference.name (get_or reference.qualifiers i d)) given (group_names groups) && is_asked asked (pair_key reference.name (get_or reference.qualifiers i d)))) ≡ true
kept_named asked reference i d None groups h n p e = cc
kept_named asked reference i d (Some own) groups h n p e =
    let parts = two (is_named (Some own) reference.name) (are_qualifiers reference.qualifiers groups) e in
    let qualifier = get_or reference.qualifiers i d in
    let key = pair_key reference.name qualifier in
    let same = same_name own reference.name parts.0 in
    both (is_asked asked (in_small own)) (list_any (is_pair key own) (group_names groups) && is_asked asked key) (ap (is_asked asked) same ∙ n)
    (both (list_any (is_pair key own) (group_names groups)) (is_asked asked key)
    (any_name (λ group. is_named group.name qualifier) (is_pair key own) groups (λ group. named_pair own reference.name qualifier group.name same) (qualified reference.qualifiers groups i d h parts.1)) p)

kept : (asked : AskedPairs) (reference : Reference) (i : ℕ) (d : List ℕ) (chain : List Item) → i < length reference.qualifiers → is_asked asked (in_small reference.name) ≡ true
    → is_asked asked (pair_key reference.name (get_or reference.qualifiers i d)) ≡ true → matches reference chain ≡ true → is_kept asked (pair_key reference.name (get_or reference.qualifiers i d)) chain ≡ true
kept asked reference i d [] h n p e = cc
kept asked reference i d (item ∷ groups) h n p e = kept_named asked reference i d item.name groups h n p e

pub matched_of_pair : (items : List Item) (asked : AskedPairs) (reference : Reference) (i : ℕ) (d numbers : List ℕ) → i < length reference.qualifiers → is_asked asked (in_small reference.name) ≡ true
    → is_asked asked (pair_key reference.name (get_or reference.qualifiers i d)) ≡ true
    → numbers ≡ numbers_where (λ number. is_kept asked (pair_key reference.name (get_or reference.qualifiers i d)) (around_item items number)) (length items)
    → filter (λ number. matches reference (around_item items number)) numbers ≡ numbers_where (λ number. matches reference (around_item items number)) (length items)
matched_of_pair items asked reference i d numbers h n p e =
    let test = λ (number : ℕ). matches reference (around_item items number) in
    ap (filter test) e
    ∙ filter_where test (λ number. is_kept asked (pair_key reference.name (get_or reference.qualifiers i d)) (around_item items number)) (λ k. kept asked reference i d (around_item items k) h n p) (length items)
