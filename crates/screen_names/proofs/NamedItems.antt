-- The items of a name, and those of them that a reference matches.
use Rattle.std.proofs.Common.{◌≡◌, ◌∙◌, refl, ap, sym, ℕ, zero, suc, ◌+◌, ◌<◌, add-one, Bool, true, false, ◌&&◌, List, [], ◌∷◌, ◌++◌, length, take, drop, get_or, append-nil, Option, Some, None}
use Rattle.std.specs.Prelude.{if◌then◌else◌, filter, is_some, slice_get}
use Rattle.std.specs.Option.{option_to_list}
use Rattle.std.proofs.lemmas.List.{take_more, take-append-drop}
use Rattle.std.proofs.lemmas.List.Elements.{filter-append}
use Rattle.cob_base.specs.declared.operands.Reference.{Reference}
use Rattle.data_layout.specs.declared.layout.Item.{Item}
use Rattle.data_layout.specs.Occurrences.{with_item, around, around_item}
use Rattle.screen_names.specs.Names.{is_named, are_qualifiers, matches, numbers_where, is_only}
use Rattle.data_names.specs.Names.{in_small, is_under}
use Rattle.screen_names.specs.NameTable.{name_of}

-- ---- one more number

added_or_not : (b : Bool) (old : List ℕ) (n : ℕ) → (if b then old ++ n ∷ [] else old) ≡ old ++ (if b then n ∷ [] else [])
added_or_not true old n = refl
added_or_not false old n = sym (append-nil old)

pub one_more : (test : ℕ → Bool) (n : ℕ) (b : Bool) (old new : List ℕ) → b ≡ test n → old ≡ numbers_where test n → new ≡ (if b then old ++ n ∷ [] else old) → new ≡ numbers_where test (n + 1)
one_more test n b old new t o e =
    let next : n + 1 ≡ suc n = add-one n in
    e ∙ added_or_not b old n ∙ ap (λ front. front ++ (if b then n ∷ [] else [])) o ∙ ap (λ c. numbers_where test n ++ (if c then n ∷ [] else [])) t ∙ ap (numbers_where test) (sym next)

-- ---- among the items of a name are all that a reference matches

one : (a b : Bool) (test : ℕ → Bool) (n : ℕ) → test n ≡ b → (b ≡ true → a ≡ true) → filter test (if a then n ∷ [] else []) ≡ (if b then n ∷ [] else [])
one true true test n e h = rw e refl
one true false test n e h = rw e refl
one false true test n e h = let no = h refl in cc
one false false test n e h = refl

pub filter_where : (test named : ℕ → Bool) → ((k : ℕ) → test k ≡ true → named k ≡ true) → (n : ℕ) → filter test (numbers_where named n) ≡ numbers_where test n
filter_where test named h zero = refl
filter_where test named h (suc n) =
    filter-append test (numbers_where named n) (if named n then n ∷ [] else []) ∙ ap (λ front. front ++ filter test (if named n then n ∷ [] else [])) (filter_where test named h n)
    ∙ ap (λ back. numbers_where test n ++ back) (one (named n) (test n) test n refl (h n))

first_holds : (a b : Bool) → (a && b) ≡ true → a ≡ true
first_holds true b h = refl
first_holds false b h = cc

called : (given : Option (List ℕ)) (name : List ℕ) (b : Bool) → (is_named given name && b) ≡ true → is_under (in_small name) given ≡ true
called None name b h = cc
called (Some given) name b h = first_holds (is_named (Some given) name) b h

named : (item : Option Item) (reference : Reference) (groups : List Item) → matches reference (with_item item groups) ≡ true → is_under (in_small reference.name) (name_of item) ≡ true
named None reference groups h = cc
named (Some item) reference groups h = called item.name reference.name (are_qualifiers reference.qualifiers groups) h

under : (n : ℕ) (items : List Item) (reference : Reference) (k : ℕ) → matches reference (around n items (Some k)) ≡ true → is_under (in_small reference.name) (name_of (slice_get items k)) ≡ true
under zero items reference k h = cc
under (suc n) items reference k h = named (slice_get items k) reference _ h

pub matched_of_name : (items : List Item) (reference : Reference) →
    filter (λ number. matches reference (around_item items number)) (numbers_where (λ number. is_under (in_small reference.name) (name_of (slice_get items number))) (length items))
    ≡ numbers_where (λ number. matches reference (around_item items number)) (length items)
matched_of_name items reference =
    filter_where (λ number. matches reference (around_item items number)) (λ number. is_under (in_small reference.name) (name_of (slice_get items number))) (under (length items) items reference) (length items)

-- ---- the only one

second : (found : Option ℕ) (n : ℕ) (rest : List ℕ) → is_some found ≡ true → None ≡ is_only ((option_to_list found ++ n ∷ []) ++ rest)
second None n rest h = cc
second (Some k) n rest h = refl

-- two numbers, so none is the only one
pub two_found : (test : ℕ → Bool) (xs : List ℕ) (i : ℕ) (found : Option ℕ) → i < length xs → filter test (take i xs) ≡ option_to_list found → is_some found ≡ true → test (get_or xs i 0) ≡ true → None ≡ is_only (filter test xs)
two_found test xs i found h e s t =
    let n = get_or xs i 0 in
    let here : filter test (n ∷ []) ≡ n ∷ [] = rw t refl in
    let front : filter test (take (i + 1) xs) ≡ option_to_list found ++ n ∷ [] =
    ap (filter test) (take_more xs i 0 h) ∙ filter-append test (take i xs) (n ∷ []) ∙ ap (λ ys. ys ++ filter test (n ∷ [])) e ∙ ap (λ ys. option_to_list found ++ ys) here in
    let whole : filter test xs ≡ filter test (take (i + 1) xs) ++ filter test (drop (i + 1) xs) = ap (filter test) (sym (take-append-drop (i + 1) xs)) ∙ filter-append test (take (i + 1) xs) (drop (i + 1) xs) in
    second found n (filter test (drop (i + 1) xs)) s ∙ ap is_only (ap (λ ys. ys ++ filter test (drop (i + 1) xs)) (sym front) ∙ sym whole)
