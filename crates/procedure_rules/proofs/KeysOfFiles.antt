-- Which clauses of a file name an item as a key.
use Rattle.std.proofs.Common.{◌≡◌, ◌∙◌, sym, ap, refl, Bool, true, false, ◌||◌, List, [], ◌∷◌, ◌++◌, map, Option, Some, None, ℕ}
use Rattle.std.specs.Prelude.{option_to_list, ◌==◌, slice_get}
use Rattle.std.specs.List.{list_any, filter_map, cons_option}
use Rattle.std.proofs.lemmas.List.Elements.{filter_map-append}
use Rattle.cob_base.specs.declared.operands.Reference.{Reference}
use Rattle.cob_base.specs.declared.file_entries.FileClause.{FileClause}
use Rattle.cob_base.specs.declared.file_entries.FileClause.TheVariants as f
use Rattle.cob_base.specs.declared.divisions.Front.{Front}
use Rattle.data_names.specs.Items.{DataItem, AreDataItems}
use Rattle.data_names.specs.Spots.{Spot, spots}
use Rattle.procedure_rules.proofs.Numbered.{numbered}
use Rattle.data_names.specs.References.{found}
use Rattle.entry_clauses.specs.Clauses.{record_key, alternates}
use Rattle.procedure_rules.specs.Keys.{same_item}
use Rattle.procedure_rules.specs.KnownFiles.{is_alternate}

any_both : {A : Type 0} (test : A → Bool) (xs ys : List A) → list_any test (xs ++ ys) ≡ (list_any test xs || list_any test ys)
any_both test [] ys = refl
any_both test (x ∷ xs) ys = at_first (test x) xs ys (any_both test xs ys)
  where
    at_first : (b : Bool) (xs ys : List _) → list_any test (xs ++ ys) ≡ (list_any test xs || list_any test ys) → (b || list_any test (xs ++ ys)) ≡ ((b || list_any test xs) || list_any test ys)
    at_first true xs ys h = refl
    at_first false xs ys h = h

one_apart : (b c : Bool) → (b || c) ≡ ((b || false) || c)
one_apart true c = refl
one_apart false c = refl

alone : (b : Bool) → (b || false) ≡ b
alone true = refl
alone false = refl

first_or_more : {A B : Type 0} (g : A → Option B) (test : B → Bool) (x : A) (xs : List A) → list_any test (filter_map g (x ∷ xs)) ≡ (list_any test (option_to_list (g x)) || list_any test (filter_map g xs))
first_or_more g test x xs = by_first (g x) (filter_map g xs)
  where
    by_first : (o : Option _) (rest : List _) → list_any test (cons_option o rest) ≡ (list_any test (option_to_list o) || list_any test rest)
    by_first None rest = refl
    by_first (Some y) rest = one_apart (test y) (list_any test rest)

-- a key alone
pub one_key : (items : List DataItem) (spot : Spot DataItem) (key : Reference)
    → list_any (same_item spot) (filter_map (found items) (key ∷ [])) ≡ list_any (same_item spot) (option_to_list (found items key))
one_key items spot key = first_or_more (found items) (same_item spot) key [] ∙ alone (list_any (same_item spot) (option_to_list (found items key)))

-- the alternate keys
pub alternates_are : (items : List DataItem) (spot : Spot DataItem) (clauses : List FileClause)
    → list_any (same_item spot) (filter_map (found items) (map (λ alternate. alternate.key) (alternates clauses))) ≡ list_any (is_alternate items spot) clauses
alternates_are items spot [] = refl
alternates_are items spot (f.AlternateKey key duplicates ∷ rest) =
    first_or_more (found items) (same_item spot) key (map (λ alternate. alternate.key) (alternates rest))
    ∙ ap (λ b. list_any (same_item spot) (option_to_list (found items key)) || b) (alternates_are items spot rest)
alternates_are items spot (f.Indexed ∷ rest) = alternates_are items spot rest
alternates_are items spot (f.Outside ∷ rest) = alternates_are items spot rest
alternates_are items spot (f.Access access ∷ rest) = alternates_are items spot rest
alternates_are items spot (f.RecordKey key ∷ rest) = alternates_are items spot rest
alternates_are items spot (f.FileStatus item ∷ rest) = alternates_are items spot rest
alternates_are items spot (f.Lock mode on ∷ rest) = alternates_are items spot rest
alternates_are items spot (f.Sharing sharing ∷ rest) = alternates_are items spot rest

-- the prime key, or an alternate
pub prime_or_alternate : (items : List DataItem) (spot : Spot DataItem) (clauses : List FileClause) (prime : Bool)
    → prime ≡ list_any (same_item spot) (filter_map (found items) (option_to_list (record_key clauses)))
    → list_any (same_item spot) (filter_map (found items) (option_to_list (record_key clauses) ++ map (λ alternate. alternate.key) (alternates clauses)))
    ≡ (prime || list_any (is_alternate items spot) clauses)
prime_or_alternate items spot clauses prime is =
    ap (list_any (same_item spot)) (filter_map-append (found items) (option_to_list (record_key clauses)) (map (λ alternate. alternate.key) (alternates clauses)))
    ∙ any_both (same_item spot) (filter_map (found items) (option_to_list (record_key clauses))) (filter_map (found items) (map (λ alternate. alternate.key) (alternates clauses)))
    ∙ ap (λ b. b || list_any (same_item spot) (filter_map (found items) (map (λ alternate. alternate.key) (alternates clauses)))) (sym is)
    ∙ ap (λ b. prime || b) (alternates_are items spot clauses)

-- an item that was found by its number
pub is_item_found : (front : Front) (items : List DataItem) (key : Reference) (at_number other : ℕ) (spot found_spot : Spot DataItem) → AreDataItems front items
    → slice_get (spots items) at_number ≡ Some spot → slice_get (spots items) other ≡ Some found_spot → found items key ≡ Some found_spot
    → (at_number == other) ≡ list_any (same_item spot) (option_to_list (found items key))
is_item_found front items key at_number other spot found_spot h e o k =
    let one : spot.item.row.number ≡ at_number = numbered front items at_number spot h e in
    let two : found_spot.item.row.number ≡ other = numbered front items other found_spot h o in
    ap (λ (n : ℕ). n == other) (sym one) ∙ ap (λ (n : ℕ). spot.item.row.number == n) (sym two) ∙ sym (alone (spot.item.row.number == found_spot.item.row.number))
    ∙ ap (λ (f : Option (Spot DataItem)). list_any (same_item spot) (option_to_list f)) (sym k)
