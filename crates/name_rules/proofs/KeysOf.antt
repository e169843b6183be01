-- Sets whose keys are read as bytes: what a new key leaves at any bytes.
use Rattle.std.proofs.Common.{◌≡◌, refl, sym, ap, subst, ◌∙◌, ℕ, ◌+◌, ◌<◌, ◌||◌, Bool, true, false, List, [], ◌∷◌, ◌++◌, map, take, get_or, length}
use Rattle.std.specs.List.{list_any}
use Rattle.std.specs.Ordering.{nat_cmp}
use Rattle.std.specs.Cmp.{eq_by_cmp_equiv}
use Rattle.std.specs.Cmp.Lexicographic.{slice_cmp, bytes_decides, nat_list_cmp_total, nat_list_eq_equiv}
use Rattle.std.specs.Str.{bytes_eq}
use Rattle.std.specs.BTreeSet.{BTreeSet, contains_by, UpdatesBy}
use Rattle.std.specs.Map.{IsKeyTest, AreApart}
use Rattle.std.specs.Set.{KeepsOthers}
use Rattle.std.proofs.lemmas.List.{take_more, map-append}
use Rattle.std.proofs.lemmas.List.Folds.{list_any-append}
use Rattle.name_rules.proofs.TextKeys.{apart_in_order}

pub other_keys : {K : Type 0} (eq : K → K → Bool) (test : K → Bool) (old new : List K) → KeepsOthers eq test old new → (other : K → Bool) → IsKeyTest eq other → AreApart test other
    → list_any other new ≡ list_any other old
unfolding KeepsOthers
other_keys eq test old new h = h

by_bytes : (f g : List ℕ → Bool) (bs : List ℕ) → g bs ≡ true → ((cs : List ℕ) → bytes_eq bs cs ≡ false → g cs ≡ f cs) → (cs : List ℕ) (b : Bool) → bytes_eq bs cs ≡ b → g cs ≡ (f cs || b)
by_bytes f g bs here other cs true y = subst (λ l. g l ≡ true) ((bytes_decides bs cs).0 y) here ∙ sym (or_true (f cs))
  where
    or_true : (b : Bool) → (b || true) ≡ true
    or_true true = refl
    or_true false = refl
by_bytes f g bs here other cs false n = other cs n ∙ sym (or_false (f cs))
  where
    or_false : (b : Bool) → (b || false) ≡ b
    or_false true = refl
    or_false false = refl

-- a new key in a set whose keys are read by f
pub key_added : {K : Type 0} (f : K → List ℕ) (bs : List ℕ) (m n : BTreeSet K) → UpdatesBy (λ x y. slice_cmp nat_cmp (f x) (f y)) (λ k. slice_cmp nat_cmp bs (f k)) m n true → (cs : List ℕ)
    → contains_by (λ k. slice_cmp nat_cmp cs (f k)) n ≡ (contains_by (λ k. slice_cmp nat_cmp cs (f k)) m || bytes_eq cs bs)
key_added f bs m n h cs =
    by_bytes (λ ds. contains_by (λ k. slice_cmp nat_cmp ds (f k)) m) (λ ds. contains_by (λ k. slice_cmp nat_cmp ds (f k)) n) bs h.1
    (λ ds e. other_keys _ _ _ _ h.3 _ (λ x y. (eq_by_cmp_equiv nat_list_cmp_total).congr ds (f x) (f y)) (λ k. apart_in_order bs ds (f k) e)) cs (bytes_eq cs bs) (nat_list_eq_equiv.symm bs cs)

-- one more name
pub any_more : {A : Type 0} (name : A → List ℕ) (test : List ℕ → Bool) (xs : List A) (at : ℕ) (x : A) (old new : Bool) → at < length xs → x ≡ get_or xs at x
    → old ≡ list_any test (map name (take at xs)) → new ≡ (old || test (name x)) → new ≡ list_any test (map name (take (at + 1) xs))
any_more name test xs at x old new h e o n =
    let more : take (at + 1) xs ≡ take at xs ++ x ∷ [] = take_more xs at x h ∙ ap (λ y. take at xs ++ y ∷ []) (sym e) in
    n ∙ ap (λ b. b || test (name x)) o ∙ ap (λ b. list_any test (map name (take at xs)) || b) (sym (or_none (test (name x))))
    ∙ sym (ap (λ some. list_any test (map name some)) more ∙ ap (list_any test) (map-append name (take at xs) (x ∷ [])) ∙ list_any-append test (map name (take at xs)) (name x ∷ []))
  where
    or_none : (b : Bool) → (b || false) ≡ b
    or_none true = refl
    or_none false = refl

pub any_map : {A B : Type 0} (f : A → B) (test : B → Bool) (xs : List A) → list_any test (map f xs) ≡ list_any (λ x. test (f x)) xs
any_map f test [] = refl
any_map f test (x ∷ xs) = ap (λ b. test (f x) || b) (any_map f test xs)
