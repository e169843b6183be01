-- Maps whose keys are read as bytes: what a change at the bytes bs leaves at any bytes cs.
use Rattle.std.proofs.Common.{◌≡◌, refl, sym, ap, subst, ◌∙◌, ℕ, Bool, true, false, ◌||◌, List, [], ◌∷◌, ◌++◌, Option, Some, None}
use Rattle.std.specs.Prelude.{if◌then◌else◌}
use Rattle.std.specs.Option.{option_map_or}
use Rattle.std.specs.Ordering.{is_eq, nat_cmp}
use Rattle.std.specs.Cmp.{eq_by_cmp_equiv}
use Rattle.std.specs.Cmp.Lexicographic.{slice_cmp, bytes_decides, nat_list_cmp_total, nat_list_eq_equiv}
use Rattle.std.specs.Str.{bytes_eq}
use Rattle.std.specs.BTreeMap.{BTreeMap, get_by, UpdatesBy}
use Rattle.std.specs.BTreeSet as set
use Rattle.std.specs.Set as keys
use Rattle.std.specs.List.{list_any}
use Rattle.std.specs.Map.{lookup, IsKeyTest, AreApart, KeepsOthers}
use Rattle.std.proofs.lemmas.Map.Text.{is_eq-slice_cmp}

apart : (bs cs ks : List ℕ) → bytes_eq bs cs ≡ false → bytes_eq bs ks ≡ true → bytes_eq cs ks ≡ false
apart bs cs ks n y = nat_list_eq_equiv.symm cs ks ∙ sym (nat_list_eq_equiv.congr bs ks cs y) ∙ n

apart_in_order : (bs cs ks : List ℕ) → bytes_eq bs cs ≡ false → is_eq (slice_cmp nat_cmp bs ks) ≡ true → is_eq (slice_cmp nat_cmp cs ks) ≡ false
apart_in_order bs cs ks n y = is_eq-slice_cmp cs ks ∙ apart bs cs ks n (sym (is_eq-slice_cmp bs ks) ∙ y)

other_entries : {K : Type 0} (eq : K → K → Bool) (test : K → Bool) {X : Type 0} (old new : List (K × X)) → KeepsOthers eq test old new → (other : K → Bool) → IsKeyTest eq other → AreApart test other
    → lookup other new ≡ lookup other old
unfolding KeepsOthers
other_entries eq test old new h = h

by_bytes : {W : Type 0} (f g : List ℕ → W) (bs : List ℕ) (w : W) → g bs ≡ w → ((cs : List ℕ) → bytes_eq bs cs ≡ false → g cs ≡ f cs) → (cs : List ℕ) (b : Bool) → bytes_eq bs cs ≡ b
    → g cs ≡ (if b then w else f cs)
by_bytes f g bs w here other cs true y = subst (λ l. g l ≡ w) ((bytes_decides bs cs).0 y) here
by_bytes f g bs w here other cs false n = other cs n

-- a change in a map whose keys are read by f
pub updates_by : {K X : Type 0} (f : K → List ℕ) (bs : List ℕ) (m n : BTreeMap K X) (w : Option X)
    → UpdatesBy (λ x y. slice_cmp nat_cmp (f x) (f y)) (λ k. slice_cmp nat_cmp bs (f k)) m n w
    → (cs : List ℕ) → get_by (λ k. slice_cmp nat_cmp cs (f k)) n ≡ (if bytes_eq bs cs then w else get_by (λ k. slice_cmp nat_cmp cs (f k)) m)
updates_by f bs m n w h cs =
    by_bytes (λ ds. get_by (λ k. slice_cmp nat_cmp ds (f k)) m) (λ ds. get_by (λ k. slice_cmp nat_cmp ds (f k)) n) bs w h.1
    (λ ds e. other_entries _ _ _ _ h.3 _ (λ x y. (eq_by_cmp_equiv nat_list_cmp_total).congr ds (f x) (f y)) (λ k. apart_in_order bs ds (f k) e)) cs (bytes_eq bs cs) refl

-- ---- sets of keys

other_keys : {K : Type 0} (eq : K → K → Bool) (test : K → Bool) (old new : List K) → keys.KeepsOthers eq test old new → (other : K → Bool) → IsKeyTest eq other → AreApart test other
    → list_any other new ≡ list_any other old
unfolding keys.KeepsOthers
other_keys eq test old new h = h

in_by_bytes : (f g : List ℕ → Bool) (bs : List ℕ) → g bs ≡ true → ((cs : List ℕ) → bytes_eq bs cs ≡ false → g cs ≡ f cs) → (cs : List ℕ) (b : Bool) → bytes_eq bs cs ≡ b → g cs ≡ (f cs || b)
in_by_bytes f g bs here other cs true y = subst (λ l. g l ≡ true) ((bytes_decides bs cs).0 y) here ∙ sym (or_true (f cs))
  where
    or_true : (b : Bool) → (b || true) ≡ true
    or_true true = refl
    or_true false = refl
in_by_bytes f g bs here other cs false n = other cs n ∙ sym (or_false (f cs))
  where
    or_false : (b : Bool) → (b || false) ≡ b
    or_false true = refl
    or_false false = refl

-- a new key in a set whose keys are read by f
pub key_added : {K : Type 0} (f : K → List ℕ) (bs : List ℕ) (m n : set.BTreeSet K) → set.UpdatesBy (λ x y. slice_cmp nat_cmp (f x) (f y)) (λ k. slice_cmp nat_cmp bs (f k)) m n true → (cs : List ℕ)
    → set.contains_by (λ k. slice_cmp nat_cmp cs (f k)) n ≡ (set.contains_by (λ k. slice_cmp nat_cmp cs (f k)) m || bytes_eq cs bs)
key_added f bs m n h cs =
    in_by_bytes (λ ds. set.contains_by (λ k. slice_cmp nat_cmp ds (f k)) m) (λ ds. set.contains_by (λ k. slice_cmp nat_cmp ds (f k)) n) bs h.1
    (λ ds e. other_keys _ _ _ _ h.3 _ (λ x y. (eq_by_cmp_equiv nat_list_cmp_total).congr ds (f x) (f y)) (λ k. apart_in_order bs ds (f k) e)) cs (bytes_eq cs bs) (nat_list_eq_equiv.symm bs cs)

-- ---- lists under keys

-- nothing is left under a key that was taken out
pub emptied : {V : Type 0} (g : V → List ℕ) (b : Bool) (old new : Option V) → new ≡ (if b then None else old) → option_map_or g new [] ≡ (if b then [] else option_map_or g old [])
emptied g true old new e = rw e refl
emptied g false old new e = rw e refl

-- a list under a key that was put in
pub filled : {V : Type 0} (g : V → List ℕ) (b : Bool) (v : V) (old new : Option V) → new ≡ (if b then Some v else old) → option_map_or g new [] ≡ (if b then g v else option_map_or g old [])
filled g true v old new e = rw e refl
filled g false v old new e = rw e refl

-- a list under the key bs that was taken out, made longer and put in again
pub put_again : (old : List ℕ → List ℕ) (bs cs taken mid new : List ℕ) (n : ℕ) (b : Bool) → bytes_eq bs cs ≡ b → taken ≡ old bs → mid ≡ (if b then [] else old cs) → new ≡ (if b then taken ++ n ∷ [] else mid)
    → new ≡ (if b then old cs ++ n ∷ [] else old cs)
put_again old bs cs taken mid new n true y t m e = e ∙ ap (λ xs. xs ++ n ∷ []) (t ∙ ap old ((bytes_decides bs cs).0 y))
put_again old bs cs taken mid new n false y t m e = e ∙ m
