-- Maps whose keys are read as bytes: what a change at the bytes bs leaves at any bytes cs.
use Rattle.std.proofs.Common.{◌≡◌, refl, sym, subst, ◌∙◌, ℕ, Bool, true, false, List, Option}
use Rattle.std.specs.Prelude.{if◌then◌else◌}
use Rattle.std.specs.Ordering.{is_eq, nat_cmp}
use Rattle.std.specs.Cmp.{eq_by_cmp_equiv}
use Rattle.std.specs.Cmp.Lexicographic.{slice_cmp, bytes_decides, nat_list_cmp_total, nat_list_eq_equiv}
use Rattle.std.specs.Str.{bytes_eq}
use Rattle.std.specs.BTreeMap.{BTreeMap, get_by, UpdatesBy}
use Rattle.std.specs.Map.{lookup, IsKeyTest, AreApart, KeepsOthers}
use Rattle.std.proofs.lemmas.Map.Text.{is_eq-slice_cmp}

apart : (bs cs ks : List ℕ) → bytes_eq bs cs ≡ false → bytes_eq bs ks ≡ true → bytes_eq cs ks ≡ false
apart bs cs ks n y = nat_list_eq_equiv.symm cs ks ∙ sym (nat_list_eq_equiv.congr bs ks cs y) ∙ n

apart_in_order : (bs cs ks : List ℕ) → bytes_eq bs cs ≡ false → is_eq (slice_cmp nat_cmp bs ks) ≡ true → is_eq (slice_cmp nat_cmp cs ks) ≡ false
apart_in_order bs cs ks n y = is_eq-slice_cmp cs ks ∙ apart bs cs ks n (sym (is_eq-slice_cmp bs ks) ∙ y)

other_entries : {K : Type 0} (eq : K → K → Bool) (test : K → Bool) {X : Type 0} (old new : List (K × X)) → KeepsOthers eq test old new → (other : K → Bool) → IsKeyTest eq other → AreApart test other
    → lookup other new ≡ lookup other old
unfolding KeepsOthers
other_entries eq test old new h = h

by_bytes : {W : Type 0} (f g : List ℕ → W) (bs : List ℕ) (w : W) → g bs ≡ w → ((cs : List ℕ) → bytes_eq bs cs ≡ false → g cs ≡ f cs) → (cs : List ℕ) (b : Bool) → bytes_eq bs cs ≡ b
    → g cs ≡ (if b then w else f cs)
by_bytes f g bs w here other cs true y = subst (λ l. g l ≡ w) ((bytes_decides bs cs).0 y) here
by_bytes f g bs w here other cs false n = other cs n

-- a change in a map whose keys are read by f
pub updates_by : {K X : Type 0} (f : K → List ℕ) (bs : List ℕ) (m n : BTreeMap K X) (w : Option X)
    → UpdatesBy (λ x y. slice_cmp nat_cmp (f x) (f y)) (λ k. slice_cmp nat_cmp bs (f k)) m n w
    → (cs : List ℕ) → get_by (λ k. slice_cmp nat_cmp cs (f k)) n ≡ (if bytes_eq bs cs then w else get_by (λ k. slice_cmp nat_cmp cs (f k)) m)
updates_by f bs m n w h cs =
    by_bytes (λ ds. get_by (λ k. slice_cmp nat_cmp ds (f k)) m) (λ ds. get_by (λ k. slice_cmp nat_cmp ds (f k)) n) bs w h.1
    (λ ds e. other_entries _ _ _ _ h.3 _ (λ x y. (eq_by_cmp_equiv nat_list_cmp_total).congr ds (f x) (f y)) (λ k. apart_in_order bs ds (f k) e)) cs (bytes_eq bs cs) refl

-- equal bytes, the other way round
pub bytes_eq-flip : (bs cs : List ℕ) → bytes_eq bs cs ≡ bytes_eq cs bs
bytes_eq-flip bs cs = nat_list_eq_equiv.symm bs cs

pub bytes_eq-same : (bs cs : List ℕ) → bytes_eq bs cs ≡ true → bs ≡ cs
bytes_eq-same bs cs e = (bytes_decides bs cs).0 e
