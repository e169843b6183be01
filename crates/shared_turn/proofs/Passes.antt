-- The passes in a row, one more or one less.
use Rattle.std.proofs.Common.{◌≡◌, ℕ, zero, suc, ◌<◌, Option, Some, None, List, [], ◌∷◌, ◌++◌, length, map, All, get_or, refl, sym, ap, ◌∙◌, subst, arith, append_assoc, length-append}
use Rattle.std.proofs.lemmas.List.Elements.{All-nil, All-cons, All-head, All-tail}
use mathlib.Core.Option.{some, some-injective}
use lib.ListN.{get_elem?}
use Rattle.shared_turn.specs.declared.happened.HappenedOf.{HappenedOf}
use Rattle.shared_turn.specs.declared.pass.PassOf.{PassOf}
use Rattle.shared_turn.specs.declared.view.Caller.{Caller}
use Rattle.shared_turn.specs.declared.view.View.{View}
use Rattle.shared_turn.specs.Journal.{entries_of}
use Rattle.shared_turn.specs.View.{gathered, both, caller_of, gave, newcomer}
use Rattle.shared_turn.specs.Steps.{Held, IsIdle}
use Rattle.shared_turn.specs.Passes.{number_of, IsNew, AgreesWith}
use Rattle.shared_turn.specs.Closing.{Agrees}

module _ {A : Type 0} where
  each-push : (xs : List A) (y : A) (P : ℕ → A → Type 0) → ((k : ℕ) (d : A) → k < length xs → P k (get_or xs k d)) → P (length xs) y → (k : ℕ) (d : A) → k < length (xs ++ y ∷ []) → P k (get_or (xs ++ y ∷ []) k d)
  each-push [] y P h p zero d l = p
  each-push [] y P h p (suc k) d l = absurd (omega arith)
  each-push (x ∷ xs) y P h p zero d l = h 0 d (omega arith)
  each-push (x ∷ xs) y P h p (suc k) d l = each-push xs y (λ j. P (suc j)) (λ j e m. h (suc j) e (omega arith)) p k d (omega arith)

  get-front : (xs ys : List A) (k : ℕ) (d : A) → k < length xs → get_or (xs ++ ys) k d ≡ get_or xs k d
  get-front [] ys k d l = absurd (omega arith)
  get-front (x ∷ xs) ys zero d l = refl
  get-front (x ∷ xs) ys (suc k) d l = get-front xs ys k d (omega arith)

  pub all-front : (P : A → Type 0) (l xs ys : List A) → l ≡ xs ++ ys → All P l → All P xs
  all-front P l xs ys is all k d less = subst P (get-front xs ys k d less) (subst (All P) is all k d (omega (arith, length-append xs ys)))

  pub pushed : (P : ℕ → A → Type 0) (xs l : List A) (y : A) → l ≡ xs ++ y ∷ [] → ((k : ℕ) (d : A) → k < length xs → P k (get_or xs k d)) → P (length xs) y → (k : ℕ) (d : A) → k < length l → P k (get_or l k d)
  pushed P xs l y is h p = subst (λ z. (k : ℕ) (d : A) → k < length z → P k (get_or z k d)) (sym is) (each-push xs y P h p)

  pub not-none : (xs : List (Option A)) (b : A) → get_elem? xs 0 ≡ some None → get_elem? xs 0 ≡ some (Some b) → ⊥
  not-none xs b e h = let is : None ≡ Some b = some-injective None (Some b) (sym e ∙ h) in absurd (cc)

  pub same-there : (xs : List (Option A)) (a b : A) → get_elem? xs 0 ≡ some (Some a) → get_elem? xs 0 ≡ some (Some b) → b ≡ a
  same-there xs a b e h = let is : Some a ≡ Some b = some-injective (Some a) (Some b) (sym e ∙ h) in cc

  pub moved : (l xs all popped : List A) (y : A) → all ≡ l ++ popped → l ≡ xs ++ y ∷ [] → all ≡ xs ++ (y ∷ popped)
  moved l xs all popped y p q = p ∙ (ap (λ z. z ++ popped) q ∙ append_assoc xs (y ∷ []) popped)

pub taken-in : {O A R : Type 0} (m m' o : Held O A R) (cs : List (Caller A R)) → m ≡ (gathered cs, []) → IsIdle o → m' ≡ (both m.0 o.0, []) → m' ≡ (gathered (caller_of o.0 ∷ cs), [])
taken-in {O} {A} {R} m m' o cs p q e = e ∙ ap (λ (z : View O A R × View O A R). let w : Held O A R = (both z.0 z.1, []) in w) (λ i. (ap (λ (z : Held O A R). z.0) p i, ap (λ (z : Held O A R). z.0) q i))

module _ {O A R : Type 0} where
  pub still-new : (n : ℕ) (p q : PassOf O A R) → q.number ≡ p.number → caller_of q.seat.me.0 ≡ gave (caller_of p.seat.me.0) → IsNew n p → IsNew n q
  still-new n p q number is h = record {
    number = number ∙ h.number;
    asked = q.asked_is ∙ (ap (λ (c : Caller A R). c.calls) is ∙ (sym p.asked_is ∙ h.asked));
    seen = ap (λ (c : Caller A R). c.seen) is ∙ h.seen;
    mine = ap (λ (c : Caller A R). c.mine) is ∙ h.mine;
  }

  pub newly : (n m : ℕ) (p : PassOf O A R) → p.number ≡ n → caller_of p.seat.me.0 ≡ newcomer m → IsNew n p
  newly n m p number is = record { number = number; asked = p.asked_is ∙ ap (λ (c : Caller A R). c.calls) is; seen = ap (λ (c : Caller A R). c.seen) is; mine = ap (λ (c : Caller A R). c.mine) is }

  -- what the journal says of the callers, it says of their passes
  pub All-agree : (log : List (HappenedOf A R)) (ps : List (PassOf O A R)) → All (Agrees log) (map (λ p. caller_of p.seat.me.0) ps) → All (AgreesWith log) ps
  All-agree log [] h = All-nil (AgreesWith log)
  All-agree log (p ∷ ps) h =
      let a = All-head (Agrees log) (caller_of p.seat.me.0) (map (λ (q : PassOf O A R). caller_of q.seat.me.0) ps) h in
      All-cons (AgreesWith log) p ps (record { seen = a.seen; found = a.found; left = a.left; mine = a.mine ∙ ap (λ n. entries_of n log) (sym p.number_is) })
      (All-agree log ps (All-tail (Agrees log) (caller_of p.seat.me.0) (map (λ (q : PassOf O A R). caller_of q.seat.me.0) ps) h))

  pub map-number : (ps : List (PassOf O A R)) → map (λ (c : Caller A R). c.number) (map (λ (p : PassOf O A R). caller_of p.seat.me.0) ps) ≡ map number_of ps
  map-number [] = refl
  map-number (p ∷ ps) = ap (λ n. n ∷ map (λ (c : Caller A R). c.number) (map (λ (q : PassOf O A R). caller_of q.seat.me.0) ps)) (sym p.number_is) ∙ ap (λ l. p.number ∷ l) (map-number ps)
