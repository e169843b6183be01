-- What the parts of the rule say of one step: tickets, numbers, and the slot.
use Rattle.std.proofs.Common.{◌≡◌, ◌≢◌, ◌⊎◌, ◌==◌, ℕ, suc, ◌+◌, ◌*◌, ◌^◌, ◌<◌, ◌≤◌, Option, Some, None, List, [], ◌∷◌, length, set, refl, sym, ap, ◌∙◌, subst, inl, inr, arith, eq-eqb, ne_eqb}
use Rattle.std.specs.List.{sum_by}
use Rattle.std.proofs.lemmas.List.Sums.{sum_by-cons}
use mathlib.Core.Option.{some}
use mathlib.Core.Logic.{dite}
use native.Mathlib.Decide.{ℕ_discrete}
use lib.ListN.{get_elem?}
use Rattle.atomic_table.proofs.Lists.{set_else}
use Rattle.shared_turn.specs.declared.happened.HappenedOf.{HappenedOf}
use Rattle.shared_turn.specs.declared.view.Book.{Book}
use Rattle.shared_turn.specs.declared.view.Caller.{Caller}
use Rattle.shared_turn.specs.declared.view.View.{View}
use Rattle.shared_turn.specs.Serial.{Object}
use Rattle.shared_turn.specs.Rule.{bit, is_ticket, some_ticket, OneWithin, has_number, has_ticket, has_some_ticket, numbers_in, calls_in, callers_in, Tickets, Numbers, ViewIn, AtHome, Out}
use Rattle.shared_turn.proofs.Sums.{sum-set, sum-same, sum-at, sum-two, sum-over, each-set, same-at}

pub bit-same : (n m : ℕ) → n ≡ m → bit (n == m) ≡ 1
bit-same n m e = ap bit (eq-eqb n m e)

pub bit-other : (n m : ℕ) → n ≢ m → bit (n == m) ≡ 0
bit-other n m e = ap bit (ne_eqb n m e)

pub is_served : (o : Option ℕ) (n : ℕ) → Dec (o ≡ Some n)
is_served None n = no (λ e. absurd (cc))
is_served (Some t) n = dite (ℕ_discrete t n) (λ e. yes (ap Some e)) (λ ne. no (λ e. let same : t ≡ n = cc in ne same))

pub none_if : {A : Type 0} (o : Option A) → ((a : A) → o ≡ Some a → ⊥) → o ≡ None
none_if None h = refl
none_if (Some a) h = absurd (h a refl)

module _ {O A R : Type 0} where
  -- tickets differ
  pub alone : (ticket serving : ℕ) (vs : List (View O A R)) (i j : ℕ) (v w : View O A R) (t : ℕ) → Tickets ticket serving vs → get_elem? vs i ≡ some v → get_elem? vs j ≡ some w → v.ticket ≡ Some t → w.ticket ≡ Some t → i ≡ j
  alone ticket serving vs i j v w t q ei ej hv hw = dite (ℕ_discrete i j) (λ e. e) (λ ne.
      let two = sum-two (has_ticket t) vs i j v w ne ei ej in
      let a : has_ticket t v ≡ 1 = ap (is_ticket t) hv ∙ bit-same t t refl in
      let b : has_ticket t w ≡ 1 = ap (is_ticket t) hw ∙ bit-same t t refl in
      let in' = q.held t in absurd (grind (arith, in'.below, in'.one, in'.above)))

  -- a ticket is one that was drawn and was not served yet
  pub in-range : (ticket serving : ℕ) (vs : List (View O A R)) (i : ℕ) (v : View O A R) (t : ℕ) → Tickets ticket serving vs → get_elem? vs i ≡ some v → v.ticket ≡ Some t → (serving ≤ t) × (t < ticket)
  in-range ticket serving vs i v t q e h =
      let one = sum-at (has_ticket t) vs i v e in
      let a : has_ticket t v ≡ 1 = ap (is_ticket t) h ∙ bit-same t t refl in
      let in' = q.held t in (grind (arith, in'.below), grind (arith, in'.above))

  pub tickets-same : (ticket serving : ℕ) (vs : List (View O A R)) (i : ℕ) (v w : View O A R) → Tickets ticket serving vs → get_elem? vs i ≡ some v → w.ticket ≡ v.ticket → calls_in w ≡ calls_in v → Tickets ticket serving (set vs i w)
  tickets-same ticket serving vs i v w q e same calls = record {
    waiting = let s = sum-same has_some_ticket vs i v w e (ap some_ticket same) in omega (arith, q.waiting);
    held = λ t. subst (OneWithin serving ticket t) (sym (sum-same (has_ticket t) vs i v w e (ap (is_ticket t) same))) (q.held t);
    begun = sum-same calls_in vs i v w e calls ∙ q.begun;
  }

  pub tickets-draw : (ticket serving : ℕ) (vs : List (View O A R)) (i : ℕ) (v w : View O A R) → Tickets ticket serving vs → get_elem? vs i ≡ some v → v.ticket ≡ None → w.ticket ≡ Some ticket → calls_in w ≡ calls_in v + 1
      → Tickets (ticket + 1) serving (set vs i w)
  tickets-draw ticket serving vs i v w q e idle has calls =
      let order : serving ≤ ticket = omega (arith, q.waiting) in record {
        waiting =
            let s = sum-set has_some_ticket vs i v w e in
            let a : has_some_ticket v ≡ 0 = ap some_ticket idle in
            let b : has_some_ticket w ≡ 1 = ap some_ticket has in omega (arith, q.waiting);
        held = λ t. let s = sum-set (has_ticket t) vs i v w e in let in' = q.held t in let a : has_ticket t v ≡ 0 = ap (is_ticket t) idle in
            dite (ℕ_discrete ticket t)
            (λ hit. let b : has_ticket t w ≡ 1 = ap (is_ticket t) has ∙ bit-same ticket t hit in record { below = λ l. absurd (omega arith); one = λ l m. grind (arith, in'.above); above = λ l. absurd (omega arith) })
            (λ miss. let b : has_ticket t w ≡ 0 = ap (is_ticket t) has ∙ bit-other ticket t miss in record { below = λ l. grind (arith, in'.below); one = λ l m. grind (arith, in'.one); above = λ l. grind (arith, in'.above) });
        begun = let s = sum-set calls_in vs i v w e in omega (arith, q.begun);
      }

  pub tickets-leave : (ticket serving : ℕ) (vs : List (View O A R)) (i : ℕ) (v w : View O A R) → Tickets ticket serving vs → get_elem? vs i ≡ some v → v.ticket ≡ Some serving → w.ticket ≡ None → calls_in w ≡ calls_in v
      → Tickets ticket (serving + 1) (set vs i w)
  tickets-leave ticket serving vs i v w q e has idle calls =
      let range = in-range ticket serving vs i v serving q e has in record {
        waiting =
            let s = sum-set has_some_ticket vs i v w e in
            let a : has_some_ticket v ≡ 1 = ap some_ticket has in
            let b : has_some_ticket w ≡ 0 = ap some_ticket idle in omega (arith, q.waiting);
        held = λ t. let s = sum-set (has_ticket t) vs i v w e in let in' = q.held t in let a : has_ticket t w ≡ 0 = ap (is_ticket t) idle in let r = range.1 in
            dite (ℕ_discrete serving t)
            (λ hit. let b : has_ticket t v ≡ 1 = ap (is_ticket t) has ∙ bit-same serving t hit in record { below = λ l. grind (arith, in'.one); one = λ l m. absurd (omega arith); above = λ l. absurd (omega arith) })
            (λ miss. let b : has_ticket t v ≡ 0 = ap (is_ticket t) has ∙ bit-other serving t miss in record { below = λ l. grind (arith, in'.below); one = λ l m. grind (arith, in'.one); above = λ l. grind (arith, in'.above) });
        begun = let s = sum-set calls_in vs i v w e in omega (arith, q.begun);
      }

  pub numbers-same : (count : ℕ) (vs : List (View O A R)) (i : ℕ) (v w : View O A R) → Numbers count vs → get_elem? vs i ≡ some v → ((x : ℕ) → numbers_in x w ≡ numbers_in x v) → callers_in w ≡ callers_in v → Numbers count (set vs i w)
  numbers-same count vs i v w r e numbers callers = record {
    each_once = λ x. subst (OneWithin 1 (count + 1) x) (sym (sum-same (numbers_in x) vs i v w e (numbers x))) (r.each_once x);
    all = sum-same callers_in vs i v w e callers ∙ r.all;
    most = r.most;
  }

  -- two seats have no number in common
  pub other-number : (count : ℕ) (vs : List (View O A R)) (i j : ℕ) (v u : View O A R) (k l : ℕ) (c d : Caller A R) → Numbers count vs → j ≢ i → get_elem? vs i ≡ some v → get_elem? vs j ≡ some u
      → get_elem? v.callers k ≡ some c → get_elem? u.callers l ≡ some d → c.number ≢ d.number
  other-number count vs i j v u k l c d r apart ei ej ek el same =
      let x : ℕ = d.number in
      let two = sum-two (numbers_in x) vs j i u v apart ej ei in
      let a = sum-at (has_number x) v.callers k c ek in
      let b = sum-at (has_number x) u.callers l d el in
      let p : has_number x c ≡ 1 = bit-same c.number x same in
      let q : has_number x d ≡ 1 = bit-same d.number x refl in
      let in' = r.each_once x in absurd (grind (arith, in'.below, in'.one, in'.above))

  -- a caller's number is one that was given
  pub given-number : (count : ℕ) (vs : List (View O A R)) (i : ℕ) (v : View O A R) (k : ℕ) (c : Caller A R) → Numbers count vs → get_elem? vs i ≡ some v → get_elem? v.callers k ≡ some c → (1 ≤ c.number) × (c.number ≤ count)
  given-number count vs i v k c r e h =
      let x : ℕ = c.number in
      let one = sum-at (numbers_in x) vs i v e in
      let a = sum-at (has_number x) v.callers k c h in
      let p : has_number x c ≡ 1 = bit-same c.number x refl in
      let in' = r.each_once x in (grind (arith, in'.below), grind (arith, in'.above))

  -- ticket is at most 2^38
  pub bound : (ticket serving count : ℕ) (log : List (HappenedOf A R)) (vs : List (View O A R)) → Tickets ticket serving vs → Numbers count vs → ((j : ℕ) (v : View O A R) → get_elem? vs j ≡ some v → ViewIn serving count log v) → ticket ≤ 2 ^ 38
  bound ticket serving count log vs q r each =
      let b = sum-over calls_in callers_in vs (λ j v e. calls-below v.callers (λ k c h. ((each j v e).callers k c h).calls)) in omega (arith, q.begun, r.all, r.most)
    where
      calls-below : (cs : List (Caller A R)) → ((k : ℕ) (c : Caller A R) → get_elem? cs k ≡ some c → c.calls ≤ 2 ^ 32) → sum_by (λ (c : Caller A R). c.calls) cs ≤ length cs * 2 ^ 32
      calls-below [] h = omega arith
      calls-below (c ∷ cs) h = let r = calls-below cs (λ k d e. h (suc k) d e) in let x = h 0 c refl in omega (arith, sum_by-cons (λ (d : Caller A R). d.calls) c cs)

module _ {O A R St : Type 0} (obj : Object O A R St) (start : O) where
  -- a seat without the book changes
  pub slot-idle : (log : List (HappenedOf A R)) (homes : List (mathlib.Core.Option.Option (Option (Book O A R)))) (vs : List (View O A R)) (i : ℕ) (v w : View O A R) → get_elem? vs i ≡ some v → v.took ≡ None → w.took ≡ None
      → AtHome obj start log homes vs ⊎ Out obj start log homes vs → AtHome obj start log homes (set vs i w) ⊎ Out obj start log homes (set vs i w)
  slot-idle log homes vs i v w e out idle (inl h) = inl (record { book = h.book; home = h.home; right = h.right; nobody = each-set (λ _ (u : View O A R). u.took ≡ None) vs i w idle (λ j u _ e'. h.nobody j u e') })
  slot-idle log homes vs i v w e out idle (inr o) =
      let apart : o.seat ≢ i = λ same. let is : o.view ≡ v = same-at vs i o.seat v o.view e o.there same in let has = o.took in absurd (cc) in
      inr (record { book = o.book; seat = o.seat; view = o.view; away = o.away; right = o.right; there = set_else vs i o.seat w apart ∙ o.there; took = o.took })
