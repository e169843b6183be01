-- Seats are joined at the end, and the seat that speaks for all callers knows the whole journal.
use Rattle.std.proofs.Common.{◌≡◌, ◌≢◌, ◌⊎◌, ◌==◌, ℕ, zero, suc, ◌+◌, ◌≤◌, Bool, true, false, Option, Some, List, [], ◌∷◌, ◌++◌, length, map, set, All, Contains, refl, sym, ap, ◌∙◌, subst, inl, inr, ⊎_elim, arith, length-append}
use Rattle.std.specs.List.{sum_by}
use Rattle.std.proofs.lemmas.List.Sums.{sum_by-cons, sum_by-append}
use Rattle.std.proofs.lemmas.List.Elements.{All-nil, All-cons, All-weaker}
use mathlib.Core.Option.{some, some-ne-none}
use mathlib.Core.Logic.{dite}
use native.Mathlib.Decide.{ℕ_discrete}
use lib.ListN.{get_elem?}
use Rattle.atomic_table.specs.Table.{State, Joins, Seen, Final}
use Rattle.atomic_table.proofs.Lists.{at_set}
use Rattle.shared_turn.specs.declared.happened.HappenedOf.{HappenedOf}
use Rattle.shared_turn.specs.declared.view.Book.{Book}
use Rattle.shared_turn.specs.declared.view.Caller.{Caller}
use Rattle.shared_turn.specs.declared.view.View.{View}
use Rattle.shared_turn.specs.Serial.{Object}
use Rattle.shared_turn.specs.View.{gathered, both, nobody}
use Rattle.shared_turn.specs.Rule.{bit, OneWithin, has_number, has_seen, has_ticket, has_some_ticket, numbers_in, calls_in, callers_in, seen_in, ViewIn, AtHome, Out, IsInTurn}
use Rattle.shared_turn.specs.Steps.{Held, IsGathered}
use Rattle.shared_turn.specs.Closing.{Agrees, Finished}
use Rattle.shared_turn.proofs.Sums.{sum-set, sum-two, sum-le, each-set, same-at}
use Rattle.shared_turn.proofs.Parts.{bit-other, slot-idle}

at-append : {A : Type 0} (xs ys : List A) (k : ℕ) (a : A) → get_elem? (xs ++ ys) k ≡ some a → ((i : ℕ) × (get_elem? xs i ≡ some a)) ⊎ ((i : ℕ) × (get_elem? ys i ≡ some a))
at-append [] ys k a e = inr (k, e)
at-append (x ∷ xs) ys zero a e = inl (0, e)
at-append (x ∷ xs) ys (suc k) a e = ⊎_elim (λ (t : (i : ℕ) × (get_elem? xs i ≡ some a)). inl (suc t.0, t.1)) (λ (t : (i : ℕ) × (get_elem? ys i ≡ some a)). inr t) (at-append xs ys k a e)

All-from_at : {A : Type 0} (P : A → Type 0) (xs : List A) → ((k : ℕ) (a : A) → get_elem? xs k ≡ some a → P a) → All P xs
All-from_at P [] h = All-nil P
All-from_at P (x ∷ xs) h = All-cons P x xs (h 0 x refl) (All-from_at P xs (λ k a e. h (suc k) a e))

-- a number that is counted is there
Contains-number : {A R : Type 0} (x : ℕ) (cs : List (Caller A R)) → 1 ≤ sum_by (has_number x) cs → Contains (map (λ (c : Caller A R). c.number) cs) x
Contains-number x [] h = absurd (omega arith)
Contains-number {A} {R} x (c ∷ cs) h = dite (ℕ_discrete c.number x) (λ hit. (0, omega arith, hit)) (λ miss.
    let none' : has_number x c ≡ 0 = bit-other c.number x miss in
    let t = Contains-number x cs (omega (arith, sum_by-cons (has_number x) c cs)) in
    let i : ℕ = t.0 in (suc i, omega (arith, t.1), t.2))

numbers-few : {A R : Type 0} (x : ℕ) (cs : List (Caller A R)) → sum_by (has_number x) cs ≤ length cs
numbers-few x [] = omega arith
numbers-few x (c ∷ cs) = let r = numbers-few x cs in let b = bit-small (c.number == x) in omega (arith, sum_by-cons (has_number x) c cs)
  where
    bit-small : (b : Bool) → bit b ≤ 1
    bit-small true = omega arith
    bit-small false = omega arith

module _ {O A R St : Type 0} (obj : Object O A R St) (start : O) (callers : ℕ) where
  sum-join : (m : View O A R → ℕ) (vs : List (View O A R)) (i j : ℕ) (v w b n : View O A R) → get_elem? vs i ≡ some v → get_elem? (set vs i b) j ≡ some w → m b ≡ m v + m w → m n ≡ 0 → sum_by m (set (set vs i b) j n) ≡ sum_by m vs
  sum-join m vs i j v w b n ei ej add zero' = let x = sum-set m vs i v b ei in let y = sum-set m (set vs i b) j w n ej in omega arith

  join-allowed : (id : ℕ) (cs : List (Caller A R)) (other : ℕ) (ds : List (Caller A R)) → Joins (IsInTurn obj start callers) id (gathered cs) other (gathered ds) (gathered (ds ++ cs)) nobody
  join-allowed id cs other ds s r at apart there =
      let v : View O A R = gathered cs in
      let w : View O A R = gathered ds in
      let b : View O A R = gathered (ds ++ cs) in
      let n : View O A R = nobody in
      let vs : List (View O A R) = set (set s.views id b) other n in
      let theirs : get_elem? s.views other ≡ some w = ⊎_elim (λ (t : (other ≡ id) × (b ≡ w)). absurd (apart t.0)) (λ (t : (other ≢ id) × (get_elem? s.views other ≡ some w)). t.1) (at_set s.views id other b w there) in
      let adds : (m : Caller A R → ℕ) → sum_by m (ds ++ cs) ≡ sum_by m cs + sum_by m ds = λ m. let k = sum_by-append m ds cs in omega arith in
      let joins : (m : View O A R → ℕ) → m b ≡ m v + m w → m n ≡ 0 → sum_by m vs ≡ sum_by m s.views = λ m. sum-join m s.views id other v w b n at there in
      record {
        ticket = r.ticket;
        serving = r.serving;
        count = r.count;
        log = r.log;
        words = r.words;
        tickets = record {
          waiting = let k = joins has_some_ticket refl refl in omega (arith, r.tickets.waiting);
          held = λ t. subst (OneWithin r.serving r.ticket t) (sym (joins (has_ticket t) refl refl)) (r.tickets.held t);
          begun = joins calls_in (adds (λ (c : Caller A R). c.calls)) refl ∙ r.tickets.begun;
        };
        numbers = record {
          each_once = λ x. subst (OneWithin 1 (r.count + 1) x) (sym (joins (numbers_in x) (adds (has_number x)) refl)) (r.numbers.each_once x);
          all = joins callers_in (let k = length-append ds cs in omega arith) refl ∙ r.numbers.all;
          most = r.numbers.most;
        };
        within = r.within;
        journal = record {
          longest = let k = joins (seen_in (length r.log)) (adds (has_seen (length r.log))) refl in omega (arith, r.journal.longest);
          whose = r.journal.whose;
          legal = r.journal.legal;
          early = r.journal.early;
          short = r.journal.short;
        };
        views = each-set (λ _ x. ViewIn r.serving r.count r.log x) (set s.views id b) other n
            (record { won = λ c h. absurd (cc); spent = λ _. refl; callers = λ k c h. absurd (some-ne-none c (sym h)) })
            (λ j x _ ej. each-set (λ _ x. ViewIn r.serving r.count r.log x) s.views id b
            (record {
              won = λ c h. absurd (cc);
              spent = λ _. refl;
              callers = λ k c h. ⊎_elim (λ (t : (i : ℕ) × (get_elem? ds i ≡ some c)). (r.views other w theirs).callers t.0 c t.1) (λ (t : (i : ℕ) × (get_elem? cs i ≡ some c)). (r.views id v at).callers t.0 c t.1) (at-append ds cs k c h);
            })
            (λ l y _ el. r.views l y el) j x ej);
        slot = slot-idle obj start r.log s.homes (set s.views id b) other w n there refl refl (slot-idle obj start r.log s.homes s.views id v b at refl refl r.slot);
      }

  pub join-at : (id other : ℕ) (m l : Held O A R) → IsGathered m → IsGathered l → Joins (IsInTurn obj start callers) id m.0 other l.0 (both m.0 l.0) nobody
  join-at id other m l p q = subst (λ (z : View O A R × View O A R). Joins (IsInTurn obj start callers) id z.0 other z.1 (both z.0 z.1) nobody) (λ i. (sym (ap (λ (z : Held O A R). z.0) p) i, sym (ap (λ (z : Held O A R). z.0) q) i)) (join-allowed id m.0.callers other l.0.callers)

  -- where one seat speaks for all callers, no other seat has the book
  at-home : (s : State (Option (Book O A R)) (View O A R)) (r : IsInTurn obj start callers s) (id : ℕ) (cs : List (Caller A R)) → get_elem? s.views id ≡ some (gathered cs) → length cs ≡ callers → AtHome obj start r.log s.homes s.views
  at-home s r id cs at all = ⊎_elim (λ (h : AtHome obj start r.log s.homes s.views). h) (λ (o : Out obj start r.log s.homes s.views).
      let mine : View O A R = gathered cs in
      let ok = r.views o.seat o.view o.there in
      let has = ok.won o.book o.took in
      let other : o.seat ≢ id = λ same. let is : o.view ≡ mine = same-at s.views id o.seat mine o.view at o.there same in let took = o.took in absurd (cc) in
      let two = sum-two callers_in s.views o.seat id o.view mine other o.there at in
      let empty : length o.view.callers ≡ 0 = omega (arith, r.numbers.all, r.within) in
      let idle = ok.spent empty in absurd (cc)) r.slot

  -- and each number that was given is one of its callers'
  has-number : (s : State (Option (Book O A R)) (View O A R)) (r : IsInTurn obj start callers s) (id : ℕ) (cs : List (Caller A R)) → get_elem? s.views id ≡ some (gathered cs) → length cs ≡ callers → (x : ℕ) → 1 ≤ x → x ≤ r.count → 1 ≤ sum_by (has_number x) cs
  has-number s r id cs at all x low high =
      let mine : View O A R = gathered cs in
      let out : View O A R = nobody in
      let a = sum-set callers_in s.views id mine out at in
      let b = sum-set (numbers_in x) s.views id mine out at in
      let less = sum-le (numbers_in x) callers_in (set s.views id out) (λ v. numbers-few x v.callers) in
      let one = (r.numbers.each_once x).one low (omega arith) in
      omega (arith, r.numbers.all, r.within)

  pub finishes : (id : ℕ) (v : View O A R) (cs : List (Caller A R)) (ws : List ℕ) (xs : List (Option (Book O A R))) → v ≡ gathered cs → length cs ≡ callers → Final (Seen (IsInTurn obj start callers) id v) ws xs
      → (b : Book O A R) × (get_elem? xs 0 ≡ some (Some b)) × Finished obj start cs b.serial b.journal.items
  finishes id v cs ws xs is all final =
      let s = final.0 in
      let r = final.1.0 in
      let at : get_elem? s.views id ≡ some (gathered cs) = final.1.1 ∙ ap some is in
      let h = at-home s r id cs at all in
      let whose : All (λ (e : HappenedOf A R). Contains (map (λ (c : Caller A R). c.number) cs) e.who) r.log = All-weaker (λ (e : HappenedOf A R). (1 ≤ e.who) × (e.who ≤ r.count)) (λ (e : HappenedOf A R). Contains (map (λ (c : Caller A R). c.number) cs) e.who)
      (λ e k. Contains-number e.who cs (has-number s r id cs at all e.who k.0 k.1)) r.log r.journal.whose in
      let lists : All (Agrees r.log) cs = All-from_at (Agrees r.log) cs (λ k c ek. let ok = (r.views id (gathered cs) at).callers k c ek in record { seen = ok.seen; found = ok.found; left = ok.left; mine = ok.mine }) in (
        h.book,
        final.4 0 (Some h.book) (ap (λ l. get_elem? l 0) h.home),
        subst (Finished obj start cs h.book.serial) (sym h.right.journal) (record { legal = r.journal.legal; state = h.right.state; taken = h.right.taken; lists = lists; whose = whose }),
      )
