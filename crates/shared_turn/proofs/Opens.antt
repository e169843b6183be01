-- The rule at the start, and after a seat was split for a new caller.
use Rattle.std.proofs.Common.{◌≡◌, ◌≢◌, ℕ, ◌+◌, ◌^◌, ◌<◌, ◌≤◌, Option, Some, None, List, [], ◌∷◌, ◌++◌, length, map, set, refl, sym, ap, ◌∙◌, subst, inl, inr, ⊎_elim, arith}
use Rattle.std.specs.List.{sum_by}
use Rattle.std.proofs.lemmas.List.Sums.{sum_by-cons}
use Rattle.std.proofs.lemmas.List.Elements.{All-nil, All-weaker}
use mathlib.Core.Option.{some}
use mathlib.Core.Logic.{dite}
use native.Mathlib.Decide.{ℕ_discrete}
use lib.ListN.{get_elem?}
use Rattle.atomic_table.specs.Table.{opening, Splits}
use Rattle.atomic_table.proofs.Lists.{at_snoc, at_longer}
use Rattle.shared_turn.specs.declared.happened.HappenedOf.{HappenedOf}
use Rattle.shared_turn.specs.declared.view.Book.{Book}
use Rattle.shared_turn.specs.declared.view.Caller.{Caller}
use Rattle.shared_turn.specs.declared.view.View.{View}
use Rattle.shared_turn.specs.Serial.{Object}
use Rattle.shared_turn.specs.View.{first_caller, newcomer, gave, resting, gives_number, next_caller, caller_of}
use Rattle.shared_turn.specs.Rule.{OneWithin, has_number, has_seen, has_ticket, has_some_ticket, numbers_in, calls_in, callers_in, seen_in, CallerIn, Tickets, Numbers, ViewIn, AtHome, Out, IsInTurn}
use Rattle.shared_turn.specs.Steps.{Held, IsIdle}
use Rattle.shared_turn.proofs.Sums.{sum-same, sum-snoc, each-set, one-of}
use Rattle.shared_turn.proofs.Journals.{entries_of-none, prefix-none}
use Rattle.shared_turn.proofs.Parts.{bit-same, bit-other, tickets-same, numbers-same, other-number, given-number, slot-idle}

module _ {O A R St : Type 0} (obj : Object O A R St) (start : O) (callers : ℕ) where
  pub begins : (b : Book O A R) (xs : List (Option (Book O A R))) → xs ≡ Some b ∷ [] → b.journal.items ≡ [] → b.serial ≡ start → obj.taken start < 2 ^ 39 → 1 ≤ callers → IsInTurn obj start callers (opening (0 ∷ 0 ∷ []) xs (resting first_caller))
  begins b xs has empty is early many =
      let v : View O A R = resting first_caller in
      let c : Caller A R = first_caller in record {
        ticket = 0;
        serving = 0;
        count = 1;
        log = [];
        words = refl;
        tickets = record {
          waiting = omega (arith, sum_by-cons has_some_ticket v []);
          held = λ t. let z = sum_by-cons (has_ticket t) v [] in record { below = λ l. absurd (omega arith); one = λ l m. absurd (omega arith); above = λ l. omega arith };
          begun = omega (arith, sum_by-cons calls_in v [], sum_by-cons (λ (d : Caller A R). d.calls) c []);
        };
        numbers = record {
          each_once = λ x. let z = sum_by-cons (numbers_in x) v [] in let y = sum_by-cons (has_number x) c [] in dite (ℕ_discrete 1 x)
              (λ hit. let k : has_number x c ≡ 1 = bit-same 1 x hit in record { below = λ l. absurd (omega arith); one = λ l m. omega arith; above = λ l. absurd (omega arith) })
              (λ miss. let k : has_number x c ≡ 0 = bit-other 1 x miss in record { below = λ l. omega arith; one = λ l m. absurd (omega arith); above = λ l. omega arith });
          all = omega (arith, sum_by-cons callers_in v []);
          most = omega arith;
        };
        within = many;
        journal = record {
          longest = omega (arith, sum_by-cons (seen_in 0) v [], sum_by-cons (has_seen 0) c []);
          whose = All-nil (λ (e : HappenedOf A R). (1 ≤ e.who) × (e.who ≤ 1));
          legal = tt;
          early = early;
          short = omega arith;
        };
        views = one-of (ViewIn 0 1 []) v (record {
          won = λ b h. absurd (cc);
          spent = λ h. absurd (omega arith);
          callers = one-of (CallerIn 1 []) c (record { calls = omega arith; seen = prefix-none []; found = prefix-none []; left = prefix-none []; mine = refl; own = refl; given = λ _. refl });
        });
        slot = inl (record {
          book = b;
          home = ap (map some) has;
          right = record { journal = empty; state = ap obj.state is; taken = let t = ap obj.taken is in omega arith };
          nobody = one-of (λ (u : View O A R). u.took ≡ None) v refl;
        });
      }

  split-allowed : (id : ℕ) (c : Caller A R) → c.number ≡ 1 → c.given + 1 ≤ callers → callers ≤ 64 → Splits (IsInTurn obj start callers) id (resting c) (gives_number (resting c)) (next_caller (resting c))
  split-allowed id c one room most s r at =
      let v : View O A R = resting c in
      let w : View O A R = resting (gave c) in
      let n : ℕ = c.given + 1 in
      let g : Caller A R = newcomer n in
      let u : View O A R = resting g in
      let vs : List (View O A R) = set s.views id w in
      let ok = (r.views id v at).callers 0 c refl in
      let given : c.given ≡ r.count = ok.given one in
      let q : Tickets r.ticket r.serving vs = tickets-same r.ticket r.serving s.views id v w r.tickets at refl refl in
      let ro : Numbers r.count vs = numbers-same r.count s.views id v w r.numbers at (λ x. refl) refl in
      let seen : sum_by (seen_in (length r.log)) vs ≡ sum_by (seen_in (length r.log)) s.views = sum-same (seen_in (length r.log)) s.views id v w at refl in
      let later : (d : Caller A R) → CallerIn r.count r.log d → d.number ≢ 1 → CallerIn (r.count + 1) r.log d = λ d k other. record { calls = k.calls; seen = k.seen; found = k.found; left = k.left; mine = k.mine; own = k.own; given = λ e. absurd (other e) } in
      let old : (j : ℕ) (x : View O A R) → get_elem? vs j ≡ some x → ViewIn r.serving (r.count + 1) r.log x =
      each-set (λ _ x. ViewIn r.serving (r.count + 1) r.log x) s.views id w
      (record {
        won = λ b h. absurd (cc);
        spent = λ _. refl;
        callers = one-of (CallerIn (r.count + 1) r.log) (gave c) (record { calls = ok.calls; seen = ok.seen; found = ok.found; left = ok.left; mine = ok.mine; own = ok.own; given = λ _. ap (λ (k : ℕ). k + 1) given });
      })
      (λ j x other ej. record {
        won = (r.views j x ej).won;
        spent = (r.views j x ej).spent;
        callers = λ l d el. later d ((r.views j x ej).callers l d el) (λ is. other-number r.count s.views id j v x 0 l c d r.numbers other at ej refl el (one ∙ sym is));
      }) in
      record {
        ticket = r.ticket;
        serving = r.serving;
        count = r.count + 1;
        log = r.log;
        words = r.words;
        tickets = record {
          waiting = omega (arith, sum-snoc has_some_ticket vs u, q.waiting);
          held = λ t. let same : sum_by (has_ticket t) (vs ++ u ∷ []) ≡ sum_by (has_ticket t) vs = omega (arith, sum-snoc (has_ticket t) vs u) in subst (OneWithin r.serving r.ticket t) (sym same) (q.held t);
          begun = omega (arith, sum-snoc calls_in vs u, sum_by-cons (λ (d : Caller A R). d.calls) g [], q.begun);
        };
        numbers = record {
          each_once = λ x. let add = sum-snoc (numbers_in x) vs u in let k = sum_by-cons (has_number x) g [] in let in' = ro.each_once x in dite (ℕ_discrete n x)
              (λ hit. let b : has_number x g ≡ 1 = bit-same n x hit in record { below = λ l. absurd (omega arith); one = λ l m. grind (arith, in'.above); above = λ l. absurd (omega arith) })
              (λ miss. let b : has_number x g ≡ 0 = bit-other n x miss in record { below = λ l. grind (arith, in'.below); one = λ l m. grind (arith, in'.one); above = λ l. grind (arith, in'.above) });
          all = omega (arith, sum-snoc callers_in vs u, ro.all);
          most = omega (arith, given);
        };
        within = omega (arith, given);
        journal = record {
          longest = let add = sum-snoc (seen_in (length r.log)) vs u in omega (arith, r.journal.longest);
          whose = All-weaker (λ (e : HappenedOf A R). (1 ≤ e.who) × (e.who ≤ r.count)) (λ (e : HappenedOf A R). (1 ≤ e.who) × (e.who ≤ r.count + 1)) (λ e h. (h.0, omega (arith, h.1))) r.log r.journal.whose;
          legal = r.journal.legal;
          early = r.journal.early;
          short = r.journal.short;
        };
        views = λ j x ej. ⊎_elim (λ (was : get_elem? vs j ≡ some x). old j x was)
            (λ (is : u ≡ x). subst (ViewIn r.serving (r.count + 1) r.log) is (record {
              won = λ b h. absurd (cc);
              spent = λ _. refl;
              callers = one-of (CallerIn (r.count + 1) r.log) g (record {
                calls = omega arith;
                seen = prefix-none r.log;
                found = prefix-none r.log;
                left = prefix-none r.log;
                mine = sym (entries_of-none n r.log (All-weaker (λ (e : HappenedOf A R). (1 ≤ e.who) × (e.who ≤ r.count)) (λ (e : HappenedOf A R). e.who < n) (λ e h. omega (arith, h.1, given)) r.log r.journal.whose));
                own = refl;
                given = λ e. let k = given-number r.count s.views id v 0 c r.numbers at refl in absurd (omega (arith, k.1));
              });
            })) (at_snoc vs u x j ej);
        slot = ⊎_elim
            (λ (h : AtHome obj start r.log s.homes vs). inl (record { book = h.book; home = h.home; right = h.right; nobody = λ j x ej. ⊎_elim (λ (was : get_elem? vs j ≡ some x). h.nobody j x was) (λ (is : u ≡ x). ap (λ (y : View O A R). y.took) (sym is)) (at_snoc vs u x j ej) }))
            (λ (o : Out obj start r.log s.homes vs). inr (record { book = o.book; seat = o.seat; view = o.view; away = o.away; right = o.right; there = at_longer vs (u ∷ []) o.seat o.view o.there; took = o.took }))
            (slot-idle obj start r.log s.homes s.views id v w at refl refl r.slot);
      }

  pub split-at : (id : ℕ) (m : Held O A R) → IsIdle m → (caller_of m.0).number ≡ 1 → (caller_of m.0).given + 1 ≤ callers → callers ≤ 64 → Splits (IsInTurn obj start callers) id m.0 (gives_number m.0) (next_caller m.0)
  split-at id m is one room most = subst (λ (z : View O A R). Splits (IsInTurn obj start callers) id z (gives_number z) (next_caller z)) (sym (ap (λ (z : Held O A R). z.0) is)) (split-allowed id (caller_of m.0) one room most)
