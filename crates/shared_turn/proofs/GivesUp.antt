-- Giving up the turn keeps the rule, with the book as it was taken and with one entry more.
use Rattle.std.proofs.Common.{◌≡◌, ◌≢◌, ℕ, ◌+◌, ◌%◌, ◌^◌, ◌≤◌, Option, Some, None, List, [], ◌∷◌, ◌++◌, length, set, refl, sym, ap, ◌∙◌, subst, inl, ⊎_elim, arith, length-append}
use Rattle.std.proofs.lemmas.List.Sums.{sum_by-cons}
use Rattle.std.proofs.lemmas.List.Elements.{All-push}
use mathlib.Core.Option.{none, some}
use mathlib.Core.List.{IsPrefix}
use lib.ListN.{get_elem?}
use Rattle.atomic_table.specs.Table.{State, step, gives, Allows}
use Rattle.shared_turn.specs.declared.happened.HappenedOf.{HappenedOf}
use Rattle.shared_turn.specs.declared.view.Book.{Book}
use Rattle.shared_turn.specs.declared.view.Caller.{Caller}
use Rattle.shared_turn.specs.declared.view.View.{View}
use Rattle.shared_turn.specs.Serial.{Object}
use Rattle.shared_turn.specs.Journal.{entry, entries_of, state_after}
use Rattle.shared_turn.specs.View.{refused, answered, resting, winner}
use Rattle.shared_turn.specs.Rule.{has_seen, seen_in, CallerIn, ViewIn, BookIn, AtHome, Out, IsInTurn}
use Rattle.shared_turn.specs.Steps.{Held, returned, recorded, IsSame, HasGrown}
use Rattle.shared_turn.proofs.Sums.{sum-same, sum-at, set-at, each-set, one-of, same-at}
use Rattle.shared_turn.proofs.Journals.{entries_of-other, prefix-whole, prefix-more, state_after-snoc, Legal-snoc}
use Rattle.shared_turn.proofs.Parts.{none_if, bit-same, alone, tickets-leave, numbers-same, other-number, given-number, bound}
use Rattle.shared_turn.proofs.Draws.{Goes}

module _ {O A R St : Type 0} (obj : Object O A R St) (start : O) (callers : ℕ) where
  -- what the rule says where a view has the book
  pub record HasBook (s : State (Option (Book O A R)) (View O A R)) (r : IsInTurn obj start callers s) (id t : ℕ) (b : Book O A R) : Type 0 where
    pub served : t ≡ r.serving
    pub away : s.homes ≡ none ∷ []
    pub right : BookIn obj start r.log b
    pub others : (j : ℕ) (u : View O A R) → j ≢ id → get_elem? s.views j ≡ some u → u.took ≡ None

  pub has-book : (s : State (Option (Book O A R)) (View O A R)) (r : IsInTurn obj start callers s) (id : ℕ) (c : Caller A R) (t : ℕ) (b : Book O A R) → get_elem? s.views id ≡ some (winner c t b) → HasBook s r id t b
  has-book s r id c t b at = let won = (r.views id (winner c t b) at).won b refl in ⊎_elim
      (λ (h : AtHome obj start r.log s.homes s.views). let out = h.nobody id (winner c t b) at in absurd (cc))
      (λ (o : Out obj start r.log s.homes s.views).
      let same : o.seat ≡ id = alone r.ticket r.serving s.views o.seat id o.view (winner c t b) r.serving r.tickets o.there at ((r.views o.seat o.view o.there).won o.book o.took) won in
      let is : o.view ≡ winner c t b = same-at s.views id o.seat (winner c t b) o.view at o.there same in
      let has = o.took in
      let book : o.book ≡ b = cc in record {
        served = cc;
        away = o.away;
        right = subst (BookIn obj start r.log) book o.right;
        others = λ j u other e. none_if u.took (λ d h. other (alone r.ticket r.serving s.views j id u (winner c t b) r.serving r.tickets e at ((r.views j u e).won d h) won));
      }) r.slot

  -- a view without the book is right for the next ticket that is served too
  later-ok : (serving count : ℕ) (log : List (HappenedOf A R)) (u : View O A R) → ViewIn serving count log u → u.took ≡ None → ViewIn (serving + 1) count log u
  later-ok serving count log u ok out = record { won = λ b h. absurd (cc); spent = ok.spent; callers = ok.callers }

  return-allowed : (slots id : ℕ) (c : Caller A R) (t : ℕ) (b d : Book O A R) → IsSame obj b d
      → Allows (IsInTurn obj start callers) slots id (winner c t b, (0, Some d) ∷ []) 1 (λ n. (n + 1) % 2 ^ 64) (returned (step slots 1 1 0 none) (winner c t b, (0, Some d) ∷ []))
  return-allowed slots id c t b d as_was s r _ at _ =
      let v : View O A R = winner c t b in
      let m : Held O A R = (winner c t b, (0, Some d) ∷ []) in
      let w : View O A R = resting (refused b.journal.items d.journal.items c) in
      let h = has-book s r id c t b at in
      let won = (r.views id v at).won b refl in
      let ok = (r.views id v at).callers 0 c refl in
      let k = bound r.ticket r.serving r.count r.log s.views r.tickets r.numbers r.views in
      let same : (r.serving + 1) % 2 ^ 64 ≡ r.serving + 1 = omega (arith, r.tickets.waiting) in
      let journal : d.journal.items ≡ r.log = as_was.journal ∙ h.right.journal in
      subst (Goes obj start callers slots id m 1 (λ n. (n + 1) % 2 ^ 64) (returned (step slots 1 1 0 none) m) s) (sym r.words) (
        w,
        gives,
        tt,
        record {
          ticket = r.ticket;
          serving = r.serving + 1;
          count = r.count;
          log = r.log;
          words = ap (λ (k : ℕ). r.ticket ∷ k ∷ []) same;
          tickets = tickets-leave r.ticket r.serving s.views id v w r.tickets at won refl refl;
          numbers = numbers-same r.count s.views id v w r.numbers at (λ x. refl) refl;
          within = r.within;
          journal = record {
            longest = let l = sum-same (seen_in (length r.log)) s.views id v w at refl in omega (arith, r.journal.longest);
            whose = r.journal.whose;
            legal = r.journal.legal;
            early = r.journal.early;
            short = omega (arith, r.journal.short);
          };
          views = each-set (λ _ u. ViewIn (r.serving + 1) r.count r.log u) s.views id w
              (record {
                won = λ b h. absurd (cc);
                spent = λ h. absurd (omega arith);
                callers = one-of (CallerIn r.count r.log) (refused b.journal.items d.journal.items c) (record {
                  calls = ok.calls;
                  seen = ok.seen;
                  found = subst (λ l. IsPrefix l r.log) (sym h.right.journal) (prefix-whole r.log);
                  left = subst (λ l. IsPrefix l r.log) (sym journal) (prefix-whole r.log);
                  mine = ok.mine;
                  own = ok.own;
                  given = ok.given;
                });
              })
              (λ j u other e. later-ok r.serving r.count r.log u (r.views j u e) (h.others j u other e));
          slot = inl (record {
            book = d;
            home = ap (λ l. set l 0 (some (Some d))) h.away;
            right = record { journal = journal; state = as_was.state ∙ h.right.state; taken = as_was.taken ∙ h.right.taken };
            nobody = each-set (λ _ (u : View O A R). u.took ≡ None) s.views id w refl (λ j u other e. h.others j u other e);
          });
        },
        refl,
      )

  -- what is known of another caller, after an entry that is not its own
  caller-later : (count : ℕ) (log : List (HappenedOf A R)) (e : HappenedOf A R) (c : Caller A R) → CallerIn count log c → e.who ≢ c.number → CallerIn count (log ++ e ∷ []) c
  caller-later count log e c ok other = record {
    calls = ok.calls;
    seen = prefix-more c.seen log (e ∷ []) ok.seen;
    found = prefix-more c.found log (e ∷ []) ok.found;
    left = prefix-more c.left log (e ∷ []) ok.left;
    mine = ok.mine ∙ sym (entries_of-other c.number log e other);
    own = ok.own;
    given = ok.given;
  }

  record-allowed : (slots id : ℕ) (c : Caller A R) (t : ℕ) (b d : Book O A R) (e : HappenedOf A R) → e.who ≡ c.number → HasGrown obj b d e.who e.ask e.reply
      → Allows (IsInTurn obj start callers) slots id (winner c t b, (0, Some d) ∷ []) 1 (λ n. (n + 1) % 2 ^ 64) (recorded (step slots 1 1 0 none) (winner c t b, (0, Some d) ∷ []))
  record-allowed slots id c t b d e who grown s r _ at _ =
      let v : View O A R = winner c t b in
      let m : Held O A R = (winner c t b, (0, Some d) ∷ []) in
      let c' : Caller A R = answered b.journal.items d.journal.items c in
      let w : View O A R = resting c' in
      let log : List (HappenedOf A R) = r.log ++ e ∷ [] in
      let h = has-book s r id c t b at in
      let won = (r.views id v at).won b refl in
      let ok = (r.views id v at).callers 0 c refl in
      let k = bound r.ticket r.serving r.count r.log s.views r.tickets r.numbers r.views in
      let same : (r.serving + 1) % 2 ^ 64 ≡ r.serving + 1 = omega (arith, r.tickets.waiting) in
      let journal : d.journal.items ≡ log = grown.journal ∙ ap (λ l. l ++ e ∷ []) h.right.journal in
      let long = length-append r.log (e ∷ []) in
      let number = given-number r.count s.views id v 0 c r.numbers at refl in
      let reply : e.reply ≡ obj.reply (state_after obj (obj.state start) r.log) e.who e.ask = grown.right ∙ ap (λ st. obj.reply st e.who e.ask) h.right.state in
      let whole : IsPrefix d.journal.items log = subst (λ l. IsPrefix l log) (sym journal) (prefix-whole log) in
      let has : has_seen (length log) c' ≡ 1 = bit-same (length d.journal.items) (length log) (ap length journal) in
      subst (Goes obj start callers slots id m 1 (λ n. (n + 1) % 2 ^ 64) (recorded (step slots 1 1 0 none) m) s) (sym r.words) (
        w,
        gives,
        tt,
        record {
          ticket = r.ticket;
          serving = r.serving + 1;
          count = r.count;
          log = log;
          words = ap (λ (k : ℕ). r.ticket ∷ k ∷ []) same;
          tickets = tickets-leave r.ticket r.serving s.views id v w r.tickets at won refl refl;
          numbers = numbers-same r.count s.views id v w r.numbers at (λ x. refl) refl;
          within = r.within;
          journal = record {
            longest = let l = sum-at (seen_in (length log)) (set s.views id w) id w (set-at s.views id v w at) in omega (arith, sum_by-cons (has_seen (length log)) c' []);
            whose = All-push (λ (x : HappenedOf A R). (1 ≤ x.who) × (x.who ≤ r.count)) r.log e r.journal.whose (omega (arith, number.0), omega (arith, number.1));
            legal = Legal-snoc obj (obj.state start) r.log e r.journal.legal reply;
            early = r.journal.early;
            short = omega (arith, r.journal.short);
          };
          views = each-set (λ _ u. ViewIn (r.serving + 1) r.count log u) s.views id w
              (record {
                won = λ b h. absurd (cc);
                spent = λ h. absurd (omega arith);
                callers = one-of (CallerIn r.count log) c' (record {
                  calls = ok.calls;
                  seen = whole;
                  found = subst (λ l. IsPrefix l log) (sym h.right.journal) (prefix-more r.log r.log (e ∷ []) (prefix-whole r.log));
                  left = whole;
                  mine = ap (entries_of c.number) journal;
                  own = refl;
                  given = ok.given;
                });
              })
              (λ j u other ej. later-ok r.serving r.count log u (record {
                won = (r.views j u ej).won;
                spent = (r.views j u ej).spent;
                callers = λ l g el. caller-later r.count r.log e g ((r.views j u ej).callers l g el) (λ is. other-number r.count s.views id j v u 0 l c g r.numbers other at ej refl el (sym who ∙ is));
              }) (h.others j u other ej));
          slot = inl (record {
            book = d;
            home = ap (λ l. set l 0 (some (Some d))) h.away;
            right = record {
              journal = journal;
              state = grown.state ∙ (ap (λ st. obj.after st e.who e.ask) h.right.state ∙ sym (state_after-snoc obj (obj.state start) r.log e));
              taken = let was = h.right.taken in let more = grown.taken in omega arith;
            };
            nobody = each-set (λ _ (u : View O A R). u.took ≡ None) s.views id w refl (λ j u other ej. h.others j u other ej);
          });
        },
        refl,
      )

  -- the same at a seat that is known by an equation
  pub return-at : (slots id : ℕ) (m : Held O A R) (c : Caller A R) (t : ℕ) (b d : Book O A R) → m ≡ (winner c t b, (0, Some d) ∷ []) → IsSame obj b d → Allows (IsInTurn obj start callers) slots id m 1 (λ n. (n + 1) % 2 ^ 64) (returned (step slots 1 1 0 none) m)
  return-at slots id m c t b d is same = subst (λ (z : Held O A R). Allows (IsInTurn obj start callers) slots id z 1 (λ n. (n + 1) % 2 ^ 64) (returned (step slots 1 1 0 none) z)) (sym is) (return-allowed slots id c t b d same)

  pub record-at : (slots id : ℕ) (m : Held O A R) (c : Caller A R) (t : ℕ) (b d : Book O A R) (ask : A) (reply : R) → m ≡ (winner c t b, (0, Some d) ∷ []) → HasGrown obj b d c.number ask reply
      → Allows (IsInTurn obj start callers) slots id m 1 (λ n. (n + 1) % 2 ^ 64) (recorded (step slots 1 1 0 none) m)
  record-at slots id m c t b d ask reply is grown = subst (λ (z : Held O A R). Allows (IsInTurn obj start callers) slots id z 1 (λ n. (n + 1) % 2 ^ 64) (recorded (step slots 1 1 0 none) z)) (sym is) (record-allowed slots id c t b d (entry c.number ask reply) refl grown)
