-- Drawing a ticket and looking which one is served keep the rule.
use Rattle.std.proofs.Common.{◌≡◌, ℕ, ◌+◌, ◌%◌, ◌^◌, ◌<◌, Option, Some, None, List, [], ◌∷◌, length, set, get_or, refl, sym, ap, ◌∙◌, subst, inr, ⊎_elim, arith}
use Rattle.std.proofs.lemmas.List.Sums.{sum_by-cons}
use mathlib.Core.Option.{none, some}
use mathlib.Core.Logic.{dite}
use mathlib.Core.List.{IsPrefix}
use lib.ListN.{get_elem?}
use Rattle.atomic_table.specs.Table.{State, step, keeps, takes, Act, Valid, homes_after, carried_after, Allows}
use Rattle.shared_turn.specs.declared.happened.HappenedOf.{HappenedOf}
use Rattle.shared_turn.specs.declared.view.Book.{Book}
use Rattle.shared_turn.specs.declared.view.Caller.{Caller}
use Rattle.shared_turn.specs.declared.view.View.{View}
use Rattle.shared_turn.specs.Serial.{Object}
use Rattle.shared_turn.specs.Journal.{entries_of}
use Rattle.shared_turn.specs.View.{counted, resting, waiting, winner, caller_of}
use Rattle.shared_turn.specs.Rule.{calls_in, seen_in, CallerIn, ViewIn, JournalIn, AtHome, Out, IsInTurn}
use Rattle.shared_turn.specs.Steps.{Held, IsFresh, IsIdle, drawn, watched}
use Rattle.shared_turn.proofs.Sums.{sum-same, set-at, each-set, one-of, same-at}
use Rattle.shared_turn.proofs.Parts.{is_served, alone, tickets-same, tickets-draw, numbers-same, bound, slot-idle}

module _ {O A R St : Type 0} (obj : Object O A R St) (start : O) (callers : ℕ) where
  module _ (slots id : ℕ) (m : Held O A R) where
    -- what a step has to find, at the words ws
    abbrev pub Goes : ℕ → (ℕ → ℕ) → (ℕ → Held O A R → Type 0) → State (Option (Book O A R)) (View O A R) → List ℕ → Type 0
    Goes i f then s ws = (w : View O A R) × (a : Act (Option (Book O A R))) × Valid s.homes m.1 a
        × IsInTurn obj start callers (record { words = set ws i (f (get_or ws i 0)); homes = homes_after s.homes m.1 a; views = set s.views id w }) × then (get_or ws i 0) (w, carried_after m.1 a)

  -- the journal, after a step that has changed no `seen`
  pub journal-same : (serving count : ℕ) (log : List (HappenedOf A R)) (vs : List (View O A R)) (i : ℕ) (v w : View O A R) → JournalIn obj start serving count log vs → get_elem? vs i ≡ some v → seen_in (length log) w ≡ seen_in (length log) v
      → JournalIn obj start serving count log (set vs i w)
  journal-same serving count log vs i v w j e same = record {
    longest = let s = sum-same (seen_in (length log)) vs i v w e same in omega (arith, j.longest);
    whose = j.whose;
    legal = j.legal;
    early = j.early;
    short = j.short;
  }

  pub draw-allowed : (slots id : ℕ) (c : Caller A R) → c.calls < 2 ^ 32 → Allows (IsInTurn obj start callers) slots id (resting c, []) 0 (λ n. (n + 1) % 2 ^ 64) (drawn (step slots 0 1 0 none) (resting c, []))
  draw-allowed slots id c little s r _ at _ =
      let v : View O A R = resting c in
      let w : View O A R = waiting (counted c) r.ticket in
      let ok = (r.views id v at).callers 0 c refl in
      let calls : calls_in w ≡ calls_in v + 1 = omega (arith, sum_by-cons (λ (d : Caller A R). d.calls) c [], sum_by-cons (λ (d : Caller A R). d.calls) (counted c) []) in
      let b = bound r.ticket r.serving r.count r.log s.views r.tickets r.numbers r.views in
      let same : (r.ticket + 1) % 2 ^ 64 ≡ r.ticket + 1 = omega arith in
      subst (Goes slots id (resting c, []) 0 (λ n. (n + 1) % 2 ^ 64) (drawn (step slots 0 1 0 none) (resting c, [])) s) (sym r.words) (
        w,
        keeps,
        tt,
        record {
          ticket = r.ticket + 1;
          serving = r.serving;
          count = r.count;
          log = r.log;
          words = ap (λ (k : ℕ). k ∷ r.serving ∷ []) same;
          tickets = tickets-draw r.ticket r.serving s.views id v w r.tickets at refl refl calls;
          numbers = numbers-same r.count s.views id v w r.numbers at (λ x. refl) refl;
          within = r.within;
          journal = journal-same r.serving r.count r.log s.views id v w r.journal at refl;
          views = each-set (λ _ u. ViewIn r.serving r.count r.log u) s.views id w
              (record {
                won = λ b h. absurd (cc);
                spent = λ h. absurd (omega arith);
                callers = one-of (CallerIn r.count r.log) (counted c) (record { calls = omega arith; seen = ok.seen; found = ok.found; left = ok.left; mine = ok.mine; own = ok.own; given = ok.given });
              })
              (λ j u _ e. r.views j u e);
          slot = slot-idle obj start r.log s.homes s.views id v w at refl refl r.slot;
        },
        refl,
      )

  -- where a seat has the ticket that is served and no book, the slot is at home
  home-if-served : (s : State (Option (Book O A R)) (View O A R)) (r : IsInTurn obj start callers s) (id : ℕ) (v : View O A R) → get_elem? s.views id ≡ some v → v.ticket ≡ Some r.serving → v.took ≡ None → AtHome obj start r.log s.homes s.views
  home-if-served s r id v at hit out = ⊎_elim (λ (h : AtHome obj start r.log s.homes s.views). h) (λ (o : Out obj start r.log s.homes s.views).
      let won = (r.views o.seat o.view o.there).won o.book o.took in
      let same : o.seat ≡ id = alone r.ticket r.serving s.views o.seat id o.view v r.serving r.tickets o.there at won hit in
      let is : o.view ≡ v = same-at s.views id o.seat v o.view at o.there same in let has = o.took in absurd (cc)) r.slot

  pub watch-allowed : (slots id : ℕ) (c : Caller A R) (t : ℕ) → Allows (IsInTurn obj start callers) slots id (waiting c t, []) 1 (λ n. n) (watched obj.taken (step slots 1 0 0 none) (waiting c t, []))
  watch-allowed slots id c t s r _ at _ = subst (Goes slots id m 1 (λ n. n) (watched obj.taken (step slots 1 0 0 none) m) s) (sym r.words) (dite (is_served (Some t) r.serving)
      (λ hit.
      let h = home-if-served s r id v at hit refl in
      let w : View O A R = winner c t h.book in
      let ok = (r.views id v at).callers 0 c refl in
      let b = bound r.ticket r.serving r.count r.log s.views r.tickets r.numbers r.views in (
        w,
        takes 0 (Some h.book),
        ap (λ l. get_elem? l 0) h.home,
        record {
          ticket = r.ticket;
          serving = r.serving;
          count = r.count;
          log = r.log;
          words = refl;
          tickets = tickets-same r.ticket r.serving s.views id v w r.tickets at refl refl;
          numbers = numbers-same r.count s.views id v w r.numbers at (λ x. refl) refl;
          within = r.within;
          journal = journal-same r.serving r.count r.log s.views id v w r.journal at refl;
          views = each-set (λ _ u. ViewIn r.serving r.count r.log u) s.views id w (record { won = λ _ _. hit; spent = λ h. absurd (omega arith); callers = (r.views id v at).callers }) (λ j u _ e. r.views j u e);
          slot = inr (record { book = h.book; seat = id; view = w; away = ap (λ l. set l 0 none) h.home; right = h.right; there = set-at s.views id v w at; took = refl });
        },
        (
          (λ _. (
            h.book,
            refl,
            record {
              seen = subst (IsPrefix c.seen) (sym h.right.journal) ok.seen;
              mine = ok.mine ∙ ap (entries_of c.number) (sym h.right.journal);
              own = ok.own;
              early = omega (arith, h.right.taken, r.journal.early, r.journal.short, r.tickets.waiting);
            },
          )),
          λ miss. absurd (miss hit),
        ),
      ))
      (λ miss. (
        v,
        keeps,
        tt,
        record {
          ticket = r.ticket;
          serving = r.serving;
          count = r.count;
          log = r.log;
          words = refl;
          tickets = tickets-same r.ticket r.serving s.views id v v r.tickets at refl refl;
          numbers = numbers-same r.count s.views id v v r.numbers at (λ x. refl) refl;
          within = r.within;
          journal = journal-same r.serving r.count r.log s.views id v v r.journal at refl;
          views = each-set (λ _ u. ViewIn r.serving r.count r.log u) s.views id v (r.views id v at) (λ j u _ e. r.views j u e);
          slot = slot-idle obj start r.log s.homes s.views id v v at refl refl r.slot;
        },
        ((λ hit. absurd (miss hit)), λ _. refl),
      )))
    where
      v : View O A R
      v = waiting c t

      m : Held O A R
      m = (v, [])

  -- the same at a seat that is known by an equation
  pub draw-at : (slots id : ℕ) (m : Held O A R) → IsIdle m → (caller_of m.0).calls < 2 ^ 32 → Allows (IsInTurn obj start callers) slots id m 0 (λ n. (n + 1) % 2 ^ 64) (drawn (step slots 0 1 0 none) m)
  draw-at slots id m is little = subst (λ (z : Held O A R). Allows (IsInTurn obj start callers) slots id z 0 (λ n. (n + 1) % 2 ^ 64) (drawn (step slots 0 1 0 none) z)) (sym is) (draw-allowed slots id (caller_of m.0) little)

  pub watch-at : (slots id : ℕ) (m : Held O A R) (c : Caller A R) (t : ℕ) → m ≡ (waiting c t, []) → Allows (IsInTurn obj start callers) slots id m 1 (λ n. n) (watched obj.taken (step slots 1 0 0 none) m)
  watch-at slots id m c t is = subst (λ (z : Held O A R). Allows (IsInTurn obj start callers) slots id z 1 (λ n. n) (watched obj.taken (step slots 1 0 0 none) z)) (sym is) (watch-allowed slots id c t)

module _ {O A R : Type 0} where
  -- what the look tells that finds the own ticket
  pub watch-won : (taken : O → ℕ) (slots : ℕ) (m m' : Held O A R) (c : Caller A R) (t r : ℕ) → m ≡ (waiting c t, []) → r ≡ t → watched taken (step slots 1 0 0 none) m r m' → (b : Book O A R) × (m' ≡ (winner c t b, (0, Some b) ∷ [])) × IsFresh taken c b
  watch-won taken slots m m' c t r is hit = subst (λ (z : Held O A R). watched taken (step slots 1 0 0 none) z r m' → (b : Book O A R) × (m' ≡ (winner c t b, (0, Some b) ∷ [])) × IsFresh taken c b) (sym is) (λ told. told.0 (ap Some (sym hit)))
