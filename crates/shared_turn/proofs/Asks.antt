-- What a seat is after each part of a call, and what the call tells.
use Rattle.std.proofs.Common.{◌≡◌, ℕ, Option, Some, None, List, [], ◌∷◌, ◌++◌, sym, ap, ◌∙◌, subst}
use Rattle.atomic_table.specs.Table.{rest}
use Rattle.shared_turn.specs.declared.happened.HappenedOf.{HappenedOf}
use Rattle.shared_turn.specs.declared.pass.PassOf.{PassOf}
use Rattle.shared_turn.specs.declared.view.Book.{Book}
use Rattle.shared_turn.specs.declared.view.Caller.{Caller}
use Rattle.shared_turn.specs.declared.view.View.{View}
use Rattle.shared_turn.specs.Serial.{Object}
use Rattle.shared_turn.specs.Journal.{entry, entries_of}
use Rattle.shared_turn.specs.View.{counted, refused, answered, resting, waiting, winner, gives_up, caller_of}
use Rattle.shared_turn.specs.Steps.{Held, journal_of, journal_in, IsFresh, IsSame, HasGrown}
use Rattle.shared_turn.specs.Passes.{Found, IsAnswered, IsRefused}
use Rattle.shared_turn.proofs.Journals.{entries_of-own, entries_of-rest}

module _ {O A R : Type 0} where
  -- the seat that has given up the turn
  pub left-with : (change : List (HappenedOf A R) → List (HappenedOf A R) → Caller A R → Caller A R) (m m' : Held O A R) (t : ℕ) (b d : Book O A R) → m ≡ (winner (caller_of m.0) t b, (0, Some d) ∷ [])
      → m' ≡ (gives_up (change (journal_of m.0.took) (journal_in m.1)) m.0, rest m.1) → m' ≡ (resting (change (journal_of m.0.took) (journal_in m.1) (caller_of m.0)), [])
  left-with change m m' t b d is e = e ∙ ap (λ (z : Held O A R). let w : Held O A R = (gives_up (change (journal_of m.0.took) (journal_in m.1)) z.0, rest z.1) in w) is

  pub carried-same : (b c : Book O A R) (l : List (ℕ × Option (Book O A R))) → l ≡ (0, Some b) ∷ [] → l ≡ (0, Some c) ∷ [] → b ≡ c
  carried-same b c l p q = ap (λ (z : List (ℕ × Option (Book O A R))). book_or b z) (sym p ∙ q)
    where
      of-option : Book O A R → Option (Book O A R) → Book O A R
      of-option d None = d
      of-option d (Some x) = x

      book_or : Book O A R → List (ℕ × Option (Book O A R)) → Book O A R
      book_or d [] = d
      book_or d (x ∷ xs) = of-option d x.1

module _ {O A R St : Type 0} (obj : Object O A R St) (c : Caller A R) (m₁ m₂ m₃ m₄ : Held O A R) (t : ℕ) (b k d : Book O A R) where
  -- the seat after the draw, the wait, the taking out and the putting back
  pub record Course : Type 0 where
    pub drew : m₁ ≡ (waiting (counted c) t, [])
    pub won : m₂ ≡ (winner (caller_of m₁.0) t b, (0, Some b) ∷ [])
    pub fresh : IsFresh obj.taken (caller_of m₁.0) b
    pub took : m₂.1 ≡ (0, Some k) ∷ []
    pub out : m₃ ≡ (m₂.0, (0, None) ∷ [])
    pub put : m₄ ≡ (m₃.0, (0, Some d) ∷ [])

  -- the book that was taken is the one that the look found
  same-book : Course → k ≡ b
  same-book w = carried-same k b m₂.1 w.took (ap (λ (z : Held O A R). z.1) w.won)

  ready : Course → m₄ ≡ (winner (counted c) t b, (0, Some d) ∷ [])
  ready w =
      let whose : caller_of m₁.0 ≡ counted c = ap (λ (z : Held O A R). caller_of z.0) w.drew in
      let then' : m₂.0 ≡ winner (counted c) t b = ap (λ (z : Held O A R). z.0) w.won ∙ ap (λ g. winner g t b) whose in
      w.put ∙ ap (λ (v : View O A R). let z : Held O A R = (v, (0, Some d) ∷ []) in z) (ap (λ (z : Held O A R). z.0) w.out ∙ then')

  caller-then : Course → caller_of m₄.0 ≡ counted c
  caller-then w = ap (λ (z : Held O A R). caller_of z.0) (ready w)

  ready-as : Course → m₄ ≡ (winner (caller_of m₄.0) t b, (0, Some d) ∷ [])
  ready-as w = ready w ∙ ap (λ g. let z : Held O A R = (winner g t b, (0, Some d) ∷ []) in z) (sym (caller-then w))

  pub may-record : (n : ℕ) (ask : A) (reply : R) → Course → n ≡ c.number → HasGrown obj k d n ask reply
      → (t : ℕ) × (b : Book O A R) × (d : Book O A R) × (a : A) × (r : R) × (m₄ ≡ (winner (caller_of m₄.0) t b, (0, Some d) ∷ [])) × HasGrown obj b d (caller_of m₄.0).number a r
  may-record n ask reply w number grown =
      let same = same-book w in
      let is : n ≡ (caller_of m₄.0).number = number ∙ ap (λ (g : Caller A R). g.number) (sym (caller-then w)) in
      (t, b, d, ask, reply, ready-as w, subst (λ (z : Book O A R × ℕ). HasGrown obj z.0 d z.1 ask reply) (λ i. (same i, is i)) grown)

  pub may-return : Course → IsSame obj k d → (t : ℕ) × (b : Book O A R) × (d : Book O A R) × (m₄ ≡ (winner (caller_of m₄.0) t b, (0, Some d) ∷ [])) × IsSame obj b d
  may-return w as_was = let same = same-book w in (t, b, d, ready-as w, subst (λ (z : Book O A R). IsSame obj z d) same as_was)

  -- the caller after a call that gave up the turn
  caller-after : (change : List (HappenedOf A R) → List (HappenedOf A R) → Caller A R → Caller A R) (m₅ : Held O A R) → Course → m₅ ≡ (resting (change (journal_of m₄.0.took) (journal_in m₄.1) (caller_of m₄.0)), [])
      → caller_of m₅.0 ≡ change b.journal.items d.journal.items (counted c)
  caller-after change m₅ w left = ap (λ (z : Held O A R). caller_of z.0) left ∙ ap (λ (z : Held O A R). change (journal_of z.0.took) (journal_in z.1) (caller_of z.0)) (ready w)

module _ {O A R St : Type 0} (obj : Object O A R St) where
  -- what the call found
  found-then : (p q : PassOf O A R) (b : Book O A R) → p.number ≡ (caller_of p.seat.me.0).number → IsFresh obj.taken (caller_of p.seat.me.0) b → (caller_of q.seat.me.0).found ≡ b.journal.items → Found p q
  found-then p q b number fresh found = record {
    between = fresh.seen.0;
    found = found ∙ sym fresh.seen.1;
    others = ap (λ n. entries_of n fresh.seen.0) number ∙ entries_of-rest (caller_of p.seat.me.0).number (caller_of p.seat.me.0).seen fresh.seen.0 b.journal.items (caller_of p.seat.me.0).mine fresh.seen.1 fresh.mine fresh.own;
  }

  -- the caller's knowledge of the book does not depend on the count of its calls
  uncounted : (c : Caller A R) (b : Book O A R) → IsFresh obj.taken (counted c) b → IsFresh obj.taken c b
  uncounted c b f = record { seen = f.seen; mine = f.mine; own = f.own; early = f.early }

  answered-with : (p q : PassOf O A R) (b d : Book O A R) (ask : A) (reply : R) → p.number ≡ (caller_of p.seat.me.0).number → IsFresh obj.taken (caller_of p.seat.me.0) b → HasGrown obj b d p.number ask reply
      → caller_of q.seat.me.0 ≡ answered b.journal.items d.journal.items (counted (caller_of p.seat.me.0)) → IsAnswered p q ask reply
  answered-with p q b d ask reply number fresh grown is =
      let n : ℕ = (caller_of p.seat.me.0).number in
      let e : HappenedOf A R = entry p.number ask reply in
      let found : (caller_of q.seat.me.0).found ≡ b.journal.items = ap (λ (c : Caller A R). c.found) is in
      let left : (caller_of q.seat.me.0).left ≡ d.journal.items = ap (λ (c : Caller A R). c.left) is in record {
        found = found-then p q b number fresh found;
        left = left ∙ (grown.journal ∙ ap (λ l. l ++ e ∷ []) (sym found));
        seen = ap (λ (c : Caller A R). c.seen) is ∙ sym left;
        mine = ap (λ (c : Caller A R). c.mine) is ∙ (ap (entries_of n) grown.journal ∙ (entries_of-own n b.journal.items e number ∙ ap (λ l. l ++ e ∷ []) (sym fresh.mine)));
      }

  refused-with : (p q : PassOf O A R) (b d : Book O A R) → p.number ≡ (caller_of p.seat.me.0).number → IsFresh obj.taken (caller_of p.seat.me.0) b → IsSame obj b d
      → caller_of q.seat.me.0 ≡ refused b.journal.items d.journal.items (counted (caller_of p.seat.me.0)) → IsRefused p q
  refused-with p q b d number fresh same is =
      let found : (caller_of q.seat.me.0).found ≡ b.journal.items = ap (λ (c : Caller A R). c.found) is in record {
        found = found-then p q b number fresh found;
        left = ap (λ (c : Caller A R). c.left) is ∙ (same.journal ∙ sym found);
        seen = ap (λ (c : Caller A R). c.seen) is;
        mine = ap (λ (c : Caller A R). c.mine) is;
      }

  module _ (p q : PassOf O A R) (m₁ m₂ m₃ m₄ : Held O A R) (t : ℕ) (b k d : Book O A R) (w : Course obj (caller_of p.seat.me.0) m₁ m₂ m₃ m₄ t b k d) (number : p.number ≡ (caller_of p.seat.me.0).number) where
    fresh-then : IsFresh obj.taken (caller_of p.seat.me.0) b
    fresh-then = uncounted (caller_of p.seat.me.0) b (subst (λ (g : Caller A R). IsFresh obj.taken g b) (ap (λ (z : Held O A R). caller_of z.0) w.drew) w.fresh)

    pub was-answered : (ask : A) (reply : R) → HasGrown obj k d p.number ask reply → q.seat.me ≡ (resting (answered (journal_of m₄.0.took) (journal_in m₄.1) (caller_of m₄.0)), []) → IsAnswered p q ask reply
    was-answered ask reply grown left =
        answered-with p q b d ask reply number fresh-then (subst (λ (z : Book O A R). HasGrown obj z d p.number ask reply) (same-book obj (caller_of p.seat.me.0) m₁ m₂ m₃ m₄ t b k d w) grown)
        (caller-after obj (caller_of p.seat.me.0) m₁ m₂ m₃ m₄ t b k d answered q.seat.me w left)

    pub was-refused : IsSame obj k d → q.seat.me ≡ (resting (refused (journal_of m₄.0.took) (journal_in m₄.1) (caller_of m₄.0)), []) → IsRefused p q
    was-refused same left =
        refused-with p q b d number fresh-then (subst (λ (z : Book O A R). IsSame obj z d) (same-book obj (caller_of p.seat.me.0) m₁ m₂ m₃ m₄ t b k d w) same)
        (caller-after obj (caller_of p.seat.me.0) m₁ m₂ m₃ m₄ t b k d refused q.seat.me w left)
