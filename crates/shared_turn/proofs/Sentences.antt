-- The rule, sentence by sentence: what is no field of `IsInTurn` or of its parts follows from them here.
use Rattle.std.proofs.Common.{◌≡◌, ◌≢◌, ℕ, ◌^◌, ◌<◌, ◌≤◌, Option, Some, None, [], ◌∷◌, length, subst, ⊎_elim, arith}
use mathlib.Core.Option.{none, some}
use mathlib.Core.Logic.{dite}
use native.Mathlib.Decide.{ℕ_discrete}
use lib.ListN.{get_elem?}
use Rattle.atomic_table.specs.Table.{State}
use Rattle.shared_turn.specs.declared.view.Book.{Book}
use Rattle.shared_turn.specs.declared.view.Caller.{Caller}
use Rattle.shared_turn.specs.declared.view.View.{View}
use Rattle.shared_turn.specs.Serial.{Object}
use Rattle.shared_turn.specs.Rule.{has_number, has_seen, numbers_in, seen_in, BookIn, AtHome, Out, IsInTurn}
use Rattle.shared_turn.proofs.Sums.{sum-some, same-at}
use Rattle.shared_turn.proofs.Journals.{prefix-same}
use Rattle.shared_turn.proofs.Parts.{bit-other, alone, in-range, bound, given-number, other-number}

module _ {O A R St : Type 0} (obj : Object O A R St) (start : O) (callers : ℕ) (s : State (Option (Book O A R)) (View O A R)) (r : IsInTurn obj start callers s) where
  -- tickets differ
  pub tickets-differ : (i j : ℕ) (v w : View O A R) (t : ℕ) → get_elem? s.views i ≡ some v → get_elem? s.views j ≡ some w → v.ticket ≡ Some t → w.ticket ≡ Some t → i ≡ j
  tickets-differ i j v w t = alone r.ticket r.serving s.views i j v w t r.tickets

  -- none is below serving, and each is below ticket
  pub tickets-between : (i : ℕ) (v : View O A R) (t : ℕ) → get_elem? s.views i ≡ some v → v.ticket ≡ Some t → (r.serving ≤ t) × (t < r.ticket)
  tickets-between i v t = in-range r.ticket r.serving s.views i v t r.tickets

  -- so ticket is at most 2^38
  pub ticket-bounded : r.ticket ≤ 2 ^ 38
  ticket-bounded = bound r.ticket r.serving r.count r.log s.views r.tickets r.numbers r.views

  -- each caller's number is one from 1 up to the count, and two seats have none in common
  pub numbers-given : (i : ℕ) (v : View O A R) (k : ℕ) (c : Caller A R) → get_elem? s.views i ≡ some v → get_elem? v.callers k ≡ some c → (1 ≤ c.number) × (c.number ≤ r.count)
  numbers-given i v k c = given-number r.count s.views i v k c r.numbers

  pub numbers-differ : (i j : ℕ) (v w : View O A R) (k l : ℕ) (c d : Caller A R) → j ≢ i → get_elem? s.views i ≡ some v → get_elem? s.views j ≡ some w → get_elem? v.callers k ≡ some c → get_elem? w.callers l ≡ some d → c.number ≢ d.number
  numbers-differ i j v w k l c d = other-number r.count s.views i j v w k l c d r.numbers

  -- at most one view has won
  pub winners-one : (i j : ℕ) (v w : View O A R) (b d : Book O A R) → get_elem? s.views i ≡ some v → get_elem? s.views j ≡ some w → v.took ≡ Some b → w.took ≡ Some d → i ≡ j
  winners-one i j v w b d ei ej hv hw = tickets-differ i j v w r.serving ei ej ((r.views i v ei).won b hv) ((r.views j w ej).won d hw)

  -- some caller has seen the whole journal, and no `seen` is longer
  pub seen-longest : (j : ℕ) × (v : View O A R) × (k : ℕ) × (c : Caller A R) × (get_elem? s.views j ≡ some v) × (get_elem? v.callers k ≡ some c) × (c.seen ≡ r.log)
  seen-longest =
      let n : ℕ = length r.log in
      let one = sum-some (seen_in n) s.views r.journal.longest in
      let v : View O A R = one.1 in
      let two = sum-some (has_seen n) v.callers one.3 in
      let c : Caller A R = two.1 in
      let long : length c.seen ≡ n = dite (ℕ_discrete (length c.seen) n) (λ e. e) (λ ne. let z : has_seen n c ≡ 0 = bit-other (length c.seen) n ne in let y = two.3 in absurd (omega arith)) in
      let known = (r.views one.0 v one.2).callers two.0 c two.2 in
      (one.0, v, two.0, c, one.2, two.2, prefix-same c.seen r.log known.seen long)

  -- caller 1's view holds the count: there is one, since some caller has seen the journal and so one number at least was given
  pub count-held : (j : ℕ) × (v : View O A R) × (k : ℕ) × (c : Caller A R) × (get_elem? s.views j ≡ some v) × (get_elem? v.callers k ≡ some c) × (c.number ≡ 1) × (c.given ≡ r.count)
  count-held =
      let seen = seen-longest in
      let given = given-number r.count s.views seen.0 seen.1 seen.2 seen.3 r.numbers seen.4 seen.5 in
      let first = (r.numbers.each_once 1).one (omega arith) (omega (arith, given.0, given.1)) in
      let one = sum-some (numbers_in 1) s.views (omega arith) in
      let v : View O A R = one.1 in
      let two = sum-some (has_number 1) v.callers one.3 in
      let c : Caller A R = two.1 in
      let is : c.number ≡ 1 = dite (ℕ_discrete c.number 1) (λ e. e) (λ ne. let z : has_number 1 c ≡ 0 = bit-other c.number 1 ne in let y = two.3 in absurd (omega arith)) in
      (one.0, v, two.0, c, one.2, two.2, is, ((r.views one.0 v one.2).callers two.0 c two.2).given is)

  -- where no view has won, the slot is at home
  pub slot-at_home : ((j : ℕ) (v : View O A R) → get_elem? s.views j ≡ some v → v.took ≡ None) → AtHome obj start r.log s.homes s.views
  slot-at_home none' = ⊎_elim (λ (h : AtHome obj start r.log s.homes s.views). h) (λ (o : Out obj start r.log s.homes s.views). let out = none' o.seat o.view o.there in let has = o.took in absurd (cc)) r.slot

  -- where a view has won, the slot is out, and the book that the view took has the whole journal
  pub slot-out : (i : ℕ) (v : View O A R) (b : Book O A R) → get_elem? s.views i ≡ some v → v.took ≡ Some b → (s.homes ≡ none ∷ []) × BookIn obj start r.log b
  slot-out i v b e won = ⊎_elim (λ (h : AtHome obj start r.log s.homes s.views). let out = h.nobody i v e in absurd (cc))
      (λ (o : Out obj start r.log s.homes s.views).
      let same = winners-one o.seat i o.view v o.book b o.there e o.took won in
      let is : o.view ≡ v = same-at s.views i o.seat v o.view e o.there same in
      let has = o.took in
      let book : o.book ≡ b = cc in (o.away, subst (BookIn obj start r.log) book o.right)) r.slot
