use Rattle.std.proofs.Common.{◌≡◌, ℕ, ◌+◌, ◌-◌, ◌<◌, ◌≤◌, length, get_or, All}
use Rattle.shared_turn.specs.View.{caller_of}
use Rattle.shared_turn.specs.Passes.{callers_of, IsPassOf, IsNew}
use Rattle.shared_turn.proofs.turn.Turn.begin.Given as goal

abbrev pub invariant-loop-number : goal.invariant-loop-number
invariant-loop-number g l = record {
  own : IsPassOf l.turn l.first × (callers_of l.turn ≡ l.callers);
  upto : l.number ≤ l.callers;
  first : (l.first.number ≡ 1) × ((caller_of l.first.seat.me.0).given ≡ l.number);
  first_new : IsNew 1 l.first;
  count : length l.passes.items + 1 ≡ l.number;
  owned : All (IsPassOf l.turn) l.passes.items;
  new : (k : ℕ) (d : _) → k < length l.passes.items → IsNew (k + 2) (get_or l.passes.items k d);
}

abbrev pub decreases-loop-number : goal.decreases-loop-number
decreases-loop-number g l = l.callers - l.number
