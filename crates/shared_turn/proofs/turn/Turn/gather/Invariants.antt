use Rattle.std.proofs.Common.{◌≡◌, List, [], ◌++◌, map, All}
use Rattle.shared_turn.specs.View.{caller_of, gathered}
use Rattle.shared_turn.proofs.turn.Turn.gather.Given as goal

abbrev pub invariant-loop-next : goal.invariant-loop-next
invariant-loop-next g l = record {
  own : l.seat.table_id ≡ l.self.table.shared.table_id;
  owned : All (λ p. p.seat.table_id ≡ l.self.table.shared.table_id) l.passes.items;
  all : (popped : List _) × (l.fn.passes.items ≡ l.passes.items ++ popped) × (l.seat.me ≡ (gathered (map (λ p. caller_of p.seat.me.0) popped), []));
}

abbrev pub decreases-loop-next : goal.decreases-loop-next
decreases-loop-next g l = goal.left-loop-next g l
