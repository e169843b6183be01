-- The moves so far.
use Rattle.std.proofs.Common.{◌≡◌, ◌++◌, take, map}
use Rattle.statement_parts.specs.Values.{moving}
use Rattle.statement_parts.specs.Seen.{seen_moving}
use Rattle.statement_parts.proofs.values.add_moves.Given as goal

abbrev pub invariant-loop-to : goal.invariant-loop-to
invariant-loop-to l = map seen_moving l.all.items ≡ map seen_moving l.initial.all.items ++ map (moving l.from) (take l.to-index l.receivers)
