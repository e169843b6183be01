use Rattle.std.proofs.Common.{All}
use Rattle.perform_cycles.specs.Lowest.{IsLevel}
use Rattle.perform_cycles.proofs.lowest.Lowest.of.Given as goal

abbrev pub invariant-loop : goal.invariant-loop
invariant-loop l = All (IsLevel l.fn.numbers.items) l.levels.items × IsLevel l.fn.numbers.items l.level
