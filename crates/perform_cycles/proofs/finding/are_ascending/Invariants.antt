use Rattle.std.proofs.Common.{map, take, All}
use Rattle.perform_cycles.specs.Finding.{IsAscending}
use Rattle.perform_cycles.specs.Lowest.{IsLevel}
use Rattle.perform_cycles.proofs.finding.are_ascending.Given as goal

abbrev pub invariant-loop-arrow : goal.invariant-loop-arrow
invariant-loop-arrow l = All (IsLevel (map (λ place. place.group) l.places)) l.lowest.levels.items → All (IsAscending l.places) (take l.arrow-index l.arrows)
