use Rattle.std.proofs.Common.{map}
use Rattle.data_names.specs.Seen.{seen_item}
use Rattle.data_names.specs.Spots.{spots}
use Rattle.opening_storage.specs.Filling.{seen_filling}
use Rattle.opening_storage.proofs.Steps.{SoFar}
use Rattle.opening_storage.proofs.filling.fill_all.Given as goal

abbrev pub invariant-loop-at : goal.invariant-loop-at
invariant-loop-at l = SoFar (spots (map seen_item l.fn.items)) l.places l.at (seen_filling l.filling)
