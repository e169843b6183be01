-- The numbers of the items so far.
use Rattle.std.proofs.Common.{◌≡◌, ℕ, List, take, map}
use Rattle.data_names.specs.Seen.{seen_item}
use Rattle.data_names.specs.Spots.{spots}
use Rattle.data_names.specs.Names.{numbers_from, numbers_under}
use Rattle.data_names.specs.Pairs.{is_kept}
use Rattle.data_names.proofs.pairs.numbers_of.Given as goal

abbrev pub invariant-loop-at : goal.invariant-loop-at
invariant-loop-at l = (key : List ℕ) → numbers_under l.numbers key ≡ numbers_from 0 (is_kept l.asked key) (take l.at (spots (map seen_item l.items)))
