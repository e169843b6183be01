use Rattle.std.proofs.Common.{◌≡◌, map, drop}
use Rattle.data_names.specs.Seen.{seen_item}
use Rattle.opening_storage.specs.Filling.{all_hold}
use Rattle.opening_storage.proofs.whole.do_all_hold.Given as goal

abbrev pub invariant-loop-at : goal.invariant-loop-at
invariant-loop-at l = all_hold (drop l.at (map seen_item l.fn.items)) (drop l.at l.places) ≡ all_hold (map seen_item l.fn.items) l.places
