use Rattle.std.proofs.Common.{◌≡◌, length}
use Rattle.std.specs.Vec.Iter.{into_iter_items, into_iter_len}
use Rattle.data_layout.proofs.PlacedRows.{SoFar}
use Rattle.data_layout.proofs.placing.place.Given as goal

abbrev pub invariant-loop-at : goal.invariant-loop-at
invariant-loop-at l = SoFar l.rows l.fn.texts.items (into_iter_items l.texts) l.at l.placing l.items × (into_iter_len l.texts ≡ length (into_iter_items l.texts))
