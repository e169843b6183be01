use Rattle.std.proofs.Common.{◌≡◌, take}
use Rattle.data_layout.specs.Storage.{times}
use Rattle.data_layout.specs.Walk.{counted}
use Rattle.data_layout.proofs.walk.product.Given as goal

abbrev pub invariant-loop-row : goal.invariant-loop-row
invariant-loop-row l = l.product ≡ counted (times (take l.row-index l.rows))
