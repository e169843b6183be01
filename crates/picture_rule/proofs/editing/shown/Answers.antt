use Rattle.std.proofs.Common.{◌<◌, ◌≤◌, ◌^◌, arith}
use Rattle.picture_rule.proofs.Places.{tens, tens_le}
use Rattle.picture_rule.proofs.editing.shown.Goals as goal

pub nonzero_div-result : goal.nonzero_div-result
nonzero_div-result c = rw c.pow.ensures (tens _)

pub nonzero_rem-result : goal.nonzero_rem-result
nonzero_rem-result c = rw c.pow-2.ensures (tens _)

pub overflow_cast-result : goal.overflow_cast-result
overflow_cast-result c =
    let small : c.pow-2.result ≤ 10 ^ 18 = rw (c.pow-2.ensures, c.from-2.ensures) (tens_le _ 18 c.requires.few) in
    let positive : 0 < c.pow-2.result = rw c.pow-2.ensures (tens _) in
    omega arith
