use Rattle.std.proofs.Common.{◌≤◌, ◌^◌, lit<, arith}
use Rattle.std.proofs.Math.Nat.{pow-le-pow_right}
use Rattle.cobol_words.proofs.number.value_of.Goals as goal

pub overflow_mul-value : goal.overflow_mul-value
overflow_mul-value c =
    let within : c.loop-digit.digit-index ≤ 17 = omega arith in
    let few : 10 ^ c.loop-digit.digit-index ≤ 10 ^ 17 = pow-le-pow_right {n = 10} (lit< tt) within in
    omega (arith, few, c.loop-digit.invariant.small)

pub overflow_add-value : goal.overflow_add-value
overflow_add-value c =
    let within : c.loop-digit.digit-index ≤ 17 = omega arith in
    let few : 10 ^ c.loop-digit.digit-index ≤ 10 ^ 17 = pow-le-pow_right {n = 10} (lit< tt) within in
    omega (arith, few, c.loop-digit.invariant.small, c.type_inv.digits c.loop-digit.digit-index)

pub returns-clause-small : goal.returns-clause-small
returns-clause-small c =
    let within : c.loop-digit.digit-index ≤ 18 = omega arith in
    let few : 10 ^ c.loop-digit.digit-index ≤ 10 ^ 18 = pow-le-pow_right {n = 10} (lit< tt) within in
    omega (arith, few, c.loop-digit.invariant.small)
