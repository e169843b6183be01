use Rattle.std.proofs.Common.{◌^◌, ◌≤◌, ◌+◌, ◌*◌, arith, subst, sym, take, get_or, false}
use Rattle.std.proofs.lemmas.List.{take_more}
use Rattle.cob_value.proofs.Digits.{Amount, amount_more, tens_le, digit_is}
use Rattle.cob_value.proofs.values.number_in.Goals as goal

pub overflow_mul-number : goal.overflow_mul-number
overflow_mul-number c =
    let bound : 10 ^ c.loop-byte.byte-index ≤ 10 ^ 18 = tens_le _ 18 (omega arith) in
    omega (arith, c.loop-byte.invariant.within)

pub overflow_add-number : goal.overflow_add-number
overflow_add-number c =
    let bound : 10 ^ c.loop-byte.byte-index ≤ 10 ^ 17 = tens_le _ 17 (omega arith) in
    let digit = digit_is (get_or c.args.bytes.now c.loop-byte.byte-index 0) false in
    omega (arith, c.loop-byte.invariant.within, digit.most, c.from.ensures, c.counted_digit.ensures)

pub loop-byte-preserved : goal.loop-byte-preserved
loop-byte-preserved c =
    let digit = digit_is (get_or c.args.bytes.now c.loop-byte.byte-index 0) false in
    subst (λ t. Amount t (c.loop-byte.number * 10 + c.from.result) (c.loop-byte.byte-index + 1)) (sym (take_more c.args.bytes.now c.loop-byte.byte-index 0 c.loop-byte-test.true))
    (amount_more (take c.loop-byte.byte-index c.args.bytes.now) c.loop-byte.number _ (get_or c.args.bytes.now c.loop-byte.byte-index 0) _ c.loop-byte.invariant (omega (arith, digit.least, c.from.ensures, c.counted_digit.ensures)))
