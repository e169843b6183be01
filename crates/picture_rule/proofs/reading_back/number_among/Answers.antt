use Rattle.std.proofs.Common.{◌^◌, ◌≤◌, ◌+◌, arith, subst, sym, ◌∙◌, take, get_or, ◌++◌, ◌∷◌, []}
use Rattle.std.proofs.lemmas.List.{take_more}
use Rattle.picture_rule.proofs.Places.{tens_le}
use Rattle.picture_rule.proofs.Amounts.{Amount, amount_yes, amount_no}
use Rattle.picture_rule.proofs.reading_back.number_among.Goals as goal
use Rattle.picture_rule.proofs.reading_back.number_among.Goals.{then-is_ascii_digit, else-is_ascii_digit}

pub overflow_mul-number : goal.overflow_mul-number
overflow_mul-number c =
    let bound : 10 ^ c.loop-byte.byte-index ≤ 10 ^ 30 = tens_le _ 30 (omega arith) in
    omega (arith, c.loop-byte.invariant.within)

pub overflow_add-number : goal.overflow_add-number
overflow_add-number c =
    let bound : 10 ^ c.loop-byte.byte-index ≤ 10 ^ 30 = tens_le _ 30 (omega arith) in
    omega (arith, c.loop-byte.invariant.within)

pub loop-byte-preserved : goal.loop-byte-preserved
loop-byte-preserved c =
    let so_far = take c.loop-byte.byte-index c.args.bytes.now in
    let byte = get_or c.args.bytes.now c.loop-byte.byte-index 0 in
    subst (λ t. Amount t c.if-is_ascii_digit.number (c.loop-byte.byte-index + 1)) (sym (take_more c.args.bytes.now c.loop-byte.byte-index 0 c.loop-byte-test.true))
    (elim c.if-is_ascii_digit.branch [
      | then-is_ascii_digit w ↦ subst (λ n. Amount (so_far ++ byte ∷ []) n (c.loop-byte.byte-index + 1)) (sym w.number-is)
          (amount_yes so_far _ _ byte _ c.loop-byte.invariant (sym c.is_ascii_digit.ensures.value ∙ w.if-is_ascii_digit.true) w.from.ensures)
      | else-is_ascii_digit w ↦ subst (λ n. Amount (so_far ++ byte ∷ []) n (c.loop-byte.byte-index + 1)) (sym w.number-is)
          (amount_no so_far _ _ byte c.loop-byte.invariant (sym c.is_ascii_digit.ensures.value ∙ w.if-is_ascii_digit.false))
    ])
