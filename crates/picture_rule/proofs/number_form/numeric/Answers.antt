use Rattle.picture_rule.proofs.Numbers.{numbers_found, numbers_fit, no_rest, some_rest, with_digits}
use Rattle.picture_rule.proofs.number_form.numeric.Goals as goal
use Rattle.std.proofs.lemmas.Bool.{both_ways}

pub returns-then-not-is_empty-clause-only : goal.returns-then-not-is_empty-clause-only
returns-then-not-is_empty-clause-only c marks form w n =
    let s = c.longest_span-sign.ensures in let h = c.longest_span-whole.ensures in let p = c.longest_span-point.ensures in let d = c.longest_span-decimals.ensures in
    some_rest _ _ c.is_empty.ensures c.if-not-is_empty.true
    (numbers_fit _ _ _ _ _ _ _ _ _ _ _ _
    (record { after_sign = _; after_whole = _; after_point = _; sign_is = s.1; whole_is = h.1; point_is = p.1; decimals_is = d.1 })
    (record { of_sign = s.2; of_whole = h.2; of_point = p.2; of_decimals = d.2 }) w n).0

pub returns-then-not-are_numeric_parts-clause-only : goal.returns-then-not-are_numeric_parts-clause-only
returns-then-not-are_numeric_parts-clause-only c marks form w n =
    let s = c.longest_span-sign.ensures in let h = c.longest_span-whole.ensures in let p = c.longest_span-point.ensures in let d = c.longest_span-decimals.ensures in
    both_ways _ c.if-not-are_numeric_parts.true (c.are_numeric_parts.ensures.1
    (numbers_fit _ _ _ _ _ _ _ _ _ _ _ _
    (record { after_sign = _; after_whole = _; after_point = _; sign_is = s.1; whole_is = h.1; point_is = p.1; decimals_is = d.1 })
    (record { of_sign = s.2; of_whole = h.2; of_point = p.2; of_decimals = d.2 }) w n).1)

pub returns-clause-found : goal.returns-clause-found
returns-clause-found c =
    let s = c.longest_span-sign.ensures in let h = c.longest_span-whole.ensures in let p = c.longest_span-point.ensures in let d = c.longest_span-decimals.ensures in
    let found = numbers_found _ _ _ _ _ _ _ _ _ _
    (record { after_sign = _; after_whole = _; after_point = _; sign_is = s.1; whole_is = h.1; point_is = p.1; decimals_is = d.1 })
    (record { of_sign = s.2; of_whole = h.2; of_point = p.2; of_decimals = d.2 })
    (c.are_numeric_parts.ensures.0 c.if-not-are_numeric_parts.false) (no_rest _ _ c.is_empty.ensures c.if-not-is_empty.false) in
    (found.0, found.1, found.2, found.3, with_digits _ _ _ _ found.1 c.saturating_add-digits.ensures found.4)

pub returns-clause-only : goal.returns-clause-only
returns-clause-only c marks form w n =
    let s = c.longest_span-sign.ensures in let h = c.longest_span-whole.ensures in let p = c.longest_span-point.ensures in let d = c.longest_span-decimals.ensures in
    with_digits _ _ _ _ form c.saturating_add-digits.ensures (numbers_fit _ _ _ _ _ _ _ _ _ _ _ _
    (record { after_sign = _; after_whole = _; after_point = _; sign_is = s.1; whole_is = h.1; point_is = p.1; decimals_is = d.1 })
    (record { of_sign = s.2; of_whole = h.2; of_point = p.2; of_decimals = d.2 }) w n).2
