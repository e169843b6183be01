use Rattle.std.proofs.Common.{◌<◌, ◌+◌, arith, refl}
use Rattle.std.proofs.lemmas.Bool.{both_ways}
use Rattle.picture_rule.proofs.Bodies.{capped}
use Rattle.picture_rule.proofs.EditedParts.{front_only, tail_begins, tail_only, edited_fit, found_from, edited_found, same_outline}
use Rattle.picture_rule.proofs.edited_form.edited.Goals as goal

pub returns-in_default-clause-only : goal.returns-in_default-clause-only
returns-in_default-clause-only c marks form w n =
    let f = front_only _ _ _ _ _ marks form (record { before_is = c.longest_span-before.ensures.1; currency_is = c.longest_span-currency.ensures.1 }) w n in
    c.in_default.ensures.only _ _ f.left n.body_is (tail_begins n)

pub returns-in_default-ending-clause-only : goal.returns-in_default-ending-clause-only
returns-in_default-ending-clause-only c marks form w n =
    let f = front_only _ _ _ _ _ marks form (record { before_is = c.longest_span-before.ensures.1; currency_is = c.longest_span-currency.ensures.1 }) w n in
    let b = c.in-Some.ensures.only _ _ f.left n.body_is (tail_begins n) in
    let t = tail_only _ _ _ _ _ marks form (record { point_is = c.longest_span-point.ensures.1; decimals_is = c.longest_span-decimals.ensures.1 }) n b.0 in
    c.in_default-ending.ensures.only _ t.left n.after_is

pub returns-then-digits-eq0-clause-only : goal.returns-then-digits-eq0-clause-only
returns-then-digits-eq0-clause-only c marks form w n =
    let f = front_only _ _ _ _ _ marks form (record { before_is = c.longest_span-before.ensures.1; currency_is = c.longest_span-currency.ensures.1 }) w n in
    let b = c.in-Some.ensures.only _ _ f.left n.body_is (tail_begins n) in
    let t = tail_only _ _ _ _ _ marks form (record { point_is = c.longest_span-point.ensures.1; decimals_is = c.longest_span-decimals.ensures.1 }) n b.0 in
    let fit = edited_fit marks _ _ _ _ form _ _ _ _ _ _ _ n f.same_before f.same_currency t.same_point t.same_decimals
    c.longest_span-before.ensures.2 c.longest_span-currency.ensures.2 b.1 c.longest_span-point.ensures.2 c.longest_span-decimals.ensures.2 (c.in-Some-ending.ensures.only _ t.left n.after_is) b.2 in
    omega (arith, fit.some, c.saturating_add-digits.ensures, c.if-digits-eq0.true)

pub returns-then-not-are_edited_parts-clause-only : goal.returns-then-not-are_edited_parts-clause-only
returns-then-not-are_edited_parts-clause-only c marks form w n =
    let f = front_only _ _ _ _ _ marks form (record { before_is = c.longest_span-before.ensures.1; currency_is = c.longest_span-currency.ensures.1 }) w n in
    let b = c.in-Some.ensures.only _ _ f.left n.body_is (tail_begins n) in
    let t = tail_only _ _ _ _ _ marks form (record { point_is = c.longest_span-point.ensures.1; decimals_is = c.longest_span-decimals.ensures.1 }) n b.0 in
    let fit = edited_fit marks _ _ _ _ form _ _ _ _ _ _ _ n f.same_before f.same_currency t.same_point t.same_decimals
    c.longest_span-before.ensures.2 c.longest_span-currency.ensures.2 b.1 c.longest_span-point.ensures.2 c.longest_span-decimals.ensures.2 (c.in-Some-ending.ensures.only _ t.left n.after_is) b.2 in
    both_ways _ c.if-not-are_edited_parts.true (c.are_edited_parts.ensures.1 fit.are)

pub returns-clause-found : goal.returns-clause-found
returns-clause-found c =
    let body = c.in-Some.ensures.found in
    let after = c.in-Some-ending.ensures.found in
    let found = found_from _ _ _ _ _ _ _ _ _ _ _ _ (record { before_is = c.longest_span-before.ensures.1; currency_is = c.longest_span-currency.ensures.1 }) body.1 body.2
    (record { point_is = c.longest_span-point.ensures.1; decimals_is = c.longest_span-decimals.ensures.1 }) after.1 after.2 in
    let positive : 0 < capped (c.in-Some.body.digits + c.longest_span-decimals.result.length) = omega (arith, c.saturating_add-digits.ensures, c.if-digits-eq0.false) in
    let e = edited_found _ _ _ _ _ _ _ _ _ _ _ _ _ _ found
    (record { of_before = c.longest_span-before.ensures.2; of_currency = c.longest_span-currency.ensures.2; of_body = body.3; of_point = c.longest_span-point.ensures.2; of_nines = c.longest_span-decimals.ensures.2; of_after = after.3; of_digits = body.4 })
    (c.are_edited_parts.ensures.0 c.if-not-are_edited_parts.false) positive c.requires in (
      e.0,
      e.1,
      e.2,
      e.3,
      same_outline _ _ _ _ _ e.1
          (rw (c.saturating_add-size.ensures, c.saturating_add-shown.ensures, c.saturating_add-around.ensures, c.saturating_add-signs.ensures, c.saturating_add-others.ensures) refl) c.saturating_add-digits.ensures e.4,
    )

pub returns-clause-only : goal.returns-clause-only
returns-clause-only c marks form w n =
    let f = front_only _ _ _ _ _ marks form (record { before_is = c.longest_span-before.ensures.1; currency_is = c.longest_span-currency.ensures.1 }) w n in
    let b = c.in-Some.ensures.only _ _ f.left n.body_is (tail_begins n) in
    let t = tail_only _ _ _ _ _ marks form (record { point_is = c.longest_span-point.ensures.1; decimals_is = c.longest_span-decimals.ensures.1 }) n b.0 in
    let fit = edited_fit marks _ _ _ _ form _ _ _ _ _ _ _ n f.same_before f.same_currency t.same_point t.same_decimals
    c.longest_span-before.ensures.2 c.longest_span-currency.ensures.2 b.1 c.longest_span-point.ensures.2 c.longest_span-decimals.ensures.2 (c.in-Some-ending.ensures.only _ t.left n.after_is) b.2 in
    same_outline _ _ _ _ _ form
    (rw (c.saturating_add-size.ensures, c.saturating_add-shown.ensures, c.saturating_add-around.ensures, c.saturating_add-signs.ensures, c.saturating_add-others.ensures) refl) c.saturating_add-digits.ensures fit.outline
