use Rattle.std.proofs.Common.{◌<◌, ◌++◌, ap, arith, length, ◌+◌, ◌∙◌}
use Rattle.std.proofs.lemmas.Bool.{both_ways}
use Rattle.picture_rule.proofs.Bodies.{BodySpans, BodyCounts, body_read, body_reads, body_found, one_empty, length_is, digits_is, capped}
use Rattle.picture_rule.proofs.edited_form.body_front.Goals as goal

pub returns-then-are_both-clause-only : goal.returns-then-are_both-clause-only
returns-then-are_both-clause-only c marks others w b o =
    let e1 = c.longest_span-commas.ensures in let e2 = c.longest_span-zs.ensures in let e3 = c.longest_span-stars.ensures in let e4 = c.longest_span-shown.ensures in
    let both = c.are_both.ensures.0 c.if-are_both.true in
    (body_read _ _ _ _ _ _ marks others _ _ _ _ _ _ _
    (record { after_commas = _; after_zs = _; after_stars = _; commas_is = e1.1; zs_is = e2.1; stars_is = e3.1; shown_is = e4.1 })
    (record { of_commas = e1.2; of_zs = e2.2; of_stars = e3.2; of_shown = e4.2; digits_zs = e2.3; digits_stars = e3.3; digits_shown = e4.3 })
    w b o).not_both both.0 both.1

pub returns-then-length-eq0-clause-only : goal.returns-then-length-eq0-clause-only
returns-then-length-eq0-clause-only c marks others w b o =
    let e1 = c.longest_span-commas.ensures in let e2 = c.longest_span-zs.ensures in let e3 = c.longest_span-stars.ensures in let e4 = c.longest_span-shown.ensures in
    let r = body_read _ _ _ _ _ _ marks others _ _ _ _ _ _ _
    (record { after_commas = _; after_zs = _; after_stars = _; commas_is = e1.1; zs_is = e2.1; stars_is = e3.1; shown_is = e4.1 })
    (record { of_commas = e1.2; of_zs = e2.2; of_stars = e3.2; of_shown = e4.2; digits_zs = e2.3; digits_stars = e3.3; digits_shown = e4.3 })
    w b o in
    omega (arith, r.some, c.saturating_add-length.ensures, c.saturating_add-from_digits.ensures, c.saturating_add-suppressed.ensures, c.if-length-eq0.true)

pub returns-clause-found : goal.returns-clause-found
returns-clause-found c =
    let e1 = c.longest_span-commas.ensures in let e2 = c.longest_span-zs.ensures in let e3 = c.longest_span-stars.ensures in let e4 = c.longest_span-shown.ensures in
    let k : BodyCounts e1.0 e2.0 e3.0 e4.0 _ _ _ _ _ _ _ = record { of_commas = e1.2; of_zs = e2.2; of_stars = e3.2; of_shown = e4.2; digits_zs = e2.3; digits_stars = e3.3; digits_shown = e4.3 } in
    let s : BodySpans c.args.text.now e1.0 e2.0 e3.0 e4.0 _ = record { after_commas = _; after_zs = _; after_stars = _; commas_is = e1.1; zs_is = e2.1; stars_is = e3.1; shown_is = e4.1 } in
    let length_same = c.saturating_add-length.ensures ∙ ap (λ n. capped (c.longest_span-commas.result.length + n)) (c.saturating_add-from_digits.ensures ∙ ap (λ n. capped (n + c.longest_span-shown.result.length)) c.saturating_add-suppressed.ensures)
    ∙ length_is _ _ _ _ _ _ _ _ _ _ _ k in
    let digits_same = c.saturating_add-digits.ensures ∙ ap (λ n. capped (n + c.longest_span-shown.result.digits)) c.saturating_add-suppressed_digits.ensures ∙ digits_is _ _ _ _ _ _ _ _ _ _ _ e1.1.all k in
    let one = one_empty e2.0 e3.0 _ _ e2.2 e3.2 (λ a b. both_ways _ c.if-are_both.false (c.are_both.ensures.1 (a, b))) in
    let positive : 0 < length (e1.0 ++ (e2.0 ++ (e3.0 ++ e4.0))) = omega (arith, length_same, c.if-length-eq0.false) in
    (_, body_reads _ _ _ _ _ _ s, λ more w. body_found _ _ _ _ _ _ more s w one positive, length_same, digits_same)

pub returns-clause-only : goal.returns-clause-only
returns-clause-only c marks others w b o =
    let e1 = c.longest_span-commas.ensures in let e2 = c.longest_span-zs.ensures in let e3 = c.longest_span-stars.ensures in let e4 = c.longest_span-shown.ensures in
    let r = body_read _ _ _ _ _ _ marks others _ _ _ _ _ _ _
    (record { after_commas = _; after_zs = _; after_stars = _; commas_is = e1.1; zs_is = e2.1; stars_is = e3.1; shown_is = e4.1 })
    (record { of_commas = e1.2; of_zs = e2.2; of_stars = e3.2; of_shown = e4.2; digits_zs = e2.3; digits_stars = e3.3; digits_shown = e4.3 })
    w b o in (
      r.left,
      omega (arith, r.length_same, c.saturating_add-length.ensures, c.saturating_add-from_digits.ensures, c.saturating_add-suppressed.ensures),
      omega (arith, r.digits_same, c.saturating_add-digits.ensures, c.saturating_add-suppressed_digits.ensures),
    )
