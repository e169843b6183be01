use Rattle.std.proofs.Common.{rules, ◌+◌, ap, ◌∙◌, get_or}
use Rattle.cob_value.specs.Values.{digit_in, first_digit, keeps_sign}
use Rattle.cob_value.proofs.Items.{copied_more, digits_are}
use Rattle.cob_value.proofs.values.item_digits.Goals as goal

pub loop-k-preserved : goal.loop-k-preserved
loop-k-preserved c =
    copied_more c.args.bytes.now c.loop-k.digits c.first_place-first.result c.has_sign_inside-sign_inside.result c.from-count.result c.loop-k.k c.counted_digit.result c.loop-k.invariant
    (search rules)
    (c.counted_digit.ensures ∙ ap (λ b. digit_in (get_or c.args.bytes.now (c.first_place-first.result + c.loop-k.k) 0) b) c.is_sign_place.ensures)

pub returns : goal.returns
returns c =
    let p = c.args.pic.now in
    digits_are p c.args.bytes.now c.loop-k.digits c.first_place-first.result c.has_sign_inside-sign_inside.result c.from-count.result c.loop-k.k c.loop-k.invariant c.loop-k-test.false
    (search rules)
    (c.from-count.ensures ∙ ap (λ v. v.digits) c.pic.view_is)
    (c.first_place-first.ensures ∙ ap (λ v. first_digit v.separate) c.pic.view_is)
    (c.has_sign_inside-sign_inside.ensures ∙ ap (λ v. keeps_sign v.separate v.signed) c.pic.view_is)
