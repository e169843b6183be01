use Rattle.std.proofs.Common.{◌<◌, ◌-◌, ◌/◌, ◌^◌, ap, ◌∙◌, arith, length}
use Rattle.std.proofs.lemmas.List.FromFn.{fill_by_all}
use mir.Val.{bool_byte}
use Rattle.picture_rule.specs.Editing.{byte_at}
use Rattle.picture_rule.proofs.Places.{after_is, bit, byte_is, filled_more}
use Rattle.picture_rule.proofs.editing.edit_places.Goals as goal

pub overflow_sub-after : goal.overflow_sub-after
overflow_sub-after c =
    let a = after_is c.args.marks.now c.loop-i.i _ _ c.loop-i-test.true c.loop-i.invariant.digits (bit _ _ (c.from-here.ensures ∙ ap bool_byte c.is_digit.ensures)) in
    omega (arith, a.fits, c.count_digits-digits.ensures)

pub loop-i-preserved : goal.loop-i-preserved
loop-i-preserved c =
    let here = bit _ _ (c.from-here.ensures ∙ ap bool_byte c.is_digit.ensures) in
    let within : c.loop-i.i < length c.loop-i.out = omega (arith, c.loop-i-test.true, c.loop-i.auto.out, c.requires.same) in
    let high = c.without_digits-high.ensures ∙ ap (λ d. c.args.units / 10 ^ (d - c.loop-i.before - c.from-here.result)) c.count_digits-digits.ensures in
    filled_more _ _ _ _ _ _ _ _ _ _ c.loop-i.invariant within c.loop-i-test.true here (bit _ _ c.from-nines.ensures)
    (byte_is c.args.marks.now c.args.units c.args.negative c.loop-i.i _ _ _ _ _ _ _ c.loop-i-test.true c.loop-i.invariant.digits c.loop-i.invariant.of_nines here high c.is_floating-floats.ensures c.fill_byte-fill.ensures c.byte_in_place.ensures)

pub returns : goal.returns
returns c = fill_by_all (byte_at c.args.marks.now c.args.units c.args.negative) c.loop-i.out _ 0 (c.loop-i.auto.out ∙ c.requires.same) (λ k h. c.loop-i.invariant.places k (omega (arith, c.loop-i-test.false)))
