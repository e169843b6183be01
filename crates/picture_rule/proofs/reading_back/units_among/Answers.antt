use Rattle.std.proofs.Common.{◌≡◌, ◌^◌, ◌<◌, ◌≤◌, ◌+◌, ◌*◌, ◌-◌, arith, ap, ◌∙◌, length, take, drop, length-take, length-drop}
use Rattle.std.proofs.lemmas.List.{take_all}
use Rattle.picture_rule.specs.Editing.{units_at, number_in, millionths_in}
use Rattle.picture_rule.proofs.Places.{tens_le}
use Rattle.picture_rule.proofs.Amounts.{times_tens}
use Rattle.picture_rule.proofs.reading_back.units_among.Goals as goal

pub overflow_mul-result : goal.overflow_mul-result
overflow_mul-result c =
    let bound = tens_le _ 30 (let few : length (take c.in-Some.at c.args.bytes.now) ≤ 30 = omega (arith, length-take c.in-Some.at c.args.bytes.now, c.requires.few) in few) in
    omega (arith, c.number_among.ensures.within, bound)

pub overflow_add-result : goal.overflow_add-result
overflow_add-result c =
    let bound = tens_le _ 30 (let few : length (take c.in-Some.at c.args.bytes.now) ≤ 30 = omega (arith, length-take c.in-Some.at c.args.bytes.now, c.requires.few) in few) in
    omega (arith, c.number_among.ensures.within, c.millionths_among.ensures.within, bound)

pub overflow_mul-result-in-None : goal.overflow_mul-result-in-None
overflow_mul-result-in-None c =
    let all : c.number_among-in-None.result * c.pow.result < 10 ^ 38 = times_tens _ _ _ _ c.number_among-in-None.ensures.within c.requires.few c.pow.ensures in
    omega (arith, all)

pub returns-in-Some-clause-value : goal.returns-in-Some-clause-value
returns-in-Some-clause-value c =
    let rest : take (length c.args.bytes.now - (c.in-Some.at + 1)) (drop (c.in-Some.at + 1) c.args.bytes.now) ≡ drop (c.in-Some.at + 1) c.args.bytes.now = take_all _ _ (omega (arith, length-drop (c.in-Some.at + 1) c.args.bytes.now)) in
    ap (λ n. n * 1000000 + c.millionths_among.result) c.number_among.ensures.value
    ∙ ap (λ m. number_in (take c.in-Some.at c.args.bytes.now) * 1000000 + m) (c.millionths_among.ensures.value ∙ ap (λ b. millionths_in b) rest)
    ∙ ap (λ o. units_at c.args.decimals c.args.bytes.now o) c.in-Some.ensures.is

pub returns-in-Some-clause-within : goal.returns-in-Some-clause-within
returns-in-Some-clause-within c =
    let bound = tens_le _ 30 (let few : length (take c.in-Some.at c.args.bytes.now) ≤ 30 = omega (arith, length-take c.in-Some.at c.args.bytes.now, c.requires.few) in few) in
    omega (arith, c.number_among.ensures.within, c.millionths_among.ensures.within, bound)

pub returns-in-None-clause-value : goal.returns-in-None-clause-value
returns-in-None-clause-value c =
    ap (λ n. n * c.pow.result) c.number_among-in-None.ensures.value ∙ ap (λ t. number_in c.args.bytes.now * t) (c.pow.ensures ∙ ap (λ d. 10 ^ (6 - d)) c.from.ensures)
    ∙ ap (λ o. units_at c.args.decimals c.args.bytes.now o) c.in-None.ensures.is

pub returns-in-None-clause-within : goal.returns-in-None-clause-within
returns-in-None-clause-within c = times_tens _ _ _ _ c.number_among-in-None.ensures.within c.requires.few c.pow.ensures
