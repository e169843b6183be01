use Rattle.std.proofs.Common.{◌-◌, ◌*◌, ◌^◌, ap, ◌∙◌}
use Rattle.picture_rule.specs.Editing.{signed_number}
use Rattle.cob_value.proofs.Items.{loaded}
use Rattle.cob_value.proofs.values.load.Goals as goal

pub returns : goal.returns
returns c =
    loaded c.args.pic.now c.args.bytes.now c.item_digits-digits.result c.from.result c.number_in-units.result c.pow.result c.is_item_negative.result c.signed.result c.item_digits-digits.ensures
    (c.from.ensures ∙ ap (λ v. v.digits) c.pic.view_is) c.number_in-units.ensures
    (c.pow.ensures ∙ ap (λ d. 10 ^ (6 - d)) (c.from-3.ensures ∙ ap (λ v. v.decimals) c.pic.view_is)) c.is_item_negative.ensures
    (c.signed.ensures ∙ ap (λ u. signed_number c.is_item_negative.result (u * c.pow.result)) c.from-2.ensures)
