use Rattle.std.proofs.Common.{◌≡◌, ◌∙◌, sym, ap}
use Rattle.data_names.specs.Names.{in_small, is_under}
use Rattle.data_names.specs.References.{is_called}
use Rattle.procedure_names.specs.Firsts.{first_under}
use Rattle.procedure_names.proofs.FirstOf.{position-same}
use Rattle.procedure_names.proofs.FirstsOf.{called_is_under}
use Rattle.procedure_names.proofs.firsts.Firsts.number_of.Goals as goal

pub returns : goal.returns
returns c = λ names h.
    let name = c.args.name.now in
    let lent : c.as_slice.result.now ≡ in_small name = c.as_slice.ensures.value ∙ c.in_ok-key.ensures ∙ ap in_small c.as_bytes.ensures in
    c.copied.ensures ∙ c.get.ensures.value ∙ ap (first_under c.args.self.now) lent ∙ h (in_small name)
    ∙ sym (position-same (is_called name) (is_under (in_small name)) (called_is_under name) names)
