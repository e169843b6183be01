use Rattle.std.proofs.Common.{◌≡◌, ◌∙◌, sym, ap, Some}
use Rattle.data_names.specs.Names.{in_small}
use Rattle.key_rules.specs.KeyPlaces.{description_of}
use Rattle.key_rules.specs.Descriptions.{number_under}
use Rattle.key_rules.proofs.DescriptionsOf.{described}
use Rattle.key_rules.proofs.descriptions.Descriptions.of_file.Goals as goal

pub returns : goal.returns
returns c = λ front items h.
    let name = c.args.file.now.name in
    let lent : c.as_slice.result.now ≡ in_small name = c.as_slice.ensures.value ∙ c.in_ok-name.ensures ∙ ap in_small c.as_bytes.ensures in
    sym (h.names (in_small name)) ∙ ap (number_under c.args.self.now.names) (sym lent) ∙ sym c.in-None.ensures.value

pub returns-in-Some : goal.returns-in-Some
returns-in-Some c = λ front items h.
    let name = c.args.file.now.name in
    let lent : c.as_slice.result.now ≡ in_small name = c.as_slice.ensures.value ∙ c.in_ok-name.ensures ∙ ap in_small c.as_bytes.ensures in
    let number : description_of front name ≡ Some c.in-Some.number.now = sym (h.names (in_small name)) ∙ ap (number_under c.args.self.now.names) (sym lent) ∙ sym c.in-Some.ensures.value in
    described front items name c.args.self.now.all.items c.in-Some.number.now c.at.result number h.each h.count c.at.ensures
