use Rattle.std.proofs.Common.{◌∙◌, ap, map, Bor}
use Rattle.cob_base.specs.declared.operands.Reference.{Reference}
use Rattle.data_names.specs.Table.{items_of}
use Rattle.key_rules.specs.KeyPlaces.{has_twins}
use Rattle.key_rules.specs.SeenKeys.{same_span}
use Rattle.key_rules.proofs.OnePlace.{keys_alike}
use Rattle.key_rules.proofs.key_places.are_at_one_place.Goals as goal

pub returns : goal.returns
returns c = λ unsized.
    c.has_twins.ensures ∙ ap (has_twins same_span) (c.as_slice.ensures.value ∙ c.in_ok-spans.ensures)
    ∙ keys_alike (items_of c.args.table.now) c.args.description c.args.unsized_at (map (λ (key : Bor Reference). key.now) c.args.keys.now) unsized
