use Rattle.std.proofs.Common.{◌∙◌, ap, List}
use Rattle.std.specs.List.{list_any}
use Rattle.cob_base.specs.declared.data_entries.ConditionEntry.{ConditionEntry}
use Rattle.cob_base.specs.declared.data_entries.ValueRange.{ValueRange}
use Rattle.data_names.specs.Spots.{picture_of_item}
use Rattle.value_rules.specs.Kinds as k
use Rattle.value_rules.proofs.judged_conditions.is_bad_known.Goals as goal

pub returns : goal.returns
returns c = λ named h.
    let item = k.side_of_picture (picture_of_item named.spot) in
    c.has_bad_range.ensures item (c.side_at-item.ensures (picture_of_item named.spot) (c.standing_at.ensures named.spot h.item))
    ∙ ap (λ (ranges : List ValueRange). list_any (k.is_bad_range item) ranges) (c.as_slice.ensures ∙ ap (λ (entry : ConditionEntry). entry.values) h.entry)
