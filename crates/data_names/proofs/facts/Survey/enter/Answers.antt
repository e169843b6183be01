use Rattle.std.proofs.Common.{◌≡◌, ◌∙◌, refl, ap, ◌||◌, rules, List, [], ◌∷◌, ◌++◌, map}
use Rattle.std.specs.Prelude.{is_some}
use Rattle.std.proofs.lemmas.List.{map-append}
use Rattle.std.proofs.lemmas.Fn.{filter_same}
use Rattle.data_layout.specs.declared.row.Row.{Row}
use Rattle.data_layout.specs.Storage.{goes_on}
use Rattle.data_layout.specs.Walk.{IsAfter}
use Rattle.data_names.specs.Items.{DataItem}
use Rattle.data_names.specs.Spots.{around, is_record}
use Rattle.data_names.specs.Seen.{seen_item}
use Rattle.data_names.specs.Survey.{Group, group_of, seen_group}
use Rattle.data_names.proofs.Surveys.{kept, same_any, same_last, same_names, sized-push, counted-push, groups-push}
use Rattle.data_names.proofs.facts.Survey.enter.Goals as goal

pub returns : goal.returns
returns c = λ before after h e.
    let item : DataItem = seen_item c.args.item.now in
    let rows : List Row = map (λ (other : DataItem). other.row) before in
    let groups : List DataItem = around (λ (other : DataItem). other.row) before item in
    let left = c.as_slice-groups.result.now in
    let chosen = filter_same _ (λ group. goes_on group.row item.row) _ (λ x r f' k. search rules) _ _ c.retain.ensures.filtered in
    let same : map seen_group left ≡ map group_of groups = ap (map seen_group) c.as_slice-groups.ensures.value ∙ kept before item c.args.self.now.groups.items c.retain.new.self.items chosen h.groups in
    let between = c.close.ensures rows h.walk in
    let entered : IsAfter (rows ++ item.row ∷ []) c.enter.new.self = c.in_ok-enter.ensures rows between in
    let repeated = same_any (λ (group : Group). is_some group.row.occurs) left groups same in
    let records = same_any (λ (group : Group). group.is_record) left groups same in (
      record {
        parent = c.number_of_last.ensures ∙ same_last (λ (group : Group). group.row.number) left groups same;
        groups = rw c.in_ok-names_of.ensures (same_names left groups same);
        level_fits_is = c.does_level_fit-level_fits.ensures rows h.walk;
        repeated = c.has_occurs-repeated.ensures ∙ repeated;
        table = c.is_table.ensures ∙ ap (λ b. b || is_some item.row.occurs) (c.has_occurs-repeated.ensures ∙ repeated);
        in_value = c.has_group_value.ensures ∙ same_any (λ (group : Group). group.has_value) left groups same;
        in_record = c.is_in_record.ensures ∙ ap (λ b. b || is_record item) records;
        sized = rw e c.is_item_sized.ensures;
        bytes = rw e c.in_ok-bytes_of_item.ensures;
        before = between.total;
        after = entered.total;
        with_bytes_before = h.with_bytes;
        with_bytes = rw e c.with_bytes_of_item.ensures;
        sized_so_far = c.stays_sized-self.ensures ∙ sized-push rows item.row c.args.self.now.sized_so_far h.sized;
        record_is = rw e c.in_ok-bytes_of_record.ensures;
      },
      record {
        walk = rw (map-append (λ (other : DataItem). other.row) before (item ∷ [])) entered;
        groups = ap (map seen_group) c.in_ok-push.ensures.items ∙ groups-push before item c.retain.new.self.items _ (kept before item c.args.self.now.groups.items c.retain.new.self.items chosen h.groups) (rw (c.as_ref.ensures.value, c.has_value.ensures, c.is_record.ensures) refl);
        with_bytes = rw (map-append (λ (other : DataItem). other.row) before (item ∷ [])) (c.count_with-self.ensures ∙ counted-push rows item.row c.args.self.now.with_bytes h.with_bytes);
        sized = rw (map-append (λ (other : DataItem). other.row) before (item ∷ [])) (c.stays_sized-self.ensures ∙ sized-push rows item.row c.args.self.now.sized_so_far h.sized);
      },
    )
