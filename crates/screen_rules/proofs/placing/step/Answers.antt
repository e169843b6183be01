use Rattle.std.proofs.Common.{◌∙◌, ap, Option}
use Rattle.cob_base.specs.declared.screen_entries.Position.{Position}
use Rattle.data_names.specs.Clauses.{first_of, or_next}
use Rattle.entry_clauses.specs.Clauses.{line_named, column_named}
use Rattle.entry_clauses.specs.ScreenItems.{ScreenItem}
use Rattle.entry_clauses.specs.SeenScreens.{seen_screen}
use Rattle.screen_rules.specs.SeenPlaces.{seen_end}
use Rattle.screen_rules.proofs.PlacesOf.{after_group, after_item, group_noted, item_noted, place_is}
use Rattle.screen_rules.proofs.placing.step.Goals as goal

pub returns-then-item : goal.returns-then-item
returns-then-item c = λ some rest h.
    let item : ScreenItem = seen_screen c.args.item.now in
    let line = c.or_given-line.ensures
    ∙ ap (λ (own : Option Position). or_next own c.args.before.line) (c.line.ensures ∙ ap (first_of line_named) c.as_slice-clauses.ensures) in
    let column = c.or_given-column.ensures
    ∙ ap (λ (own : Option Position). or_next own c.args.before.column) (c.column.ensures ∙ ap (first_of column_named) c.as_slice-clauses.ensures) in (
      after_group some item c.args.before (record { last = c.begun-last.result; line = c.or_given-line.result; column = c.or_given-column.result }) c.if-item.true h line column,
      group_noted (seen_end c.args.before.last) (seen_end c.begun-last.result) some rest item c.args.faults.now.found.items c.if-item.true c.begun-last.ensures,
    )

pub returns : goal.returns
returns c = λ some rest h.
    let item : ScreenItem = seen_screen c.args.item.now in
    let line = c.or_given-line.ensures
    ∙ ap (λ (own : Option Position). or_next own c.args.before.line) (c.line.ensures ∙ ap (first_of line_named) c.as_slice-clauses.ensures)
    ∙ ap (or_next (first_of line_named item.entry.clauses)) h.line_is in
    let column = c.or_given-column.ensures
    ∙ ap (λ (own : Option Position). or_next own c.args.before.column) (c.column.ensures ∙ ap (first_of column_named) c.as_slice-clauses.ensures)
    ∙ ap (or_next (first_of column_named item.entry.clauses)) h.column_is in
    let place = place_is (seen_end c.args.before.last) (seen_end c.begun-last.result) c.or_given-line.result c.or_given-column.result some item c.begun-last.ensures line column in (
      after_item some item c.in_ok-next.next c.if-item.false c.in_ok-next.ensures.no_line c.in_ok-next.ensures.no_column,
      item_noted (seen_end c.args.before.last) some rest item _ c.in_ok-next.next c.args.faults.now.found.items _ c.if-item.false place c.in_ok-next.ensures,
    )
