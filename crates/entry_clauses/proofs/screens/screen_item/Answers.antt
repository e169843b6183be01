use Rattle.std.proofs.Common.{◌≡◌, ◌==◌, false, None, refl, ◌∙◌, ap, subst, List, map, Option}
use Rattle.picture_rule.specs.declared.kind.SignPlace.TheVariants.{Inside}
use Rattle.data_layout.specs.declared.row.Row.{Row}
use Rattle.data_layout.specs.Rows.{IsRead}
use Rattle.data_names.specs.Items.{IsTold}
use Rattle.std.specs.Option.{option_copied}
use Rattle.entry_clauses.specs.Clauses.{screen_picture_text, is_screen_clause_twice}
use Rattle.entry_clauses.specs.ScreenItems.{ScreenItem}
use Rattle.entry_clauses.proofs.ScreensOf.{parent_of}
use Rattle.entry_clauses.proofs.screens.screen_item.Goals as goal

pub returns : goal.returns
returns c = λ before h.
    let rows : List Row = map (λ (other : ScreenItem). other.row) before in
    let row : Row =
    record {
      number = c.in_ok-count.field-0;
      line = c.args.entry.now.line;
      level = c.args.entry.now.level;
      in_file = false;
      starts = c.args.at == 0;
      group = c.has_members.result;
      occurs = None;
      twice = c.is_written_twice.result;
      spelled = c.in_ok-reading.reading.spelled;
      size = c.in_ok-reading.reading.size;
    } in
    let between = c.close.ensures rows h in
    let text : option_copied c.picture-text.result ≡ screen_picture_text c.args.entry.now.clauses = c.picture-text.ensures ∙ ap screen_picture_text c.as_slice-clauses.ensures in (
      refl,
      record {
        number = c.in_ok-count.ensures;
        line = refl;
        level = refl;
        in_file = refl;
        starts = refl;
        group = c.has_members.ensures;
        occurs = refl;
        twice = c.is_written_twice.ensures ∙ ap is_screen_clause_twice c.as_slice-clauses.ensures;
        read = subst (λ (some : Option _). IsRead some Inside c.in_ok-reading.reading.spelled c.in_ok-reading.reading.size c.in_ok-reading.reading.picture) text c.in_ok-reading.ensures;
        told = (c.in_ok-told.told.kind, subst (λ (some : Option _). IsTold some c.in_ok-told.told.kind c.in_ok-told.told.signed) text c.in_ok-told.ensures.told);
      },
      record {
        level_fits_is = c.does_level_fit-level_fits.ensures rows h;
        parent_is = c.number_of_last-parent.ensures ∙ parent_of before row c.as_slice.result.now (c.as_slice.ensures.value ∙ between.rows);
      },
      c.in_ok-enter.ensures rows between,
    )
