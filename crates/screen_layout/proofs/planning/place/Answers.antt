use Rattle.std.proofs.Common.{◌∙◌, ap, sym, refl, subst, ◌<◌, Some}
use Rattle.screen_layout.specs.declared.place.Spot.TheVariants.{On}
use Rattle.screen_rows.specs.declared.clauses.Look.{Look}
use Rattle.screen_layout.specs.Placing.{style_by, colour_or}
use Rattle.screen_layout.proofs.planning.place.Goals as goal

pub returns : goal.returns
returns c = λ before h p.
    let start = c.place-start.ensures before h in
    let line = c.number_at.ensures p.line.0 (ap (λ s. s.line) start ∙ p.line.1) in
    let column = c.number_at-2.ensures p.column.0 (ap (λ s. s.column) start ∙ p.column.1) in
    let look = c.look_at.ensures before (c.as_slice.ensures.value ∙ h.rows) in
    record {
      line = p.line.1 ∙ ap (λ n. On n) (sym line);
      column = p.column.1 ∙ ap (λ n. On n) (sym column);
      size = p.cells.1 ∙ ap (λ n. Some n) (sym (c.cells_of.ensures p.cells.0 p.cells.1 p.cells.2));
      picture = p.picture.1 ∙ ap (λ n. Some n) (sym (c.picture_or_none.ensures p.picture.0 p.picture.1));
      style = c.style_from.ensures (subst (λ (l : Look). colour_or 7 l.front < 256) (sym look) p.front) (subst (λ (l : Look). colour_or 0 l.back < 256) (sym look) p.back) ∙ ap style_by look;
      blank = c.blanks.ensures before h;
      show = refl;
      into = refl;
    }
