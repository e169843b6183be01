use Rattle.std.proofs.Common.{◌∙◌, ap}
use Rattle.std.specs.Prelude.{is_some}
use Rattle.std.specs.List.{list_any}
use Rattle.data_layout.proofs.Groups.{is_repeated-is}
use Rattle.data_layout.proofs.JudgedRows.{noted, joined, sized_is, fills_is, bad_is}
use Rattle.data_layout.proofs.judging.Judge.judge.Goals as goal

pub returns : goal.returns
returns c = λ before found j.
    let closed = c.close.ensures before j.walk in
    let entered = c.in_ok-enter.ensures before closed in
    let sized = sized_is before c.args.row.now _ _ j.sized c.stays_sized-self.ensures in
    let full = fills_is before c.args.row.now _ _ _ _ sized closed.total entered.total c.does_fill-full.ensures in
    let table = c.is_in_table-in_table.ensures ∙ ap (list_any (λ group. is_some group.occurs)) closed.rows ∙ is_repeated-is before c.args.row.now in
    let bad = bad_is before c.args.row.now _ _ _ (c.does_level_fit-fits.ensures before j.walk) table c.is_level_bad-bad.ensures in
    let first = noted found _ _ _ _ full (c.note_where-best.ensures found j.best) in
    let second = noted _ _ _ _ _ c.in_ok-long.ensures (c.note_where-best-2.ensures _ first) in
    let third = noted _ _ _ _ _ bad (c.note_where-best-3.ensures _ second) in
    let fourth = noted _ _ _ _ _ c.is_refused_picture-refused.ensures (c.note_where-self.ensures _ third) in
    record { walk = entered; sized = sized; best = joined found _ _ _ _ _ fourth }
