use Rattle.std.proofs.Common.{◌∙◌, ap, ◌||◌, not}
use Rattle.screen_layout.proofs.JudgedScreens.{noted, joined}
use Rattle.screen_layout.proofs.judging.judge.Goals as goal

pub returns : goal.returns
returns c = λ before found h b.
    let off = c.is_off-off.ensures before h in
    let bad = c.is_bad-bad.ensures ∙ ap (λ x. c.args.row.now.bad || not x) (c.does_level_fit.ensures before h) in
    let first = noted found _ _ _ _ off (c.note_where-best.ensures found b) in
    let second = noted _ _ _ _ _ bad (c.note_where.ensures _ first) in
    joined found _ _ _ second
