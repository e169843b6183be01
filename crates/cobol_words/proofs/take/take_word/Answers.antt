use Rattle.std.proofs.Common.{◌∙◌, sym, inl, inr}
use Rattle.cobol_words.proofs.Takes.{run_follows, sign_follows, angle_follows, ends_break, at_plus, at_minus, at_less, at_greater, at_period, at_comma, at_semicolon}
use Rattle.cobol_words.proofs.take.take_word.Goals as goal

pub returns-then-begins_run-clause-taken : goal.returns-then-begins_run-clause-taken
returns-then-begins_run-clause-taken c text f = rw (sym c.begins_run.ensures ∙ c.if-begins_run.true, run_follows c.args.cell c.args.rest.now text f.stops) c.take_run.ensures.taken

pub returns-in-43-clause-taken : goal.returns-in-43-clause-taken
returns-in-43-clause-taken c text f = elim c.in-43.is [
  | inl e ↦ rw (at_plus c.args.spaced c.args.cell _ e, sign_follows c.args.spaced c.args.cell c.args.rest.now text f.stops) c.take_sign.ensures.taken
  | inr e ↦ rw (at_minus c.args.spaced c.args.cell _ e, sign_follows c.args.spaced c.args.cell c.args.rest.now text f.stops) c.take_sign.ensures.taken
]

pub returns-in-60-clause-taken : goal.returns-in-60-clause-taken
returns-in-60-clause-taken c text f = elim c.in-60.is [
  | inl e ↦ rw (at_less c.args.spaced c.args.cell _ e, angle_follows c.args.cell c.args.rest.now text f.stops) c.take_angle.ensures.taken
  | inr e ↦ rw (at_greater c.args.spaced c.args.cell _ e, angle_follows c.args.cell c.args.rest.now text f.stops) c.take_angle.ensures.taken
]

pub returns-in-46-clause-taken : goal.returns-in-46-clause-taken
returns-in-46-clause-taken c text f = rw (at_period c.args.spaced c.args.cell _ c.in-46.is, ends_break c.args.ends c.args.rest.now text c.requires.solid f) c.take_period.ensures.taken

pub returns-in-44-clause-taken : goal.returns-in-44-clause-taken
returns-in-44-clause-taken c text f = elim c.in-44.is [
  | inl e ↦ rw (at_comma c.args.spaced c.args.cell _ e, ends_break c.args.ends c.args.rest.now text c.requires.solid f) c.take_comma.ensures.taken
  | inr e ↦ rw (at_semicolon c.args.spaced c.args.cell _ e, ends_break c.args.ends c.args.rest.now text c.requires.solid f) c.take_comma.ensures.taken
]
