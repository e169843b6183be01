use Rattle.std.proofs.Common.{subst}
use Rattle.screen_layout.specs.Best.{IsBest}
use Rattle.screen_layout.proofs.Bests.{stays, replaces}
use Rattle.screen_layout.proofs.least.note.Goals as goal

pub returns-then-is_no_later : goal.returns-then-is_no_later
returns-then-is_no_later c = λ all h. stays all c.args.fault c.in-Some.other (subst (IsBest all) c.in-Some.is h) (c.is_no_later.ensures.0 c.if-is_no_later.true)

pub returns-else-is_no_later : goal.returns-else-is_no_later
returns-else-is_no_later c = λ all h. replaces all c.args.fault c.in-Some.other (subst (IsBest all) c.in-Some.is h) (λ k. let yes = c.is_no_later.ensures.1 k in cc)
