use Rattle.std.proofs.Common.{All, subst, refl}
use Rattle.std.proofs.lemmas.List.{take_all}
use Rattle.std.proofs.lemmas.List.Elements.{All-more}
use Rattle.perform_cycles.specs.Finding.{IsAscending}
use Rattle.perform_cycles.proofs.finding.are_ascending.Goals as goal

pub loop-arrow-preserved : goal.loop-arrow-preserved
loop-arrow-preserved c = λ levels.
    All-more (IsAscending c.args.places.now) c.args.arrows.now c.loop-arrow.arrow-index _ c.loop-arrow-test.true (c.loop-arrow.invariant levels) (c.if-not-is_ascending.ensures levels refl)

pub returns : goal.returns
returns c = λ levels _.
    subst (All (IsAscending c.args.places.now)) (take_all c.loop-arrow.arrow-index c.args.arrows.now c.loop-arrow-test.false) (c.loop-arrow.invariant levels)
