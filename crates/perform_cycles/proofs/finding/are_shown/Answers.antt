use Rattle.std.proofs.Common.{arith, refl}
use Rattle.std.proofs.lemmas.Option.{slice_get_within}
use Rattle.perform_cycles.proofs.Shown.{shown_more}
use Rattle.perform_cycles.proofs.finding.are_shown.Goals as goal

pub loop-paragraph-preserved : goal.loop-paragraph-preserved
loop-paragraph-preserved c =
    shown_more c.args.arrows.now c.args.places.now c.loop-paragraph.paragraph _ c.loop-paragraph.invariant (c.if-not-is_shown.ensures refl)

pub returns : goal.returns
returns c = λ _ paragraph place is cyclic.
    c.loop-paragraph.invariant paragraph (omega (arith, slice_get_within c.args.places.now paragraph place is, c.loop-paragraph-test.false)) place is cyclic
