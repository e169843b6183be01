-- Nothing changes but the screen.
use Rattle.screen_layout.proofs.test_showing.show_all.Given as goal

abbrev pub invariant-loop-plan : goal.invariant-loop-plan
invariant-loop-plan l = Unit {0}
