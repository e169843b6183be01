-- The entries so far.
use Rattle.entry_clauses.proofs.ScreensOf.{Gathered}
use Rattle.entry_clauses.proofs.screens.screen_items.Given as goal

abbrev pub invariant-loop-at : goal.invariant-loop-at
invariant-loop-at l = Gathered l.entries l.at l.walk l.items.items
