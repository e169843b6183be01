use Rattle.perform_cycles.proofs.lowest.Lowest.fitting.Given as goal

abbrev pub decreases-loop-level : goal.decreases-loop-level
decreases-loop-level l = l.level
