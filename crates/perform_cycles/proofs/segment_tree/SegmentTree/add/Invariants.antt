use Rattle.perform_cycles.proofs.segment_tree.SegmentTree.add.Given as goal

abbrev pub decreases-loop-low : goal.decreases-loop-low
decreases-loop-low l = l.high
