use Rattle.perform_cycles.proofs.segment_tree.SegmentTree.take.Given as goal

abbrev pub decreases-loop-node : goal.decreases-loop-node
decreases-loop-node l = l.node
