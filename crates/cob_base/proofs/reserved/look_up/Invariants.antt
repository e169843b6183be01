use Rattle.std.proofs.Common.{◌≡◌, length, map}
use Rattle.cob_base.specs.Reserved.{look_up}
use Rattle.cob_base.proofs.reserved.look_up.Given as goal

abbrev pub invariant-loop-table : goal.invariant-loop-table
invariant-loop-table l = look_up (map (λ row. (row.0.now, row.1)) l.table) l.word ≡ look_up (map (λ row. (row.0.now, row.1)) l.initial.table) l.word

abbrev pub decreases-loop-table : goal.decreases-loop-table
decreases-loop-table l = length l.table
