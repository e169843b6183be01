-- So far every row goes on.
use Rattle.std.proofs.Common.{◌≡◌, ◌+◌, drop}
use Rattle.std.specs.List.{prefix_len}
use Rattle.data_layout.specs.Storage.{goes_on}
use Rattle.data_layout.proofs.levels.members_of.Given as goal

abbrev pub invariant-loop-at : goal.invariant-loop-at
invariant-loop-at l = prefix_len (goes_on l.group) l.rest ≡ l.at + prefix_len (goes_on l.group) (drop l.at l.rest)
