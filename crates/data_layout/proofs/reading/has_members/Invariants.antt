-- The entries still to come have the next level of all.
use Rattle.std.proofs.Common.{◌≡◌, drop}
use Rattle.data_layout.specs.Rows.{next_level}
use Rattle.data_layout.proofs.reading.has_members.Given as goal

abbrev pub invariant-loop-entry : goal.invariant-loop-entry
invariant-loop-entry l = next_level (drop l.entry-index l.rest) ≡ next_level l.rest
