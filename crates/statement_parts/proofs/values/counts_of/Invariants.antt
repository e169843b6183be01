-- The numbers so far.
use Rattle.std.proofs.Common.{◌≡◌, ◌++◌, take}
use Rattle.std.specs.List.{flat_map}
use Rattle.statement_parts.specs.Phrases.{number_of_retry}
use Rattle.statement_parts.specs.Seen.{seen_all}
use Rattle.statement_parts.proofs.values.counts_of.Given as goal

abbrev pub invariant-loop-retry : goal.invariant-loop-retry
invariant-loop-retry l = seen_all l.all.items ≡ seen_all l.initial.all.items ++ flat_map number_of_retry (seen_all (take l.retry-index l.retry-items))
