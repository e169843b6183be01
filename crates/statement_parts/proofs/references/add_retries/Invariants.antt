-- The items so far.
use Rattle.std.proofs.Common.{◌≡◌, ◌++◌, take}
use Rattle.std.specs.List.{flat_map}
use Rattle.statement_parts.specs.Phrases.{number_of_retry}
use Rattle.statement_parts.specs.References.{in_operands}
use Rattle.statement_parts.specs.Seen.{seen_all}
use Rattle.statement_parts.proofs.references.add_retries.Given as goal

abbrev pub invariant-loop-retry : goal.invariant-loop-retry
invariant-loop-retry l = seen_all l.all.items ≡ seen_all l.initial.all.items ++ in_operands (flat_map number_of_retry (seen_all (take l.retry-index l.retries)))
