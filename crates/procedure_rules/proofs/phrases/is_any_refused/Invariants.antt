-- The phrases still to come have one exactly where all of them have.
use Rattle.std.proofs.Common.{◌≡◌, drop}
use Rattle.std.specs.List.{list_any}
use Rattle.statement_parts.specs.Seen.{seen_all}
use Rattle.procedure_rules.specs.Phrases.{is_refused_retry}
use Rattle.procedure_rules.proofs.phrases.is_any_refused.Given as goal

abbrev pub invariant-loop-retry : goal.invariant-loop-retry
invariant-loop-retry l = list_any is_refused_retry (seen_all (drop l.retry-index l.retries)) ≡ list_any is_refused_retry (seen_all l.retries)
