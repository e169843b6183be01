-- The faults so far.
use Rattle.std.proofs.Common.{◌≡◌, ◌++◌, take, map}
use Rattle.std.specs.Prelude.{filter}
use Rattle.statement_parts.specs.Seen.{seen_all}
use Rattle.procedure_rules.specs.Phrases.{has_refused_retry}
use Rattle.name_rules.specs.Faults.{faults_at}
use Rattle.procedure_rules.proofs.phrases.note_refused_retries.Given as goal

abbrev pub invariant-loop-one : goal.invariant-loop-one
invariant-loop-one l = l.faults.found.items ≡ l.initial.faults.found.items ++ faults_at 9 (map (λ one. one.line) (filter (λ one. has_refused_retry one.item) (seen_all (take l.one-index l.statements))))
