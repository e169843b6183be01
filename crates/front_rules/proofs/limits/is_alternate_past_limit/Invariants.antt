-- What was found so far.
use Rattle.std.proofs.Common.{◌≡◌, drop}
use Rattle.std.specs.List.{list_any}
use Rattle.data_names.specs.References.{found}
use Rattle.data_names.specs.Table.{items_of}
use Rattle.entry_clauses.specs.Clauses.{alternates}
use Rattle.front_rules.specs.Limits.{is_key_past_limit}
use Rattle.front_rules.proofs.limits.is_alternate_past_limit.Given as goal

abbrev pub invariant-loop-clause : goal.invariant-loop-clause
invariant-loop-clause l =
    list_any (λ alternate. is_key_past_limit (found (items_of l.table) alternate.key)) (alternates (drop l.clause-index l.clauses)) ≡ list_any (λ alternate. is_key_past_limit (found (items_of l.table) alternate.key)) (alternates l.clauses)
