-- The names so far.
use Rattle.std.proofs.Common.{take, map}
use Rattle.data_names.specs.declared.known.KnownItem.{KnownItem}
use Rattle.data_names.specs.Seen.{seen_item}
use Rattle.procedure_names.specs.Scoped.{name_of_record}
use Rattle.procedure_names.specs.Firsts.{AreFirsts}
use Rattle.procedure_names.proofs.scope.names_of_records.Given as goal

abbrev pub invariant-loop-number : goal.invariant-loop-number
invariant-loop-number l = AreFirsts (map (λ (item : KnownItem). name_of_record (seen_item item)) (take l.number l.items)) l.names
