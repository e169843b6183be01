-- The items so far.
use Rattle.std.proofs.Common.{◌≡◌, ◌++◌, take}
use Rattle.statement_parts.specs.Seen.{seen_all}
use Rattle.statement_parts.proofs.values.add_all.Given as goal

abbrev pub invariant-loop-item : goal.invariant-loop-item
invariant-loop-item l = seen_all l.all.items ≡ seen_all l.initial.all.items ++ take l.item-index l.items
