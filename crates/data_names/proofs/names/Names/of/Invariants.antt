-- The numbers of the items so far.
use Rattle.std.proofs.Common.{◌≡◌, ℕ, List, take}
use Rattle.data_names.specs.declared.known.KnownItem.{KnownItem}
use Rattle.data_names.specs.Names.{numbers_from, is_under, numbers_under}
use Rattle.data_names.proofs.names.Names.of.Given as goal

abbrev pub invariant-loop-at : goal.invariant-loop-at
invariant-loop-at l = (key : List ℕ) → numbers_under l.names key ≡ numbers_from 0 (λ (item : KnownItem). is_under key item.text.now.name) (take l.at l.items)
