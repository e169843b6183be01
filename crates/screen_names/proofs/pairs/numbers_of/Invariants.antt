-- The numbers of the items so far.
use Rattle.std.proofs.Common.{◌≡◌, ℕ, List}
use Rattle.data_layout.specs.Occurrences.{around_item}
use Rattle.data_names.specs.Names.{numbers_under}
use Rattle.screen_names.specs.Names.{numbers_where}
use Rattle.screen_names.specs.NamePairs.{is_kept}
use Rattle.screen_names.proofs.pairs.numbers_of.Given as goal

abbrev pub invariant-loop-number : goal.invariant-loop-number
invariant-loop-number l = (key : List ℕ) → numbers_under l.numbers key ≡ numbers_where (λ number. is_kept l.asked key (around_item l.items number)) l.number
