-- The numbers of the items so far.
use Rattle.std.proofs.Common.{◌≡◌, ℕ, List}
use Rattle.std.specs.Prelude.{slice_get}
use Rattle.data_names.specs.Names.{is_under, numbers_under}
use Rattle.screen_names.specs.Names.{numbers_where}
use Rattle.screen_names.specs.NameTable.{name_of}
use Rattle.screen_names.proofs.names.names_of.Given as goal

abbrev pub invariant-loop-number : goal.invariant-loop-number
invariant-loop-number l = (key : List ℕ) → numbers_under l.names key ≡ numbers_where (λ number. is_under key (name_of (slice_get l.items number))) l.number
