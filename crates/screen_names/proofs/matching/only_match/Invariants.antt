-- The items so far that the reference matches.
use Rattle.std.proofs.Common.{◌≡◌, take}
use Rattle.std.specs.Prelude.{filter}
use Rattle.std.specs.Option.{option_to_list}
use Rattle.data_layout.specs.Occurrences.{around_item}
use Rattle.screen_names.specs.Names.{matches}
use Rattle.screen_names.proofs.matching.only_match.Given as goal

abbrev pub invariant-loop-number : goal.invariant-loop-number
invariant-loop-number l = filter (λ number. matches l.reference (around_item l.items number)) (take l.number-index l.numbers) ≡ option_to_list l.found
