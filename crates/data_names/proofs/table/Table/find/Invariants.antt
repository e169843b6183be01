-- What the numbers so far come to.
use Rattle.std.proofs.Common.{◌≡◌, take, map}
use Rattle.std.specs.Prelude.{filter}
use Rattle.data_names.specs.Pairs.{IsCover}
use Rattle.data_names.specs.Table.{IsAmong, is_choice, items_of}
use Rattle.data_names.proofs.Choices.{passing}
use Rattle.data_names.proofs.table.Table.find.Given as goal

abbrev pub invariant-loop-at : goal.invariant-loop-at
invariant-loop-at l = record {
  cover : IsCover (items_of l.self) l.name l.qualifiers l.numbers;
  numbers : l.numbers ≡ map (λ p. p.0) (passing (items_of l.self) cover.test);
  found : IsAmong (filter (is_choice l.name l.qualifiers) (take l.at-index (passing (items_of l.self) cover.test))) l.found;
}
