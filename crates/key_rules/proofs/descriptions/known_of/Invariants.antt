-- What is known after the items so far.
use Rattle.std.proofs.Common.{◌≡◌, take, map, length}
use Rattle.data_names.specs.Seen.{seen_item}
use Rattle.key_rules.specs.Descriptions.{AreKnown}
use Rattle.key_rules.proofs.descriptions.known_of.Given as goal

abbrev pub invariant-loop-at : goal.invariant-loop-at
invariant-loop-at l = record {
  count : length l.known.items ≡ length l.files;
  known : AreKnown (map seen_item (take l.at l.items)) l.known.items;
}
