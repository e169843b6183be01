-- Those so far.
use Rattle.std.proofs.Common.{◌≡◌, [], length}
use Rattle.key_rules.specs.Descriptions.{AreKnown}
use Rattle.key_rules.proofs.descriptions.unseen.Given as goal

abbrev pub invariant-loop-number : goal.invariant-loop-number
invariant-loop-number l = record {
  count : length l.known.items ≡ l.number;
  known : AreKnown [] l.known.items;
}
