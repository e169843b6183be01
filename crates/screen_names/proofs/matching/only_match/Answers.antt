use Rattle.std.proofs.Common.{sym}
use Rattle.data_layout.specs.Occurrences.{around_item}
use Rattle.screen_names.specs.Names.{matches}
use Rattle.screen_names.proofs.NamedItems.{two_found}
use Rattle.screen_names.proofs.matching.only_match.Goals as goal

pub returns-then-is_some : goal.returns-then-is_some
returns-then-is_some c = two_found (λ number. matches c.args.reference.now (around_item c.args.items.now number)) c.args.numbers.now c.loop-number.number-index c.loop-number.found c.loop-number-test.true
    c.loop-number.invariant (sym c.if-is_some.ensures) (sym c.if-is_match.ensures)
