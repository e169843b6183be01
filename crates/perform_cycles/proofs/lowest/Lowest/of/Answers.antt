use Rattle.std.proofs.lemmas.List.Elements.{All-push, All-same}
use Rattle.perform_cycles.specs.Lowest.{IsLevel}
use Rattle.perform_cycles.proofs.lowest.Lowest.of.Goals as goal

pub loop-preserved : goal.loop-preserved
loop-preserved c = (
  All-same (IsLevel c.args.numbers.items) _ _ c.in_ok-push.ensures.items (All-push (IsLevel c.args.numbers.items) c.loop.levels.items _ c.loop.invariant.0 c.loop.invariant.1),
  c.in_ok-next.ensures c.args.numbers.items c.loop.invariant.1,
)

pub returns : goal.returns
returns c =
    All-same (IsLevel c.args.numbers.items) _ _ c.in_ok-push-2.ensures.items (All-push (IsLevel c.args.numbers.items) c.loop.levels.items c.loop.level c.loop.invariant.0 c.loop.invariant.1)
