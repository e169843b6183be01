use Rattle.std.proofs.Common.{◌≡◌}
use Rattle.shared_turn.specs.Passes.{IsPassOf, asked_of}
use Rattle.bench_turn.proofs.ask_often.Given as goal

abbrev pub invariant-loop : goal.invariant-loop
invariant-loop g l = IsPassOf l.turn l.pass × (asked_of l.pass ≡ l.counter)
