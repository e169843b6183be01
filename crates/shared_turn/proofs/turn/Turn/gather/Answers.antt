use Rattle.std.proofs.Common.{rules, ◌∷◌, ◌≡◌}
use Rattle.shared_turn.specs.declared.pass.PassOf.{PassOf}
use Rattle.shared_turn.proofs.Passes.{all-front, moved, taken-in}
use Rattle.shared_turn.proofs.turn.Turn.gather.Goals as goal

pub loop-next-preserved : goal.loop-next-preserved
loop-next-preserved g c = let i = c.loop-next.invariant in let next = c.in-Some-pop.next in record {
  own = search rules;
  owned = all-front (λ (p : PassOf g.row.S.Denot g.row.S-Ask.Denot g.row.S-Reply.Denot). p.seat.table_id ≡ c.args.self.now.table.shared.table_id) _ _ _ c.in-Some-pop.ensures.items i.owned;
  all = (next ∷ i.all.0, moved _ _ _ _ _ i.all.1 c.in-Some-pop.ensures.items, taken-in _ _ _ _ i.all.2 next.idle c.take_in.ensures.took);
}
