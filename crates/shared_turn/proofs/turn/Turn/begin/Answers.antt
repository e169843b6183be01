use Rattle.std.proofs.Common.{rules, sym, ap, ◌∙◌, arith, ◌≡◌, ◌+◌, length, [], ◌∷◌, ℕ, length-append}
use Rattle.shared_turn.specs.declared.pass.PassOf.{PassOf}
use Rattle.shared_turn.specs.Passes.{IsNew}
use Rattle.shared_turn.proofs.Passes.{pushed, still-new, newly}
use Rattle.shared_turn.proofs.turn.Turn.begin.Goals as goal

pub loop-number-preserved : goal.loop-number-preserved
loop-number-preserved g c =
    let i = c.loop-number.invariant in
    let e = c.another-next.ensures in
    let items = c.loop-number.passes.items in
    let next = c.another-next.result in
    let more = c.in_ok-push.ensures.items in
    let count : length c.push.new.self.items ≡ length items + 1 = ap length more ∙ length-append items (next ∷ []) in record {
      own = search rules;
      upto = search rules;
      first = (e.first.0, ap (λ f. f.given) e.first.1 ∙ ap (λ (k : ℕ). k + 1) i.first.1);
      first_new = still-new _ _ _ (e.first.0 ∙ sym i.first.0) e.first.1 i.first_new;
      count = omega (arith, count, i.count);
      owned = pushed (λ _ (p : PassOf g.row.S.Denot g.row.S-Ask.Denot g.row.S-Reply.Denot). p.seat.table_id ≡ c.in_ok-turn.turn.table.shared.table_id) items _ next more i.owned (e.own.1 ∙ i.own.0);
      new = pushed (λ k (p : PassOf g.row.S.Denot g.row.S-Ask.Denot g.row.S-Reply.Denot). IsNew (k + 2) p) items _ next more i.new (newly _ _ next (e.next.0 ∙ omega (arith, i.count)) e.next.1);
    }
