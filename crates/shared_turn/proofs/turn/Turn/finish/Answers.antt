use Rattle.std.proofs.Common.{ap, subst, sym}
use Rattle.shared_turn.specs.declared.view.Book.{Book}
use Rattle.shared_turn.specs.Serial.{object}
use Rattle.shared_turn.specs.Closing.{Finished}
use Rattle.shared_turn.proofs.Ends.{finishes}
use Rattle.shared_turn.proofs.Passes.{not-none, same-there}
use Rattle.shared_turn.proofs.turn.Turn.finish.Goals as goal

pub unreachable-requires : goal.unreachable-requires
unreachable-requires g c =
    let f = finishes (object g.S.Serial.state g.S.Serial.taken g.S.Serial.after g.S.Serial.reply) _ _ _ _ c.args.seat.me.0.callers _ _ (ap (λ m. m.0) c.requires.all.0) c.requires.all.1 c.close_with-closed.ensures.values.2 in
    not-none _ _ c.in-None.ensures.value f.1

pub returns : goal.returns
returns g c =
    let f = finishes (object g.S.Serial.state g.S.Serial.taken g.S.Serial.after g.S.Serial.reply) _ _ _ _ c.args.seat.me.0.callers _ _ (ap (λ m. m.0) c.requires.all.0) c.requires.all.1 c.close_with-closed.ensures.values.2 in
    subst (Finished (object g.S.Serial.state g.S.Serial.taken g.S.Serial.after g.S.Serial.reply) c.args.self.table.shared.key.serial.value c.args.seat.me.0.callers c.in-Some.field-0.serial) (sym c.from_vec.ensures)
    (subst (λ (b : Book g.row.S.Denot g.row.S-Ask.Denot g.row.S-Reply.Denot). Finished (object g.S.Serial.state g.S.Serial.taken g.S.Serial.after g.S.Serial.reply) c.args.self.table.shared.key.serial.value c.args.seat.me.0.callers b.serial b.journal.items) (same-there _ _ _ c.in-Some.ensures.value f.1) f.2)
