use Rattle.std.proofs.Common.{rules, ◌∙◌}
use Rattle.shared_turn.specs.Serial.{object}
use Rattle.shared_turn.proofs.Draws.{watch-at, watch-won}
use Rattle.shared_turn.proofs.turn.Turn.wait_for.Goals as goal

pub load-seen-requires : goal.load-seen-requires
load-seen-requires g c = (search rules, search rules, watch-at (object g.S.Serial.state g.S.Serial.taken g.S.Serial.after g.S.Serial.reply) _ _ _ _ _ _ _ (c.loop.invariant.2 ∙ c.requires.drew))

pub returns-then-seen-ticket-clause-won : goal.returns-then-seen-ticket-clause-won
returns-then-seen-ticket-clause-won g c = watch-won g.S.Serial.taken c.args.self.now.table.shared.table_id.slots _ _ _ _ _ (c.loop.invariant.2 ∙ c.requires.drew) c.if-seen-ticket.true c.load-seen.ensures.2
