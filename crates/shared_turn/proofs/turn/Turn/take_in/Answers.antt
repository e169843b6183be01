use Rattle.std.proofs.Common.{rules, ap}
use Rattle.shared_turn.specs.Serial.{object}
use Rattle.shared_turn.proofs.Ends.{join-at}
use Rattle.shared_turn.proofs.turn.Turn.take_in.Goals as goal

pub join_seat-requires : goal.join_seat-requires
join_seat-requires g c = (c.requires.own.0, c.requires.own.1, ap (λ m. m.1) c.requires.idle.1, search rules, join-at (object g.S.Serial.state g.S.Serial.taken g.S.Serial.after g.S.Serial.reply) _ _ _ _ _ _ c.requires.idle.0 c.requires.idle.1)
