use Rattle.std.proofs.Common.{rules}
use Rattle.shared_turn.specs.Serial.{object}
use Rattle.shared_turn.proofs.Draws.{draw-at}
use Rattle.shared_turn.proofs.turn.Turn.draw.Goals as goal

pub fetch_add-requires : goal.fetch_add-requires
fetch_add-requires g c = (c.requires.own, search rules, draw-at (object g.S.Serial.state g.S.Serial.taken g.S.Serial.after g.S.Serial.reply) _ _ _ _ _ c.requires.idle.0 c.requires.idle.1)
