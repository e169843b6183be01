use Rattle.std.proofs.Common.{rules}
use Rattle.shared_turn.specs.Serial.{object}
use Rattle.shared_turn.specs.View.{answered}
use Rattle.shared_turn.proofs.GivesUp.{record-at}
use Rattle.shared_turn.proofs.Asks.{left-with}
use Rattle.shared_turn.proofs.turn.Turn.record.Goals as goal

pub fetch_add-requires : goal.fetch_add-requires
fetch_add-requires g c = let h = c.requires.has in (c.requires.own, search rules, record-at (object g.S.Serial.state g.S.Serial.taken g.S.Serial.after g.S.Serial.reply) _ _ _ _ _ _ h.0 h.1 h.2 h.3 h.4 h.5 h.6)

pub returns-clause-idle : goal.returns-clause-idle
returns-clause-idle g c = let h = c.requires.has in left-with answered _ _ h.0 h.1 h.2 h.5 c.fetch_add.ensures.2
