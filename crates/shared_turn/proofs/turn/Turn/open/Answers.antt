use Rattle.std.proofs.Common.{rules}
use Rattle.shared_turn.specs.Serial.{object}
use Rattle.shared_turn.proofs.Opens.{begins}
use Rattle.shared_turn.proofs.turn.Turn.open.Goals as goal

pub new-requires-2 : goal.new-requires-2
new-requires-2 g c = begins (object g.S.Serial.state g.S.Serial.taken g.S.Serial.after g.S.Serial.reply) _ _ (record { serial = c.args.serial; journal = c.new.result }) _ (search rules) (search rules) (search rules) (search rules) (search rules)
