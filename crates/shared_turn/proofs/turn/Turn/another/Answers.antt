use Rattle.std.proofs.Common.{rules, sym, ◌∙◌, arith}
use Rattle.shared_turn.specs.Serial.{object}
use Rattle.shared_turn.proofs.Opens.{split-at}
use Rattle.shared_turn.proofs.turn.Turn.another.Goals as goal

pub split_seat-seat-requires : goal.split_seat-seat-requires
split_seat-seat-requires g c = (c.requires.own, search rules, split-at (object g.S.Serial.state g.S.Serial.taken g.S.Serial.after g.S.Serial.reply) _ _ _ _ c.args.first.now.idle (sym c.args.first.now.number_is ∙ c.requires.first.0) (omega (arith, c.requires.first)) (omega (arith, c.args.self.now.callers)))
