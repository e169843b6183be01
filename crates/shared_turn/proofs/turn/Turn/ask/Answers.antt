use Rattle.std.proofs.Common.{ap}
use Rattle.shared_turn.specs.Serial.{object}
use Rattle.shared_turn.specs.View.{caller_of}
use Rattle.shared_turn.proofs.Asks.{may-record, may-return, was-answered, was-refused}
use Rattle.shared_turn.proofs.turn.Turn.ask.Goals as goal

pub take_book-book-requires-clause-has : goal.take_book-book-requires-clause-has
take_book-book-requires-clause-has g c = let w = c.wait_for.ensures.won in (w.0, ap (λ m. m.1) w.1)

pub record-requires-clause-has : goal.record-requires-clause-has
record-requires-clause-has g c = may-record (object g.S.Serial.state g.S.Serial.taken g.S.Serial.after g.S.Serial.reply) (caller_of c.args.pass.now.seat.me.0) _ _ _ _ _ _ _ _ _ _ _ (record { drew = c.draw-ticket.ensures.drew; won = c.wait_for.ensures.won.1; fresh = c.wait_for.ensures.won.2; took = c.take_book-book.ensures.taken.0; out = c.take_book-book.ensures.taken.1; put = c.put_book.ensures.put }) c.args.pass.now.number_is c.in-Ok.ensures.ok

pub hand_back-requires-clause-has : goal.hand_back-requires-clause-has
hand_back-requires-clause-has g c = may-return (object g.S.Serial.state g.S.Serial.taken g.S.Serial.after g.S.Serial.reply) (caller_of c.args.pass.now.seat.me.0) _ _ _ _ _ _ _ _ (record { drew = c.draw-ticket.ensures.drew; won = c.wait_for.ensures.won.1; fresh = c.wait_for.ensures.won.2; took = c.take_book-book.ensures.taken.0; out = c.take_book-book.ensures.taken.1; put = c.put_book.ensures.put }) c.in-Err.ensures.err

pub returns-in-Ok-clause-answered : goal.returns-in-Ok-clause-answered
returns-in-Ok-clause-answered g c = was-answered (object g.S.Serial.state g.S.Serial.taken g.S.Serial.after g.S.Serial.reply) c.args.pass.now _ _ _ _ _ _ _ _ _ (record { drew = c.draw-ticket.ensures.drew; won = c.wait_for.ensures.won.1; fresh = c.wait_for.ensures.won.2; took = c.take_book-book.ensures.taken.0; out = c.take_book-book.ensures.taken.1; put = c.put_book.ensures.put }) c.args.pass.now.number_is _ _ c.in-Ok.ensures.ok c.record.ensures.idle

pub returns-in-Err-clause-refused : goal.returns-in-Err-clause-refused
returns-in-Err-clause-refused g c = was-refused (object g.S.Serial.state g.S.Serial.taken g.S.Serial.after g.S.Serial.reply) c.args.pass.now _ _ _ _ _ _ _ _ _ (record { drew = c.draw-ticket.ensures.drew; won = c.wait_for.ensures.won.1; fresh = c.wait_for.ensures.won.2; took = c.take_book-book.ensures.taken.0; out = c.take_book-book.ensures.taken.1; put = c.put_book.ensures.put }) c.args.pass.now.number_is c.in-Err.ensures.err c.hand_back.ensures.idle
