use Rattle.std.proofs.Common.{ℕ, List, Vec, Global}
use Rattle.data_names.proofs.Tables.{key_added}
use Rattle.data_names.proofs.asked.AskedPairs.note.Goals as goal

pub returns : goal.returns
returns c = λ (other : List ℕ). key_added (λ (key : Vec ℕ Global). key.items) c.args.key.items c.args.self.now.keys c.insert.new.self c.in_ok-insert.ensures.updates other
