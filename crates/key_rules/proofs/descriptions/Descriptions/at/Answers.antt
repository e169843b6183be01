use Rattle.std.proofs.Common.{sym, arith, length}
use Rattle.std.proofs.lemmas.Option.{slice_get_read, slice_get_past}
use Rattle.key_rules.proofs.descriptions.Descriptions.at.Goals as goal

pub returns-then-number-len : goal.returns-then-number-len
returns-then-number-len c =
    let all = c.args.self.now.all.items in
    sym (slice_get_read all (length all) c.args.number c.index.result.now (omega arith) (omega arith) c.index.ensures)

pub returns-else-number-len : goal.returns-else-number-len
returns-else-number-len c = sym (slice_get_past c.args.self.now.all.items c.args.number (omega arith))
