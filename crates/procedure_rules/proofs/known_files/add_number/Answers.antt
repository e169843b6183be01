use Rattle.std.proofs.Common.{ℕ}
use Rattle.procedure_rules.proofs.KeyNumbers.{number_added}
use Rattle.procedure_rules.proofs.known_files.add_number.Goals as goal

pub returns : goal.returns
returns c = λ (number : ℕ). number_added c.args.number c.args.keys.now c.insert.new.self c.in_ok-insert.ensures.updates number
