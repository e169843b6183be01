use Rattle.std.proofs.Common.{ℕ, List, None, Vec, Global}
use Rattle.std.specs.Str.{bytes_eq}
use Rattle.data_names.proofs.Tables.{updates_by, emptied}
use Rattle.data_names.proofs.names.Names.take.Goals as goal

pub returns-in-Some-clause-others : goal.returns-in-Some-clause-others
returns-in-Some-clause-others c = λ (other : List ℕ).
    emptied (λ (numbers : Vec ℕ Global). numbers.items) (bytes_eq c.args.key.now other) _ _
    (updates_by (λ (key : Vec ℕ Global). key.items) c.args.key.now c.args.self.now.table c.remove.new.self None c.remove.ensures.updates other)
