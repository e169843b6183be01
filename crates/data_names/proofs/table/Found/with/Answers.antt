use Rattle.std.proofs.Common.{refl}
use Rattle.data_names.proofs.table.Found.with.Goals as goal

pub returns-in-Nothing : goal.returns-in-Nothing
returns-in-Nothing c = λ some spot h. let none = rw c.in-Nothing.is at h in (spot, rw none refl)
