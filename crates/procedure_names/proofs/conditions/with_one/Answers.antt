use Rattle.std.proofs.Common.{refl}
use Rattle.procedure_names.proofs.conditions.with_one.Goals as goal

pub returns-in-Nothing : goal.returns-in-Nothing
returns-in-Nothing c = λ some named h. let none = rw c.in-Nothing.is at h in (named, rw none refl)
