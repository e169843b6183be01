use Rattle.std.proofs.Common.{Some}
use Rattle.procedure_names.proofs.FirstsOf.{with_name}
use Rattle.procedure_names.proofs.firsts.Firsts.add.Goals as goal

pub returns : goal.returns
returns c = λ names e h. with_name names (Some c.args.name.now) c.args.number c.args.self.now c.put.new.self e h c.in_ok-put.ensures
