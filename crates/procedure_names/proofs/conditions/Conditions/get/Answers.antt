use Rattle.std.proofs.Common.{length, refl}
use Rattle.std.proofs.lemmas.Option.{slice_get_read}
use Rattle.procedure_names.proofs.KnownConditions.{known_at}
use Rattle.procedure_names.proofs.conditions.Conditions.get.Goals as goal

pub returns : goal.returns
returns c = λ front items named h e.
    let all = c.args.self.now.all.items in
    known_at front items c.args.self.now c.args.at c.index.result.now named h e (slice_get_read all (length all) c.args.at c.index.result.now refl c.requires c.index.ensures)
