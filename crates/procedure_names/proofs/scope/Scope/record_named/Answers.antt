use Rattle.std.proofs.Common.{map}
use Rattle.procedure_names.specs.Scoped.{name_of_record, items_in}
use Rattle.procedure_names.proofs.ScopeOf.{record_by}
use Rattle.procedure_names.proofs.scope.Scope.record_named.Goals as goal

pub returns : goal.returns
returns c =
    let items = items_in c.args.self.now in
    record_by items c.args.name.now c.in_ok-number.number (c.in_ok-number.ensures (map name_of_record items) c.requires.records)
