use Rattle.std.proofs.Common.{arith}
use Rattle.std.proofs.lemmas.List.{length-map}
use Rattle.data_names.specs.Seen.{seen_item}
use Rattle.data_names.specs.Table.{items_of}
use Rattle.procedure_names.proofs.KnownConditions.{known, item_within}
use Rattle.procedure_names.proofs.conditions.Conditions.matches.Goals as goal

pub is_qualified_by-requires-clause-within : goal.is_qualified_by-requires-clause-within
is_qualified_by-requires-clause-within c =
    let items = items_of c.args.table.now in
    let all = c.requires.conditions in
    let k = known all.0 items c.args.self.now c.args.at all.1 c.requires.within in
    omega (arith, item_within items c.get-known.result k.named (c.get-known.ensures all.0 items k.named all.1 k.is), length-map c.args.table.now.items.now seen_item)
