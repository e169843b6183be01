use Rattle.std.proofs.Common.{arith}
use Rattle.std.proofs.lemmas.List.{length-map}
use Rattle.std.proofs.lemmas.Slice.Zip.{AllZip-long}
use Rattle.data_names.specs.Seen.{seen_item}
use Rattle.procedure_names.specs.Conditions.{conditions}
use Rattle.procedure_names.specs.Scoped.{front_in, items_in}
use Rattle.procedure_names.specs.SeenConditions.{IsKnownCondition}
use Rattle.procedure_names.proofs.KnownConditions.{there, item_within}
use Rattle.procedure_names.proofs.unknown_names.is_in_table.Goals as goal

pub get-requires : goal.get-requires
get-requires c =
    let scope = c.args.scope.now in
    omega (arith, c.requires.within, AllZip-long (IsKnownCondition (items_in scope)) scope.conditions.all.items (conditions (front_in scope) (items_in scope)) c.requires.scope.conditions.all)

pub facts_at-requires-clause-within : goal.facts_at-requires-clause-within
facts_at-requires-clause-within c =
    let scope = c.args.scope.now in
    let t = there (conditions (front_in scope) (items_in scope)) c.args.at c.requires.within in
    omega (arith, item_within (items_in scope) c.get.result t.one (c.get.ensures (front_in scope) (items_in scope) t.one c.requires.scope.conditions t.at), length-map scope.table.now.items.now seen_item)

pub returns : goal.returns
returns c = λ named e.
    let scope = c.args.scope.now in
    (c.facts_at.ensures named.spot (c.get.ensures (front_in scope) (items_in scope) named c.requires.scope.conditions e).item).table
