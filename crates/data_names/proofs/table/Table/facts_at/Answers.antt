use Rattle.std.proofs.Common.{arith, ap, ◌<◌, length, get_or}
use Rattle.std.proofs.lemmas.List.{length-map}
use Rattle.data_names.specs.Spots.{spots}
use Rattle.data_names.specs.Seen.{seen_item}
use Rattle.data_names.specs.Table.{items_of}
use Rattle.data_names.proofs.Surveys.{facts_at, length-AreFactsOf, length-spots}
use Rattle.data_names.proofs.table.Table.facts_at.Goals as goal

pub bounds-self-at : goal.bounds-self-at
bounds-self-at c =
    let table = c.args.self.now in
    omega (arith, length-AreFactsOf (spots (items_of table)) table.facts.now c.requires.table.facts, length-spots (items_of table), length-map table.items.now seen_item, c.requires.within)

pub returns : goal.returns
returns c = λ spot e.
    let table = c.args.self.now in
    let within : c.args.at < length table.facts.now =
    omega (arith, length-AreFactsOf (spots (items_of table)) table.facts.now c.requires.table.facts, length-spots (items_of table), length-map table.items.now seen_item, c.requires.within) in
    facts_at (spots (items_of table)) table.facts.now c.args.at spot _ c.requires.table.facts e within (ap (get_or table.facts.now c.args.at) c.index-self-at.is)
