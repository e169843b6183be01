use Rattle.std.proofs.Common.{◌∙◌, []}
use Rattle.std.proofs.lemmas.List.{get_or-map}
use Rattle.data_names.specs.Seen.{seen_item}
use Rattle.data_names.specs.Table.{items_of}
use Rattle.data_names.proofs.Surveys.{item_of_spot}
use Rattle.data_names.proofs.table.Table.item_at.Goals as goal

pub returns : goal.returns
returns c = λ spot e.
    let xs = c.args.self.now.items.now in
    item_of_spot [] (items_of c.args.self.now) c.args.at spot (seen_item c.index-self-at.result) e ∙ get_or-map seen_item xs c.args.at c.index-self-at.result (seen_item c.index-self-at.result) c.requires
