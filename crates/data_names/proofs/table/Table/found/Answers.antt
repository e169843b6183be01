use Rattle.std.proofs.Common.{◌<◌, ap, arith, length}
use Rattle.std.proofs.lemmas.List.{length-map}
use Rattle.std.proofs.lemmas.Option.{slice_get_within}
use Rattle.data_names.specs.Spots.{spots}
use Rattle.data_names.specs.Seen.{seen_item}
use Rattle.data_names.specs.References.{only_one}
use Rattle.data_names.specs.Table.{items_of}
use Rattle.data_names.proofs.Surveys.{length-spots}
use Rattle.data_names.proofs.table.Table.found.Goals as goal

pub returns-in-One : goal.returns-in-One
returns-in-One c =
    let table = c.args.self.now in
    let is = rw c.in-One.is at c.in_ok-find_reference.ensures in
    let within : c.in-One.at < length table.items.now =
    omega (arith, slice_get_within (spots (items_of table)) c.in-One.at is.0 is.1, length-spots (items_of table), length-map table.items.now seen_item) in
    (is.0, within, is.1, ap only_one is.2)
