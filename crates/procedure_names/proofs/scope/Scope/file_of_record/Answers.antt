use Rattle.std.proofs.Common.{◌<◌, ◌∙◌, sym, ap, arith, length}
use Rattle.data_names.specs.Items.{DataItem}
use Rattle.data_names.specs.Spots.{spots}
use Rattle.procedure_names.specs.Names.{file_of_number, file_of_record}
use Rattle.procedure_names.specs.Scoped.{front_in, items_in}
use Rattle.procedure_names.proofs.KnownConditions.{there, length-spots_after}
use Rattle.std.proofs.Common.{[]}
use Rattle.procedure_names.proofs.scope.Scope.file_of_record.Goals as goal

pub returns : goal.returns
returns c =
    let front = front_in c.args.self.now in
    let items = items_in c.args.self.now in
    let within : c.args.item < length (spots items) = omega (arith, c.requires.within, length-spots_after [] items) in
    let t = there (spots items) c.args.item within in
    c.in_ok-number.ensures ∙ sym (ap (λ (item : DataItem). file_of_number front item.source.file) (c.item_at.ensures t.one t.at)) ∙ sym (ap (file_of_record front) t.at)
