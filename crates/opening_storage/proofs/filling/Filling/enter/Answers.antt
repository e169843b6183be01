use Rattle.std.proofs.Common.{◌∙◌, ap, false}
use Rattle.data_names.specs.Seen.{seen_item}
use Rattle.opening_storage.specs.Filling.{Filled, added, piece_of}
use Rattle.opening_storage.proofs.filling.Filling.enter.Goals as goal

pub returns-clause-filled : goal.returns-clause-filled
returns-clause-filled c =
    rw c.if-facts.false
    (c.in_ok-add.ensures.filled false c.args.facts.now.repeated
    ∙ ap (λ (filled : Filled). added filled (piece_of false c.args.facts.now.repeated (seen_item c.args.item.now) c.args.picture.now)) c.in_ok-close_before.ensures)
