use Rattle.std.proofs.Common.{ap, sym, ◌∙◌, ◌∷◌, Some}
use Rattle.atomic_table.specs.Table.{rest}
use Rattle.shared_turn.proofs.turn.Turn.take_book.Goals as goal

pub exchange-requires : goal.exchange-requires
exchange-requires g c = let b = c.requires.has.0 in let is = c.requires.has.1 in (c.requires.own, (Some b, is ∙ ap (λ l. (0, Some b) ∷ l) (sym (ap rest is))))
