use Rattle.std.proofs.Common.{[], ◌∷◌}
use Rattle.data_layout.proofs.walk.bytes_with.Goals as goal

pub returns : goal.returns
returns c = (c.in_ok-walk_over.ensures (c.args.row.now ∷ []) (c.in_ok-enter.ensures [] (c.close.ensures [] c.new-walk.ensures))).total
