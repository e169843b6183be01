use Rattle.std.proofs.Common.{[]}
use Rattle.data_layout.proofs.walk.bytes_of.Goals as goal

pub returns : goal.returns
returns c = (c.in_ok-walk_over.ensures [] c.new-walk.ensures).total
