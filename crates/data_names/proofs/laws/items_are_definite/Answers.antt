use Rattle.data_names.proofs.SameItems.{items_once}
use Rattle.data_names.proofs.laws.items_are_definite.Goals as goal

pub returns : goal.returns
returns c front items others one two = items_once front items others one two
