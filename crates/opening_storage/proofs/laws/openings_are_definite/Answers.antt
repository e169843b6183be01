use Rattle.opening_storage.proofs.WholeStorage.{definite}
use Rattle.opening_storage.proofs.laws.openings_are_definite.Goals as goal

pub returns : goal.returns
returns c front layout bytes others l one two = definite front layout bytes others l one two
