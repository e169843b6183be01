use Rattle.data_names.proofs.Forms.{spells_once}
use Rattle.data_names.proofs.laws.pictures_are_definite.Goals as goal

pub returns : goal.returns
returns c text marks other form second one two = spells_once text marks other form second one two
