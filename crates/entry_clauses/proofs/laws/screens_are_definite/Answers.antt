use Rattle.entry_clauses.proofs.SameScreens.{screens_once}
use Rattle.entry_clauses.proofs.laws.screens_are_definite.Goals as goal

pub returns : goal.returns
returns c front screens others one two = screens_once front screens others one two
