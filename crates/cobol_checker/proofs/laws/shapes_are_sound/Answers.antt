use Rattle.cobol_checker.proofs.SoundShapes.{all_sound}
use Rattle.cobol_checker.proofs.laws.shapes_are_sound.Goals as goal

pub returns : goal.returns
returns c checked is = all_sound checked is
