use Rattle.cobol_checker.proofs.KeepsRules.{front_of}
use Rattle.cobol_checker.proofs.checking.with_layout.Goals as goal

pub layout_of-requires : goal.layout_of-requires
layout_of-requires c = front_of c.args.program c.requires.keeps

pub screens_of-requires-clause-faultless : goal.screens_of-requires-clause-faultless
screens_of-requires-clause-faultless c = front_of c.args.program c.requires.keeps
