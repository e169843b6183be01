use Rattle.cobol_checker.proofs.LaidOut.{only_memory}
use Rattle.cobol_checker.proofs.checking.layout_of.Goals as goal

pub no_memory-requires : goal.no_memory-requires
no_memory-requires c = only_memory c.args.front.now c.in-Err.fault c.requires c.in-Err.ensures.fault
