use Rattle.cobol_checker.specs.Seen.{seen_checked}
use Rattle.cobol_checker.proofs.CanOpen.{opens}
use Rattle.cobol_checker.proofs.checking.Checked.opening.Goals as goal

pub opening-requires-clause-held : goal.opening-requires-clause-held
opening-requires-clause-held c = opens (seen_checked c.args.self.now) c.requires
