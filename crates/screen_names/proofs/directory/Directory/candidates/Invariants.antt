-- All that the reference matches are among these.
use Rattle.std.proofs.Common.{List}
use Rattle.data_layout.specs.declared.layout.Item.{Item}
use Rattle.screen_names.specs.Directory.{IsDirectory, AreCandidates}
use Rattle.screen_names.proofs.directory.Directory.candidates.Given as goal

abbrev pub invariant-loop-qualifier : goal.invariant-loop-qualifier
invariant-loop-qualifier l = (items : List Item) → IsDirectory items l.self → AreCandidates items l.reference l.best
