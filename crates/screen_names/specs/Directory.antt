-- The items of a layout by their names, and by pairs of names.
use Rattle.std.specs.Prelude.{◌≡◌, ℕ, List, filter}
use Rattle.cob_base.specs.declared.operands.Reference.{Reference}
use Rattle.data_layout.specs.declared.layout.Item.{Item}
use Rattle.data_layout.specs.Occurrences.{around_item}
use Rattle.screen_names.specs.declared.directory.Directory.{Directory}
use Rattle.screen_names.specs.Names.{matches, matched_by}
use Rattle.screen_names.specs.NameTable.{AreNames}
use Rattle.screen_names.specs.NamePairs.{AreAskedNumbers}

-- each item is under its name, and under those of its pairs that are asked for
pub record IsDirectory (items : List Item) (directory : Directory) : Type 0 where
  pub names : AreNames items directory.names
  pub pairs : AreAskedNumbers items directory.pairs.asked directory.pairs.numbers

-- the items that the reference matches are among these, in order
abbrev pub AreCandidates : List Item → Reference → List ℕ → Type 0
AreCandidates items reference numbers = filter (λ number. matches reference (around_item items number)) numbers ≡ matched_by items reference
