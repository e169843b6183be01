-- The entries so far are there.
use Rattle.std.proofs.Common.{◌≡◌, ◌++◌, drop, map}
use Rattle.data_names.specs.Parts.{item_entries}
use Rattle.data_names.specs.Seen.{seen_source, filed}
use Rattle.data_names.proofs.known.push_sources.Given as goal

abbrev pub invariant-loop-entry : goal.invariant-loop-entry
invariant-loop-entry l =
    map seen_source l.sources.items ++ map (filed l.file) (item_entries (drop l.entry-index l.entries))
    ≡ map seen_source l.initial.sources.items ++ map (filed l.file) (item_entries l.entries)
