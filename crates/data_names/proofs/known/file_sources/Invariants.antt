-- The files still to come give the rest.
use Rattle.std.proofs.Common.{◌≡◌, ◌++◌, drop, map}
use Rattle.data_names.specs.Items.{file_sources}
use Rattle.data_names.specs.Seen.{seen_source}
use Rattle.data_names.proofs.known.file_sources.Given as goal

abbrev pub invariant-loop-number : goal.invariant-loop-number
invariant-loop-number l = map seen_source l.sources.items ++ file_sources l.number (drop l.number l.files) ≡ file_sources 0 l.files
