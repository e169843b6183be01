-- What was found so far.
use Rattle.std.proofs.Common.{◌≡◌, ◌++◌, take, map}
use Rattle.std.specs.Prelude.{filter}
use Rattle.cob_base.specs.declared.divisions.Front.{Front}
use Rattle.data_names.specs.Table.{items_of}
use Rattle.key_rules.specs.Descriptions.{AreDescriptions}
use Rattle.key_rules.specs.KeyPlaces.{has_bad_keys}
use Rattle.name_rules.specs.Faults.{faults_at}
use Rattle.key_rules.proofs.key_places.note_keys.Given as goal

abbrev pub invariant-loop-file : goal.invariant-loop-file
invariant-loop-file l =
    (front : Front) → AreDescriptions front (items_of l.table) l.known
    → l.faults.found.items ≡ l.initial.faults.found.items ++ faults_at 7 (map (λ file. file.line) (filter (has_bad_keys front (items_of l.table)) (take l.file-index l.files)))
