-- Reason 7: a KEY phrase that names no key of its file.
use Rattle.std.specs.Prelude.{ℕ, ◌==◌, Bool, false, not, List, [], ◌∷◌, Option, Some, None, option_to_list}
use Rattle.std.specs.List.{list_any, filter_map}
use Rattle.cob_base.specs.declared.divisions.Front.{Front}
use Rattle.cob_base.specs.declared.operands.Reference.{Reference}
use Rattle.cob_base.specs.declared.file_entries.FileEntry.{FileEntry}
use Rattle.cob_base.specs.declared.statements.Statement.{Statement}
use Rattle.cob_base.specs.declared.statements.Statement.TheVariants as s
use Rattle.data_names.specs.Items.{DataItem}
use Rattle.data_names.specs.Spots.{Spot}
use Rattle.data_names.specs.References.{found}
use Rattle.name_rules.specs.Mentions.{keys_of}
use Rattle.statement_parts.specs.References.{items_of_place}
use Rattle.procedure_names.specs.Names.{file_named}

-- a file and an item that a KEY phrase names
pub record KeyPhrase : Type 0 where
  pub file : List ℕ
  pub key : Reference

abbrev pub phrases_with : List ℕ → List Reference → List KeyPhrase
phrases_with file [] = []
phrases_with file (key ∷ others) = record { file = file; key = key } ∷ phrases_with file others

-- the KEY phrase of READ or START
abbrev pub key_phrases : Statement → List KeyPhrase
key_phrases (s.Read' file direction into locking lock key end not_end invalid not_invalid) = phrases_with file (option_to_list key)
key_phrases (s.Start' file place invalid not_invalid) = phrases_with file (items_of_place place)
key_phrases _ = []

abbrev pub same_item : Spot DataItem → Spot DataItem → Bool
same_item spot other = spot.item.row.number == other.item.row.number

abbrev pub is_no_key_of : List DataItem → Option FileEntry → Option (Spot DataItem) → Bool
is_no_key_of items None spot = false
is_no_key_of items (Some file) None = false
is_no_key_of items (Some file) (Some spot) = not (list_any (same_item spot) (filter_map (found items) (keys_of file)))

-- the item is none that a key clause of the file names
abbrev pub names_no_key : Front → List DataItem → KeyPhrase → Bool
names_no_key front items phrase = is_no_key_of items (file_named front phrase.file) (found items phrase.key)

abbrev pub has_bad_key : Front → List DataItem → Statement → Bool
has_bad_key front items statement = list_any (names_no_key front items) (key_phrases statement)
