-- The parts of a front that conditions speak of: its file control entries, its descriptions of files, the entries of its items
-- and screens, and the clause CRT STATUS.
use Rattle.std.specs.Prelude.{ℕ, List, [], ◌∷◌, Option, Some, None, option_to_list}
use Rattle.cob_base.specs.declared.divisions.Front.{Front}
use Rattle.cob_base.specs.declared.divisions.Environment.{Environment}
use Rattle.cob_base.specs.declared.divisions.Configuration.{Configuration}
use Rattle.cob_base.specs.declared.divisions.SpecialNames.{SpecialNames}
use Rattle.cob_base.specs.declared.divisions.CrtStatus.{CrtStatus}
use Rattle.cob_base.specs.declared.divisions.InputOutput.{InputOutput}
use Rattle.cob_base.specs.declared.divisions.DataDivision.{DataDivision}
use Rattle.cob_base.specs.declared.divisions.FileDescription.{FileDescription}
use Rattle.cob_base.specs.declared.file_entries.FileEntry.{FileEntry}
use Rattle.cob_base.specs.declared.data_entries.DataEntry.{DataEntry}
use Rattle.cob_base.specs.declared.data_entries.DataEntry.TheVariants.{Item, Condition}
use Rattle.cob_base.specs.declared.data_entries.ItemEntry.{ItemEntry}
use Rattle.cob_base.specs.declared.screen_entries.ScreenEntry.{ScreenEntry}
use Rattle.data_layout.specs.Rows.{or_none}

-- ---- the environment division

abbrev pub files_of_section : Option InputOutput → List FileEntry
files_of_section None = []
files_of_section (Some section) = or_none section.file_control

abbrev pub files_of_environment : Option Environment → List FileEntry
files_of_environment None = []
files_of_environment (Some environment) = files_of_section environment.input_output

-- the file control entries
abbrev pub files : Front → List FileEntry
files front = files_of_environment front.environment

abbrev pub crt_of_names : Option SpecialNames → List CrtStatus
crt_of_names None = []
crt_of_names (Some names) = option_to_list names.crt_status

abbrev pub crt_of_configuration : Option Configuration → List CrtStatus
crt_of_configuration None = []
crt_of_configuration (Some configuration) = crt_of_names configuration.special_names

abbrev pub crt_of_environment : Option Environment → List CrtStatus
crt_of_environment None = []
crt_of_environment (Some environment) = crt_of_configuration environment.configuration

-- the clause CRT STATUS, where there is one
abbrev pub crt_status : Front → List CrtStatus
crt_status front = crt_of_environment front.environment

-- ---- the data division

abbrev pub descriptions_of : Option DataDivision → List FileDescription
descriptions_of None = []
descriptions_of (Some division) = or_none division.files

-- the descriptions of files
abbrev pub descriptions : Front → List FileDescription
descriptions front = descriptions_of front.data

abbrev pub working_storage_of : Option DataDivision → List DataEntry
working_storage_of None = []
working_storage_of (Some division) = or_none division.working_storage

-- the entries of working storage
abbrev pub working_storage : Front → List DataEntry
working_storage front = working_storage_of front.data

abbrev pub screens_of : Option DataDivision → List ScreenEntry
screens_of None = []
screens_of (Some division) = or_none division.screens

-- the entries of screens
abbrev pub screen_entries : Front → List ScreenEntry
screen_entries front = screens_of front.data

-- ---- the entries of items

-- those that are no 88 entries
abbrev pub item_entries : List DataEntry → List ItemEntry
item_entries [] = []
item_entries (Item entry ∷ rest) = entry ∷ item_entries rest
item_entries (Condition entry ∷ rest) = item_entries rest

-- an item's entry, and where it stands: under the file description of this number, counted from 0, or in working storage
pub record Source : Type 0 where
  pub file : Option ℕ
  pub entry : ItemEntry
