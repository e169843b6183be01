-- What the code knows of a program's names, as the definitions see it.
use Rattle.std.specs.Prelude.{ℕ, ◌==◌, ◌&&◌, if◌then◌else◌, List, map, Option, Some, None}
use Rattle.cob_base.specs.declared.divisions.Front.{Front}
use Rattle.cob_base.specs.declared.screen_entries.ScreenEntry.{ScreenEntry}
use Rattle.data_names.specs.Parts.{files, screen_entries}
use Rattle.data_names.specs.Items.{DataItem, AreDataItems}
use Rattle.data_names.specs.Table.{IsTable, items_of}
use Rattle.key_rules.specs.Descriptions.{AreDescriptions}
use Rattle.procedure_names.specs.declared.scope.Scope.{Scope}
use Rattle.procedure_names.specs.Firsts.{AreFirsts}
use Rattle.procedure_names.specs.SeenConditions.{AreConditions}

-- ---- names

-- the name under which a record is known: that of an item of level 01 under a file description
abbrev pub name_of_record : DataItem → Option (List ℕ)
name_of_record item = if item.row.in_file && (item.row.level == 1) then item.text.name else None

-- the name under which a screen is known: that of an entry of level 01
abbrev pub name_of_screen : ScreenEntry → Option (List ℕ)
name_of_screen entry = if entry.level == 1 then entry.name else None

abbrev pub front_in : Scope → Front
front_in scope = scope.program.now.front

abbrev pub items_in : Scope → List DataItem
items_in scope = items_of scope.table.now

-- what a scope says is so of its program
pub record IsScope (scope : Scope) : Type 0 where
  pub table : IsTable scope.table.now
  pub items : AreDataItems (front_in scope) (items_in scope)
  pub descriptions : AreDescriptions (front_in scope) (items_in scope) scope.descriptions.now
  pub conditions : AreConditions (front_in scope) (items_in scope) scope.conditions
  pub files : AreFirsts (map (λ file. Some file.name) (files (front_in scope))) scope.files
  pub records : AreFirsts (map name_of_record (items_in scope)) scope.records
  pub screens : AreFirsts (map name_of_screen (screen_entries (front_in scope))) scope.screens
  pub paragraphs : AreFirsts (map (λ paragraph. paragraph.name) scope.program.now.paragraphs) scope.paragraphs
