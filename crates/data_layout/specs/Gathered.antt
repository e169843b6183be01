-- Rows that were gathered so far.
use Rattle.std.specs.Prelude.{◌≡◌, ℕ, ◌≤◌, Bool, true, List, ◌++◌, length, drop, Option}
use Rattle.cob_base.specs.declared.data_entries.DataEntry.{DataEntry}
use Rattle.picture_rule.specs.declared.kind.SignPlace.{SignPlace}
use Rattle.data_layout.specs.declared.row.Row.{Row}
use Rattle.data_layout.specs.declared.row.Described.{Described}
use Rattle.data_layout.specs.declared.reading.Reading.{Reading}
use Rattle.data_layout.specs.declared.reading.Gathered.{Gathered}
use Rattle.data_layout.specs.Rows.{IsRead, Section, AreRows, AreAllRows, strays}

-- what a text was read as
abbrev pub IsReading : Option (List ℕ) → SignPlace → Reading → Type 0
IsReading text place reading = IsRead text place reading.spelled reading.size reading.picture

-- the rows of these sections stand after the old ones
pub record Adds (all : List Section) (old new : Gathered) : Type 0 where
  pub more : List Row
  pub names : List Described
  pub read : AreAllRows (length old.rows.items) all more names
  pub rows : new.rows.items ≡ old.rows.items ++ more
  pub texts : new.texts.items ≡ old.texts.items ++ names
  pub strays_are : new.strays.items ≡ old.strays.items ++ strays all

-- The rows of the entries before `at` were added to the first ones: with the rows of the rest they are those of the section.
pub record Goes (in_file starts : Bool) (entries : List DataEntry) (at_entry : ℕ) (rows0 rows : List Row) (texts0 texts : List Described) : Type 0 where
  pub more : List Row
  pub names : List Described
  pub rows_are : rows ≡ rows0 ++ more
  pub texts_are : texts ≡ texts0 ++ names
  pub few : length more ≤ at_entry
  pub read : (r : List Row) (t : List Described) → AreRows in_file starts (length rows) (drop at_entry entries) r t → AreRows in_file true (length rows0) entries (more ++ r) (names ++ t)
