-- The files that the code knows, as the definitions see them.
use Rattle.std.specs.Prelude.{◌≡◌, ℕ, Bool, false, List, map, Option, Some, option_map, option_to_list, slice_get}
use Rattle.std.specs.List.{All, list_any, filter_map}
use Rattle.std.specs.Ordering.{nat_cmp}
use Rattle.std.specs.BTreeSet.{BTreeSet, contains}
use Rattle.cob_base.specs.declared.file_entries.FileEntry.{FileEntry}
use Rattle.cob_base.specs.declared.file_entries.FileClause.{FileClause}
use Rattle.cob_base.specs.declared.file_entries.FileClause.TheVariants as f
use Rattle.data_names.specs.Items.{DataItem}
use Rattle.data_names.specs.Spots.{Spot, spots}
use Rattle.data_names.specs.References.{found}
use Rattle.name_rules.specs.Mentions.{keys_of}
use Rattle.procedure_rules.specs.Keys.{same_item}
use Rattle.procedure_rules.specs.Reading.{access_of, has_lock_mode}
use Rattle.procedure_rules.specs.declared.known_files.KnownFile.{KnownFile}

-- a number is among these
abbrev pub has_number : BTreeSet ℕ → ℕ → Bool
has_number numbers number = contains nat_cmp numbers number

-- a clause with ALTERNATE KEY that names the item
abbrev pub is_alternate : List DataItem → Spot DataItem → FileClause → Bool
is_alternate items spot (f.AlternateKey key duplicates) = list_any (same_item spot) (option_to_list (found items key))
is_alternate items spot _ = false

-- What is known of a file is what its clauses say: its access, whether LOCK MODE is written, and of each item whether it is a key.
pub record IsKnownFile (items : List DataItem) (known : KnownFile) : Type 0 where
  pub access : known.access ≡ access_of known.entry.now
  pub lock : known.has_lock_mode ≡ has_lock_mode known.entry.now
  pub keys : (number : ℕ) (spot : Spot DataItem) → slice_get (spots items) number ≡ Some spot
      → has_number known.keys number ≡ list_any (same_item spot) (filter_map (found items) (keys_of known.entry.now))

-- the control entry of a file that is known
abbrev pub seen_file : Option KnownFile → Option FileEntry
seen_file known = option_map (λ file. file.entry.now) known

-- these are the files of these control entries, in their order
pub record AreKnownFiles (items : List DataItem) (entries : List FileEntry) (known : List KnownFile) : Type 0 where
  pub listed : map (λ file. file.entry.now) known ≡ entries
  pub each : All (IsKnownFile items) known
