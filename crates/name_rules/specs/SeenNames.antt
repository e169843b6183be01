-- The names that the code holds, as the definitions see them.
use Rattle.std.specs.Prelude.{◌≡◌, ℕ, Bool, true, false, if◌then◌else◌, List, [], Option, Some, None}
use Rattle.std.specs.List.{list_any}
use Rattle.std.specs.Ordering.{nat_cmp}
use Rattle.std.specs.Cmp.Lexicographic.{slice_cmp}
use Rattle.std.specs.Str.{bytes_eq}
use Rattle.std.specs.BTreeMap.{get_by}
use Rattle.cob_base.specs.declared.line.Line.{Line}
use Rattle.cob_base.specs.declared.file_entries.FileEntry.{FileEntry}
use Rattle.cob_base.specs.declared.data_entries.DataEntry.{DataEntry}
use Rattle.cob_base.specs.declared.data_entries.DataEntry.TheVariants.{Item, Condition}
use Rattle.data_names.specs.Names.{in_small}
use Rattle.name_rules.specs.declared.declared.NameClass.TheVariants as c
use Rattle.name_rules.specs.declared.declared.NameClass as code
use Rattle.name_rules.specs.declared.declared.DeclaredName.{DeclaredName}
use Rattle.name_rules.specs.declared.double_names.KnownNames.{KnownNames}
use Rattle.name_rules.specs.DoubleNames.{NameClass, control_entry, description, data_item, screen, Declared, declared_item}

-- ---- declared names

abbrev pub seen_class : code.NameClass → NameClass
seen_class c.ControlEntry = control_entry
seen_class c.Description = description
seen_class c.DataItem = data_item
seen_class c.Screen = screen

abbrev pub named_as : Line → List ℕ → NameClass → Declared
named_as line name class = record { line = line; name = name; class = class }

abbrev pub seen_declared : DeclaredName → Declared
seen_declared one = named_as one.line one.name.now (seen_class one.class)

abbrev pub declared_entry : DataEntry → List Declared
declared_entry (Item entry) = declared_item entry
declared_entry (Condition entry) = []

abbrev pub declared_control : FileEntry → Declared
declared_control file = named_as file.line file.name control_entry

-- ---- what is known of the names so far

-- the name is this one in small letters
abbrev pub is_named : List ℕ → Declared → Bool
is_named key one = bytes_eq (in_small one.name) key

abbrev pub is_control : NameClass → Bool
is_control control_entry = true
is_control description = false
is_control data_item = false
is_control screen = false

-- it is declared by more than a file control entry
abbrev pub is_named_besides : List ℕ → Declared → Bool
is_named_besides key one = if is_control one.class then false else is_named key one

-- whether a name in small letters is among these; then, whether one of them is no file control entry
abbrev pub state_of : List ℕ → List Declared → Option Bool
state_of key names = if list_any (is_named key) names then Some (list_any (is_named_besides key) names) else None

abbrev pub state_under : KnownNames → List ℕ → Option Bool
state_under known key = get_by (λ other. slice_cmp nat_cmp key other.items) known.names

abbrev pub AreKnownNames : List Declared → KnownNames → Type 0
AreKnownNames names known = (key : List ℕ) → state_under known key ≡ state_of key names

-- whether a name of this class clashes with what is known of it
abbrev pub clashes_with : Option Bool → NameClass → Bool
clashes_with None class = false
clashes_with (Some others) control_entry = true
clashes_with (Some others) description = others
clashes_with (Some others) data_item = true
clashes_with (Some others) screen = true

-- whether it stands for more than a file control entry with this class
abbrev pub besides : Option Bool → NameClass → Bool
besides None control_entry = false
besides None description = true
besides None data_item = true
besides None screen = true
besides (Some others) control_entry = others
besides (Some others) description = true
besides (Some others) data_item = true
besides (Some others) screen = true
