-- The numbers of 88 entries by their names, and by their names with each name that may qualify them, where that is asked for.
use Rattle.std.specs.Prelude.{◌≡◌, ℕ, Bool, true, ◌&&◌, if◌then◌else◌, List, [], ◌∷◌, ◌++◌, Some}
use Rattle.std.specs.List.{list_any, flat_map}
use Rattle.cob_base.specs.declared.operands.Reference.{Reference}
use Rattle.cob_base.specs.declared.paragraphs.Paragraph.{Paragraph}
use Rattle.data_names.specs.declared.asked.AskedPairs.{AskedPairs}
use Rattle.data_names.specs.declared.names.Names.{Names}
use Rattle.data_names.specs.Asked.{is_asked, any_asks, AreAskedBy}
use Rattle.data_names.specs.Names.{in_small, is_under, numbers_from, numbers_under}
use Rattle.data_names.specs.Pairs.{is_pair}
use Rattle.statement_parts.specs.References.{conditions_of}
use Rattle.statement_parts.specs.Statements.{statements}
use Rattle.procedure_names.specs.declared.condition_names.ConditionNames.{ConditionNames}
use Rattle.procedure_names.specs.Conditions.{NamedCondition, qualifying_names, is_condition_match}

abbrev pub has_name : List ℕ → NamedCondition → Bool
has_name key one = is_under key (Some one.entry.name)

-- the key is that of the 88 entry's name and of one of the names that may qualify it
abbrev pub has_pair : List ℕ → NamedCondition → Bool
has_pair key one = list_any (is_pair key one.entry.name) (qualifying_names one)

-- the 88 entry's name is asked for, and so is the key, which is that of its name and of a name that may qualify it
abbrev pub is_kept : AskedPairs → List ℕ → NamedCondition → Bool
is_kept asked key one = is_asked asked (in_small one.entry.name) && (has_pair key one && is_asked asked key)

-- the numbers of these 88 entries are under their names
abbrev pub AreNumbered : List NamedCondition → Names → Type 0
AreNumbered all names = (key : List ℕ) → numbers_under names key ≡ numbers_from 0 (has_name key) all

-- of these 88 entries those whose pairs are asked for have their numbers under the keys of the pairs
abbrev pub ArePaired : List NamedCondition → AskedPairs → Names → Type 0
ArePaired all asked numbers = (key : List ℕ) → numbers_under numbers key ≡ numbers_from 0 (is_kept asked key) all

pub record AreConditionNames (all : List NamedCondition) (known : ConditionNames) : Type 0 where
  pub by_name : AreNumbered all known.names
  pub by_pair : ArePaired all known.pairs.asked known.pairs.numbers

-- the references of these paragraphs to 88 entries
abbrev pub condition_references : List Paragraph → List Reference
condition_references paragraphs = flat_map (λ one. conditions_of one.item) (statements paragraphs)

-- the pairs that these references ask for are asked for, and no others
abbrev pub AreAskedIn : List Paragraph → ConditionNames → Type 0
AreAskedIn paragraphs known = AreAskedBy known.pairs.asked (any_asks known.names (condition_references paragraphs))

-- the number is under the keys of the 88 entry's pairs that are asked for, behind those that were there
abbrev pub IsPut : NamedCondition → AskedPairs → ℕ → Names → Names → Type 0
IsPut one asked number old new = (key : List ℕ) → numbers_under new key ≡ (if is_kept asked key one then numbers_under old key ++ number ∷ [] else numbers_under old key)

-- so it is where the 88 entry's name is asked for
abbrev pub IsPutWhereNamed : NamedCondition → AskedPairs → ℕ → Names → Names → Type 0
IsPutWhereNamed one asked number old new =
    (key : List ℕ) → numbers_under new key ≡ (if has_pair key one && is_asked asked key then numbers_under old key ++ number ∷ [] else numbers_under old key)

-- Among these numbers are those of all 88 entries that the reference matches.
pub record IsCover (all : List NamedCondition) (reference : Reference) (numbers : List ℕ) : Type 0 where
  pub test : NamedCondition → Bool
  pub numbers_are : numbers ≡ numbers_from 0 test all
  pub covers : (one : NamedCondition) → is_condition_match reference one ≡ true → test one ≡ true
