-- The members of groups that the code holds.
use Rattle.std.specs.Prelude.{◌≡◌, ℕ, Bool, ◌&&◌, List, Option, Some}
use Rattle.std.specs.List.{list_any}
use Rattle.std.specs.Ordering.{nat_cmp, ordering_then}
use Rattle.std.specs.Cmp.Lexicographic.{slice_cmp}
use Rattle.std.specs.BTreeSet.{contains_by}
use Rattle.cob_base.specs.declared.line.Line.{Line}
use Rattle.data_names.specs.Names.{is_under}
use Rattle.data_names.specs.Spots.{Spot}
use Rattle.name_rules.specs.declared.members.Members.{Members}
use Rattle.name_rules.specs.DoubleNames.{Named, own_group, same_group, same_called}

-- an entry among others: the number of its group, and its name
pub record Member : Type 0 where
  pub line : Line
  pub group : Option ℕ
  pub name : Option (List ℕ)

abbrev pub member_of : Spot Named → Member
member_of spot = record { line = spot.item.row.line; group = own_group spot; name = spot.item.name }

-- both are members of one group, and share a name
abbrev pub are_twins : Member → Member → Bool
are_twins one other = same_group one.group other.group && same_called one.name other.name

-- a member of the group of this number, whose name is this one in small letters
abbrev pub is_member : ℕ → List ℕ → Member → Bool
is_member number key one = same_group (Some number) one.group && is_under key one.name

abbrev pub has_member : Members → ℕ → List ℕ → Bool
has_member members number key = contains_by (λ other. ordering_then (nat_cmp number other.0) (slice_cmp nat_cmp key other.1.items)) members.seen

-- the set has these members
abbrev pub AreMembers : List Member → Members → Type 0
AreMembers some members = (number : ℕ) (key : List ℕ) → has_member members number key ≡ list_any (is_member number key) some
