-- Members of groups that are noted one after another.
use Rattle.std.proofs.Common.{◌≡◌, ◌∙◌, refl, sym, ap, subst, ℕ, ◌+◌, ◌<◌, ◌≤◌, ◌==◌, ◌||◌, ◌&&◌, not, Bool, true, false, List, [], ◌∷◌, ◌++◌, append-nil, map, length, take, get_or, Option, Some, None}
use Rattle.std.specs.List.{list_any}
use Rattle.std.specs.Str.{bytes_eq}
use Rattle.std.proofs.lemmas.List.{take_more, take_all}
use Rattle.std.proofs.lemmas.List.Folds.{list_any-append}
use Rattle.cob_base.specs.declared.line.Line.{Line}
use Rattle.data_names.specs.Names.{in_small, is_under}
use Rattle.data_names.specs.References.{is_called}
use Rattle.data_names.specs.Spots.{spots, spot_of}
use Rattle.name_rules.specs.declared.fault.Fault.{Fault}
use Rattle.name_rules.specs.declared.members.Members.{Members}
use Rattle.name_rules.specs.DoubleNames.{Named, later_members, same_group}
use Rattle.name_rules.specs.SeenMembers.{Member, member_of, are_twins, is_member, has_member, AreMembers}
use Rattle.name_rules.specs.Faults.{faults_at, fault_where}
use Rattle.name_rules.proofs.Later.{tested_after, tested_more, is_twin, later_members_are, members_push}
use Rattle.name_rules.proofs.Clashes.{any_same}

or_none : (b : Bool) → (b || false) ≡ b
or_none true = refl
or_none false = refl

and_none : (b : Bool) → (b && false) ≡ false
and_none true = refl
and_none false = refl

-- the members of a list with one more, which is told by a test
more_members : (before : List Member) (one : Member) (old new : Members) → ((number : ℕ) (key : List ℕ) → has_member new number key ≡ (has_member old number key || is_member number key one)) → AreMembers before old
    → AreMembers (before ++ one ∷ []) new
more_members before one old new more h = λ number key.
    more number key ∙ ap (λ b. b || is_member number key one) (h number key)
    ∙ sym (list_any-append (is_member number key) before (one ∷ []) ∙ ap (λ b. list_any (is_member number key) before || b) (or_none (is_member number key one)))

none_alike : (before : List Member) (one : Member) → ((other : Member) → are_twins one other ≡ false) → list_any (are_twins one) before ≡ false
none_alike [] one h = refl
none_alike (first ∷ before) one h = ap (λ b. b || list_any (are_twins one) before) (h first) ∙ none_alike before one h

-- what is noted of one more entry
pub record Notes (before : List Member) (one : Member) (set : Members) (old new : List Fault) : Type 0 where
  pub found : new ≡ old ++ fault_where (list_any (are_twins one) before) 3 one.line
  pub members : AreMembers (before ++ one ∷ []) set

nothing : (before : List Member) (one : Member) (set : Members) (old : List Fault) → ((other : Member) → are_twins one other ≡ false) → ((number : ℕ) (key : List ℕ) → is_member number key one ≡ false) → AreMembers before set
    → Notes before one set old old
nothing before one set old alone none h = record {
  found = sym (ap (λ b. old ++ fault_where b 3 one.line) (none_alike before one alone) ∙ append-nil old);
  members = more_members before one set set (λ number key. sym (ap (λ b. has_member set number key || b) (none number key) ∙ or_none (has_member set number key))) h;
}

-- an entry in no group
pub outside_groups : (before : List Member) (line : Line) (group : Option ℕ) (name : Option (List ℕ)) (set : Members) (old : List Fault) → group ≡ None → AreMembers before set
    → Notes before (record { line = line; group = group; name = name }) set old old
outside_groups before line group name set old e h =
    subst (λ some. Notes before (record { line = line; group = some; name = name }) set old old) (sym e) (nothing before (record { line = line; group = None; name = name }) set old (λ other. refl) (λ number key. refl) h)

-- an entry without a name
pub nameless : (before : List Member) (line : Line) (group : Option ℕ) (name : Option (List ℕ)) (set : Members) (old : List Fault) → name ≡ None → AreMembers before set
    → Notes before (record { line = line; group = group; name = name }) set old old
nameless before line group name set old e h =
    subst (λ some. Notes before (record { line = line; group = group; name = some }) set old old) (sym e)
    (nothing before (record { line = line; group = group; name = None }) set old (λ other. and_none (same_group group other.group)) (λ number key. and_none (same_group (Some number) group)) h)

alike : (b : Bool) (name : List ℕ) (o : Option (List ℕ)) → (b && is_called name o) ≡ (b && is_under (in_small name) o)
alike b name None = refl
alike b name (Some other) = refl

not_not : (b : Bool) → not (not b) ≡ b
not_not true = refl
not_not false = refl

-- an entry with a name, in a group
pub named : (before : List Member) (line : Line) (group : ℕ) (name : List ℕ) (set now : Members) (is_new : Bool) (old new : List Fault) → is_new ≡ not (has_member set group (in_small name))
    → ((number : ℕ) (key : List ℕ) → has_member now number key ≡ (has_member set number key || ((number == group) && bytes_eq (in_small name) key)))
    → new ≡ old ++ fault_where (not is_new) 3 line → AreMembers before set
    → Notes before (record { line = line; group = Some group; name = Some name }) now old new
named before line group name set now is_new old new e more f h =
    let one : Member = record { line = line; group = Some group; name = Some name } in
    record {
      found = f
          ∙ ap (λ b. old ++ fault_where b 3 line)
          (ap not e ∙ not_not (has_member set group (in_small name)) ∙ h group (in_small name)
          ∙ any_same (is_member group (in_small name)) (are_twins one) before (λ other. sym (alike (same_group (Some group) other.group) name other.name)));
      members = more_members before one set now more h;
    }

-- ---- in a loop

-- the faults of the entries so far, and their members
pub record Twins (entries : List Named) (at : ℕ) (set : Members) (old new : List Fault) : Type 0 where
  pub members : AreMembers (map member_of (spots (take at entries))) set
  pub found : new ≡ old ++ faults_at 3 (tested_after (λ one. one.row.line) is_twin [] (take at entries))

pub twins_none : (entries : List Named) (set : Members) (old : List Fault) → AreMembers [] set → Twins entries 0 set old old
twins_none entries set old h = record { members = h; found = sym (append-nil old) }

pub twins_more : (entries : List Named) (at : ℕ) (x : Named) (one : Member) (set now : Members) (old mid new : List Fault) → at < length entries → x ≡ get_or entries at x → one ≡ member_of (spot_of (take at entries) x [])
    → Twins entries at set old mid → Notes (map member_of (spots (take at entries))) one now mid new → Twins entries (at + 1) now old new
twins_more entries at x one set now old mid new h e o t n =
    let some = take at entries in
    let more : take (at + 1) entries ≡ some ++ x ∷ [] = take_more entries at x h ∙ ap (λ y. some ++ y ∷ []) (sym e) in
    let is : Notes (map member_of (spots some)) (member_of (spot_of some x [])) now mid new = subst (λ (m : Member). Notes (map member_of (spots some)) m now mid new) o n in
    record {
      members = subst (λ (all : List Member). AreMembers all now) (sym (ap (λ (all : List Named). map member_of (spots all)) more ∙ members_push some x)) is.members;
      found = tested_more 3 (λ (item : Named). item.row.line) is_twin entries at x _ old mid new h e refl t.found is.found;
    }

pub twins_all : (entries : List Named) (at : ℕ) (set : Members) (old new : List Fault) → length entries ≤ at → Twins entries at set old new → new ≡ old ++ faults_at 3 (later_members entries)
twins_all entries at set old new h t =
    t.found ∙ ap (λ (all : List Named). old ++ faults_at 3 (tested_after (λ (one : Named). one.row.line) is_twin [] all)) (take_all at entries h)
    ∙ ap (λ lines. old ++ faults_at 3 lines) (sym (later_members_are entries))
