-- Which item a reference names.
use Rattle.std.specs.Prelude.{ℕ, zero, suc, ◌==◌, if◌then◌else◌, Bool, true, false, ◌&&◌, List, [], ◌∷◌, ◌++◌, length, Option, Some, None}
use Rattle.std.specs.Str.{str_eq_ignore_ascii_case}
use Rattle.std.specs.List.{list_all}
use Rattle.cob_base.specs.declared.operands.Reference.{Reference}
use Rattle.data_layout.specs.declared.layout.Item.{Item}
use Rattle.data_layout.specs.Occurrences.{around_item}

-- names are compared without regard to case
abbrev pub is_named : Option (List ℕ) → List ℕ → Bool
is_named None name = false
is_named (Some given) name = str_eq_ignore_ascii_case given name

-- The names stand among those of the groups in this order, from the inside out. Groups may be left out.
abbrev pub are_qualifiers : List (List ℕ) → List Item → Bool
are_qualifiers [] groups = true
are_qualifiers (name ∷ names) [] = false
are_qualifiers (name ∷ names) (group ∷ groups) = if is_named group.name name then are_qualifiers names groups else are_qualifiers (name ∷ names) groups

-- the reference with its qualifiers matches the item at the head of these, which its groups follow
abbrev pub matches : Reference → List Item → Bool
matches reference [] = false
matches reference (item ∷ groups) = is_named item.name reference.name && are_qualifiers reference.qualifiers groups

-- the numbers below a bound at which a test holds
abbrev pub numbers_where : (ℕ → Bool) → ℕ → List ℕ
numbers_where test zero = []
numbers_where test (suc n) = numbers_where test n ++ (if test n then n ∷ [] else [])

-- the numbers of all items that a reference matches
abbrev pub matched_by : List Item → Reference → List ℕ
matched_by items reference = numbers_where (λ number. matches reference (around_item items number)) (length items)

abbrev pub is_only : List ℕ → Option ℕ
is_only [] = None
is_only (number ∷ []) = Some number
is_only (number ∷ other ∷ more) = None

-- the one item that a reference matches
abbrev pub only_item : List Item → Reference → Option ℕ
only_item items reference = is_only (matched_by items reference)

-- neither the item nor a group around it has OCCURS
abbrev pub is_single : List Item → ℕ → Bool
is_single items number = list_all (λ item. item.occurs == 0) (around_item items number)
