-- The numbers with the groups so far.
use Rattle.std.proofs.Common.{◌≡◌, ◌&&◌, ◌++◌, ◌∷◌, [], ℕ, List, false, take, map}
use Rattle.std.specs.Prelude.{if◌then◌else◌}
use Rattle.std.specs.List.{list_any}
use Rattle.data_names.specs.Asked.{is_asked}
use Rattle.data_names.specs.Names.{numbers_under, ends_with}
use Rattle.data_names.specs.Pairs.{is_pair}
use Rattle.data_names.specs.Seen.{seen_name}
use Rattle.data_names.proofs.pairs.put_in_groups.Given as goal

abbrev pub invariant-loop-group : goal.invariant-loop-group
invariant-loop-group l = ((key : List ℕ) → ends_with l.at (numbers_under l.fn.numbers key) ≡ false)
    → (key : List ℕ) → numbers_under l.numbers key
    ≡ (if list_any (is_pair key l.name) (map seen_name (take l.group-index l.groups)) && is_asked l.asked key then numbers_under l.fn.numbers key ++ l.at ∷ [] else numbers_under l.fn.numbers key)
