-- The keys still to come decide.
use Rattle.std.proofs.Common.{◌≡◌, drop, map, Bor}
use Rattle.std.specs.List.{list_any}
use Rattle.cob_base.specs.declared.operands.Reference.{Reference}
use Rattle.data_names.specs.References.{found}
use Rattle.data_names.specs.Table.{items_of}
use Rattle.key_rules.specs.KeyPlaces.{is_no_key}
use Rattle.key_rules.proofs.key_places.has_no_key.Given as goal

abbrev pub invariant-loop-key : goal.invariant-loop-key
invariant-loop-key l =
    list_any (λ key. is_no_key l.description (found (items_of l.table) key)) (map (λ (key : Bor Reference). key.now) (drop l.key-index l.keys))
    ≡ list_any (λ key. is_no_key l.description (found (items_of l.table) key)) (map (λ (key : Bor Reference). key.now) l.keys)
