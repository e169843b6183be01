-- The places so far and those to come.
use Rattle.std.proofs.Common.{◌≡◌, ◌++◌, drop, map, Bor}
use Rattle.std.specs.List.{filter_map}
use Rattle.cob_base.specs.declared.operands.Reference.{Reference}
use Rattle.data_names.specs.References.{found}
use Rattle.data_names.specs.Table.{items_of}
use Rattle.key_rules.specs.SeenKeys.{span_of_key}
use Rattle.key_rules.proofs.key_places.spans_of.Given as goal

abbrev pub invariant-loop-key : goal.invariant-loop-key
invariant-loop-key l =
    l.spans.items ++ filter_map (λ key. span_of_key l.description l.unsized_at (found (items_of l.table) key)) (map (λ (key : Bor Reference). key.now) (drop l.key-index l.keys))
    ≡ filter_map (λ key. span_of_key l.description l.unsized_at (found (items_of l.table) key)) (map (λ (key : Bor Reference). key.now) l.keys)
