use Rattle.std.proofs.Common.{◌≡◌, ◌∙◌, sym, ap, Bool, ◌&&◌, [], length, arith}
use Rattle.data_names.specs.Spots.{Spot}
use Rattle.data_names.specs.Table.{items_of}
use Rattle.key_rules.specs.SeenKeys.{is_sized_before}
use Rattle.key_rules.proofs.SizedBefore.{before_long}
use Rattle.key_rules.proofs.key_places.has_place.Goals as goal

pub returns-then-is_sized_alone : goal.returns-then-is_sized_alone
returns-then-is_sized_alone c = λ spot h.
    let long : length (Spot.before spot) ≡ c.args.at = before_long [] (items_of c.args.table.now) c.args.at spot h ∙ omega arith in
    let alone = sym c.if-is_sized_alone.true ∙ c.is_sized_alone.ensures spot (c.facts_at.ensures spot h) in
    c.is_sized_before.ensures ∙ ap (is_sized_before c.args.unsized_at) (sym long) ∙ ap (λ (b : Bool). b && is_sized_before c.args.unsized_at (length (Spot.before spot))) alone
