use Rattle.std.proofs.Common.{◌≡◌, subst, None}
use Rattle.data_names.specs.Items.{DataItem}
use Rattle.data_names.specs.Spots.{Spot}
use Rattle.data_names.specs.References.{found}
use Rattle.data_names.specs.Table.{items_of}
use Rattle.cobol_checker.specs.Sound.{IsPlaceIn}
use Rattle.cobol_checker.proofs.shapes.key_place.Goals as goal

pub place_at-requires-clause-within : goal.place_at-requires-clause-within
place_at-requires-clause-within c = let is = rw c.in-Some.is at c.in_ok-at.ensures in is.1

pub place_at-requires-clause-inside : goal.place_at-requires-clause-inside
place_at-requires-clause-inside c =
    let is = rw c.in-Some.is at c.in_ok-at.ensures in
    let inside = c.requires.inside in
    let same : inside.spot ≡ is.0 = cc (inside.found_is, is.3) in
    (is.0, is.2, subst (λ (spot : Spot DataItem). IsPlaceIn c.args.begins spot) same inside.inside)

pub unreachable-requires : goal.unreachable-requires
unreachable-requires c =
    let none : found (items_of c.args.table.now) c.args.key.now ≡ None = rw c.in-None.is at c.in_ok-at.ensures in
    cc (none, c.requires.inside.found_is)
