use Rattle.std.proofs.Common.{◌≡◌, sym}
use Rattle.std.proofs.Common.{◌≤◌, ◌+◌, ◌∙◌, List, [], ap, subst, refl, arith, take, length}
use Rattle.std.proofs.lemmas.Slice.{between_to_end}
use Rattle.data_layout.specs.declared.row.Described.{Described}
use Rattle.std.proofs.Common.{ℕ}
use Rattle.std.specs.Prelude.{All}
use Rattle.data_layout.specs.Layout.{IsInside}
use Rattle.data_layout.specs.Storage.{storage}
use Rattle.data_layout.proofs.PlacedRows.{SoFar, so_first, some_left, keeps_limit, can_place, placed_more, placed_all, total_is}
use Rattle.data_layout.proofs.Occurrences.{tables_apart, each_inside}
use Rattle.data_layout.proofs.placing.place.Goals as goal

pub loop-at-init : goal.loop-at-init
loop-at-init c = (
  so_first c.args.rows.now c.args.texts.items _ c.new.result c.new-items.result c.into_iter-texts.ensures.rest c.new-items.ensures c.new.ensures c.requires.faultless c.requires.matched,
  omega (arith, c.into_iter-texts.ensures.len, c.args.texts.ok, ap length c.into_iter-texts.ensures.rest),
)

pub unwrap-text-requires : goal.unwrap-text-requires
unwrap-text-requires c =
    let some = some_left c.args.rows.now c.loop-at.at _ c.loop-at-test.true c.loop-at.invariant.0.matched in
    c.next.ensures.variant.1 (omega (arith, some, c.loop-at.invariant.1))

pub loop-at-preserved : goal.loop-at-preserved
loop-at-preserved c =
    let few : storage c.args.rows.now ≤ 1000000 = keeps_limit [] c.args.rows.now (omega arith) refl c.requires.faultless in
    let step = rw c.unwrap-text.ensures at c.next.ensures.cases in
    let so = subst (λ (left : List Described). SoFar c.args.rows.now c.args.texts.items left c.loop-at.at c.loop-at.placing c.loop-at.items) step.0 c.loop-at.invariant.0 in
    let rest = between_to_end c.args.rows.now (c.loop-at.at + 1) (length c.args.rows.now) (omega arith) in
    let made = c.in_ok-item.ensures (take c.loop-at.at c.args.rows.now) so.placing_is (can_place c.args.rows.now c.loop-at.at _ _ c.unwrap-text.result _ c.loop-at-test.true rest few so.faultless so.matched) in (
      rw c.in_ok-push.ensures.ok (placed_more c.args.rows.now c.args.texts.items c.loop-at.at _ _ c.unwrap-text.result _ c.loop-at.placing c.place.new.self c.loop-at.items c.in_ok-item.item c.loop-at-test.true rest so made),
      omega (arith, step.1, c.loop-at.invariant.1, ap length step.0),
    )

pub returns : goal.returns
returns c =
    let few : storage c.args.rows.now ≤ 1000000 = keeps_limit [] c.args.rows.now (omega arith) refl c.requires.faultless in
    let total = total_is c.args.rows.now c.loop-at.at c.loop-at.placing c.loop-at-test.false c.loop-at.invariant.0.placing_is few in
    let narrowed : c.narrow.result ≡ storage c.args.rows.now = c.narrow.ensures (omega (arith, total, few)) ∙ total in
    let placed = placed_all c.args.rows.now c.args.texts.items _ c.loop-at.at c.loop-at.placing c.loop-at.items c.loop-at-test.false c.loop-at.invariant.0 in
    record {
      items = placed;
      total = narrowed;
      inside = subst (λ (n : ℕ). All (IsInside n) c.loop-at.items) (sym narrowed) c.loop-at.invariant.0.inside;
      apart = tables_apart c.args.rows.now c.args.texts.items (record { items = c.loop-at.items; total = c.narrow.result }) placed c.requires.numbered c.requires.faultless;
      each = each_inside c.args.rows.now c.args.texts.items _ placed c.requires.numbered c.requires.faultless narrowed;
    }
