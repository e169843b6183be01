use Rattle.std.proofs.Common.{◌≡◌, ◌∙◌, ◌+◌, ◌≤◌, refl, subst, arith}
use Rattle.data_layout.specs.Storage.{storage}
use Rattle.data_names.specs.Items.{DataItem}
use Rattle.data_names.specs.Spots.{Spot, rows_before, bytes_of}
use Rattle.cobol_checker.specs.Sound.{IsPlaceOf}
use Rattle.cobol_checker.proofs.Small.{small_count}
use Rattle.cobol_checker.proofs.shapes.place_at.Goals as goal

pub overflow_sub-facts : goal.overflow_sub-facts
overflow_sub-facts c =
    let s = c.requires.inside in
    let before = (c.facts_at-facts.ensures s.0 s.1).before ∙ small_count (storage (rows_before s.0)) s.2.small in
    omega (arith, before, s.2.low)

pub narrow-requires : goal.narrow-requires
narrow-requires c =
    let s = c.requires.inside in
    let before = (c.facts_at-facts.ensures s.0 s.1).before ∙ small_count (storage (rows_before s.0)) s.2.small in
    omega (arith, before, s.2.high)

pub narrow-requires-2 : goal.narrow-requires-2
narrow-requires-2 c =
    let s = c.requires.inside in
    let few : bytes_of s.0 ≤ 1000000 = omega (arith, s.2.few) in
    let bytes = (c.facts_at-facts.ensures s.0 s.1).bytes ∙ small_count (bytes_of s.0) few in
    omega (arith, bytes, s.2.few)

pub returns : goal.returns
returns c = λ spot e.
    let s = c.requires.inside in
    let facts = c.facts_at-facts.ensures s.0 s.1 in
    let before = facts.before ∙ small_count (storage (rows_before s.0)) s.2.small in
    let few : bytes_of s.0 ≤ 1000000 = omega (arith, s.2.few) in
    let bytes = facts.bytes ∙ small_count (bytes_of s.0) few in
    let same : s.0 ≡ spot = cc in
    let offset : c.args.begins + c.narrow.result ≡ storage (rows_before s.0) = omega (arith, before, s.2.low, c.narrow.ensures) in
    subst (λ (one : Spot DataItem). IsPlaceOf c.args.begins one c.args.duplicates (record { offset = c.narrow.result; length = c.narrow-2.result; duplicates = c.args.duplicates })) same (record {
      offset = offset;
      length_is = c.narrow-2.ensures ∙ bytes;
      duplicates_is = refl;
    })
