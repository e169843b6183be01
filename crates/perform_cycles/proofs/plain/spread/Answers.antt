use Rattle.std.proofs.Common.{◌≡◌, ◌↔◌, ◌+◌, ℕ, ◌<◌, [], ◌∷◌, List, Bool, length, subst, sym, arith, length-append}
use Rattle.std.specs.Prelude.{◌⊎◌}
use Rattle.perform_cycles.specs.Plain.{IsMarked, IsLedTo}
use Rattle.perform_cycles.proofs.Spreading.{push_marks}
use Rattle.perform_cycles.proofs.plain.spread.Goals as goal

pub loop-there-preserved : goal.loop-there-preserved
loop-there-preserved c =
    let P : ℕ → Type 0 = λ k. IsMarked c.args.marks.now k ⊎ IsLedTo c.args.arrows.now c.args.marks.now k in
    subst (λ (items : List Bool). (length items ≡ c.loop-there.there + 1) × ((k : ℕ) → k < c.loop-there.there + 1 → IsMarked items k ↔ P k)) (sym c.in_ok-push.ensures.items) (
      omega (arith, length-append c.loop-there.new.items (c.is_in_spread.result ∷ []), c.loop-there.invariant.0),
      push_marks P c.loop-there.new.items c.loop-there.there c.is_in_spread.result c.loop-there.invariant.0 c.loop-there.invariant.1 c.is_in_spread.ensures,
    )
