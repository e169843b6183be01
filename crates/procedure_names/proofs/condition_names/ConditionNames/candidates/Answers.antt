use Rattle.std.proofs.Common.{◌≡◌, ◌∙◌, ◌<◌, sym, ap, subst, true, inl, inr, ℕ, List, Some, length, get_or}
use Rattle.data_names.specs.Asked.{is_asked}
use Rattle.data_names.specs.Names.{in_small, pair_key, numbers_under}
use Rattle.data_names.specs.Pairs.{IsUnder}
use Rattle.procedure_names.specs.ConditionNames.{IsCover}
use Rattle.procedure_names.proofs.NamesOf.{named_cover, paired_cover}
use Rattle.procedure_names.proofs.condition_names.ConditionNames.candidates.Goals as goal

pub returns-then-not-asked : goal.returns-then-not-asked
returns-then-not-asked c = λ all known.
    let reference = c.args.reference.now in
    named_cover all reference c.in_ok-best.best.now
    (c.in_ok-best.ensures ∙ ap (λ (name : List ℕ). numbers_under c.args.self.now.names (in_small name)) c.as_bytes.ensures ∙ known.by_name (in_small reference.name))

pub loop-qualifier-init : goal.loop-qualifier-init
loop-qualifier-init c = λ all known.
    let reference = c.args.reference.now in
    named_cover all reference c.in_ok-best.best.now
    (c.in_ok-best.ensures ∙ ap (λ (name : List ℕ). numbers_under c.args.self.now.names (in_small name)) c.as_bytes.ensures ∙ known.by_name (in_small reference.name))

pub loop-qualifier-preserved : goal.loop-qualifier-preserved
loop-qualifier-preserved c = λ all known.
    let pairs = c.args.self.now.pairs in
    let reference = c.args.reference.now in
    let name = reference.name in
    let at = c.loop-qualifier.qualifier-index in
    let one = c.qualifier-item.result in
    let best = c.fewest-best.result.now in
    let listed : c.as_slice-qualifier-items.result.now ≡ reference.qualifiers = c.as_slice-qualifier-items.ensures in
    let within : at < length reference.qualifiers = subst (λ (names : List (List ℕ)). at < length names) listed c.loop-qualifier-test.true in
    let here : one ≡ get_or reference.qualifiers at one = c.qualifier-item.is ∙ ap (λ (names : List (List ℕ)). get_or names at one) listed in
    let called : is_asked pairs.asked (in_small name) ≡ true = ap (λ (other : List ℕ). is_asked pairs.asked (in_small other)) (sym c.as_bytes-2.ensures) ∙ sym c.in_ok-asked.ensures ∙ c.if-not-asked.false in
    elim c.fewest-best.ensures.one as (λ _. IsCover all reference best) [
      | inl same ↦ subst (λ (numbers : List ℕ). IsCover all reference numbers) (sym same) (c.loop-qualifier.invariant all known)
      | inr found ↦
          let key : pair_key c.as_bytes-in-loop-qualifier.result.now c.as_bytes-in-loop-qualifier-2.result.now ≡ pair_key name (get_or reference.qualifiers at one) =
          ap (λ (other : List ℕ). pair_key other c.as_bytes-in-loop-qualifier-2.result.now) c.as_bytes-in-loop-qualifier.ensures ∙ ap (pair_key name) (c.as_bytes-in-loop-qualifier-2.ensures ∙ here) in
          let under : IsUnder pairs (pair_key name (get_or reference.qualifiers at one)) (Some best) = subst (λ (other : List ℕ). IsUnder pairs other (Some best)) key (rw found at c.in_ok-numbers.ensures) in
          paired_cover all pairs.asked reference at one best within called under.0 (under.1 ∙ known.by_pair (pair_key name (get_or reference.qualifiers at one)))
    ]
