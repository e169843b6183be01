use Rattle.std.proofs.Common.{◌≡◌, ◌∙◌, sym, ap, subst, true, inl, inr, ℕ, List, Some, get_or}
use Rattle.data_names.specs.Asked.{is_asked}
use Rattle.data_names.specs.Names.{in_small, pair_key, numbers_under}
use Rattle.data_names.specs.Pairs.{IsCover, IsUnder}
use Rattle.data_names.specs.Table.{items_of}
use Rattle.data_names.proofs.Choices.{named_cover, paired_cover}
use Rattle.data_names.proofs.table.Table.candidates.Goals as goal

pub returns-then-not-asked : goal.returns-then-not-asked
returns-then-not-asked c =
    named_cover (items_of c.args.self.now) c.args.name.now c.args.qualifiers.now c.in_ok-best.best.now
    (c.in_ok-best.ensures ∙ ap (λ (name : List ℕ). numbers_under c.args.self.now.names.now (in_small name)) c.as_bytes.ensures ∙ c.requires.names (in_small c.args.name.now))

pub loop-qualifier-init : goal.loop-qualifier-init
loop-qualifier-init c =
    named_cover (items_of c.args.self.now) c.args.name.now c.args.qualifiers.now c.in_ok-best.best.now
    (c.in_ok-best.ensures ∙ ap (λ (name : List ℕ). numbers_under c.args.self.now.names.now (in_small name)) c.as_bytes.ensures ∙ c.requires.names (in_small c.args.name.now))

pub loop-qualifier-preserved : goal.loop-qualifier-preserved
loop-qualifier-preserved c =
    let items = items_of c.args.self.now in
    let pairs = c.args.self.now.pairs.now in
    let name = c.args.name.now in
    let qualifiers = c.args.qualifiers.now in
    let at = c.loop-qualifier.qualifier-index in
    let one = c.qualifier-item.result in
    let best = c.fewest-best.result.now in
    let called : is_asked pairs.asked (in_small name) ≡ true = ap (λ (other : List ℕ). is_asked pairs.asked (in_small other)) (sym c.as_bytes-2.ensures) ∙ sym c.in_ok-asked.ensures ∙ c.if-not-asked.false in
    elim c.fewest-best.ensures.one as (λ _. IsCover items name qualifiers best) [
      | inl same ↦ subst (λ (numbers : List ℕ). IsCover items name qualifiers numbers) (sym same) c.loop-qualifier.invariant
      | inr found ↦
          let key : pair_key c.as_bytes-in-loop-qualifier.result.now c.as_bytes-in-loop-qualifier-2.result.now ≡ pair_key name (get_or qualifiers at one) =
          ap (λ (other : List ℕ). pair_key other c.as_bytes-in-loop-qualifier-2.result.now) c.as_bytes-in-loop-qualifier.ensures ∙ ap (pair_key name) (c.as_bytes-in-loop-qualifier-2.ensures ∙ c.qualifier-item.is) in
          let under : IsUnder pairs (pair_key name (get_or qualifiers at one)) (Some best) = subst (λ (other : List ℕ). IsUnder pairs other (Some best)) key (rw found at c.in_ok-numbers.ensures) in
          paired_cover items pairs.asked name qualifiers at one best c.loop-qualifier-test.true called under.0 (under.1 ∙ c.requires.pairs (pair_key name (get_or qualifiers at one)))
    ]
