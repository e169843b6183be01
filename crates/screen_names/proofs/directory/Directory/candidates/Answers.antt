use Rattle.std.proofs.Common.{◌≡◌, ◌<◌, ◌∙◌, ap, sym, subst, true, inl, inr, ℕ, List, length, get_or, Some}
use Rattle.std.specs.Prelude.{filter}
use Rattle.data_layout.specs.declared.layout.Item.{Item}
use Rattle.data_layout.specs.Occurrences.{around_item}
use Rattle.data_names.specs.Asked.{is_asked}
use Rattle.data_names.specs.Names.{in_small, pair_key, numbers_under}
use Rattle.data_names.specs.Pairs.{IsUnder}
use Rattle.screen_names.specs.Names.{matches}
use Rattle.screen_names.specs.Directory.{AreCandidates}
use Rattle.screen_names.proofs.NamedItems.{matched_of_name}
use Rattle.screen_names.proofs.PairLists.{matched_of_pair}
use Rattle.screen_names.proofs.directory.Directory.candidates.Goals as goal

pub returns-then-not-asked : goal.returns-then-not-asked
returns-then-not-asked c = λ (items : List Item) known.
    let reference = c.args.reference.now in
    let numbers = c.in_ok-best.ensures ∙ ap (λ (name : List ℕ). numbers_under c.args.self.now.names (in_small name)) c.as_bytes-name.ensures ∙ known.names (in_small reference.name) in
    ap (filter (λ (number : ℕ). matches reference (around_item items number))) numbers ∙ matched_of_name items reference

pub loop-qualifier-init : goal.loop-qualifier-init
loop-qualifier-init c = λ (items : List Item) known.
    let reference = c.args.reference.now in
    let numbers = c.in_ok-best.ensures ∙ ap (λ (name : List ℕ). numbers_under c.args.self.now.names (in_small name)) c.as_bytes-name.ensures ∙ known.names (in_small reference.name) in
    ap (filter (λ (number : ℕ). matches reference (around_item items number))) numbers ∙ matched_of_name items reference

pub loop-qualifier-preserved : goal.loop-qualifier-preserved
loop-qualifier-preserved c = λ (items : List Item) known.
    let pairs = c.args.self.now.pairs in
    let reference = c.args.reference.now in
    let name = reference.name in
    let i = c.loop-qualifier.qualifier-index in
    let one = c.qualifier-item.result in
    let best = c.fewest-best.result.now in
    let listed : c.as_slice-qualifier-items.result.now ≡ reference.qualifiers = c.as_slice-qualifier-items.ensures in
    let within : i < length reference.qualifiers = subst (λ (names : List (List ℕ)). i < length names) listed c.loop-qualifier-test.true in
    let here : one ≡ get_or reference.qualifiers i one = c.qualifier-item.is ∙ ap (λ (names : List (List ℕ)). get_or names i one) listed in
    let called : is_asked pairs.asked (in_small name) ≡ true = ap (λ (other : List ℕ). is_asked pairs.asked (in_small other)) (sym c.as_bytes-name.ensures) ∙ sym c.in_ok-asked.ensures ∙ c.if-not-asked.false in
    elim c.fewest-best.ensures.one as (λ _. AreCandidates items reference best) [
      | inl same ↦ subst (λ (numbers : List ℕ). AreCandidates items reference numbers) (sym same) (c.loop-qualifier.invariant items known)
      | inr found ↦
          let key : pair_key c.as_bytes-name.result.now c.as_bytes.result.now ≡ pair_key name (get_or reference.qualifiers i one) =
          ap (λ (other : List ℕ). pair_key other c.as_bytes.result.now) c.as_bytes-name.ensures ∙ ap (pair_key name) (c.as_bytes.ensures ∙ here) in
          let under : IsUnder pairs (pair_key name (get_or reference.qualifiers i one)) (Some best) = subst (λ (other : List ℕ). IsUnder pairs other (Some best)) key (rw found at c.in_ok-numbers.ensures) in
          matched_of_pair items pairs.asked reference i one best within called under.0 (under.1 ∙ known.pairs (pair_key name (get_or reference.qualifiers i one)))
    ]
