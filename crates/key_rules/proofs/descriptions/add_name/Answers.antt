use Rattle.std.proofs.Common.{◌≡◌, ◌∙◌, refl, sym, ap, subst, ℕ, Bool, true, false, List, Option, Some, None, Vec, Global}
use Rattle.std.specs.Prelude.{if◌then◌else◌, is_some}
use Rattle.std.specs.Str.{bytes_eq}
use Rattle.data_names.specs.Clauses.{or_next}
use Rattle.data_names.specs.Names.{in_small}
use Rattle.key_rules.specs.Descriptions.{number_under}
use Rattle.key_rules.proofs.DescriptionsOf.{none_next}
use Rattle.name_rules.proofs.TextKeys.{updates_by, bytes_eq-flip, bytes_eq-same}
use Rattle.key_rules.proofs.descriptions.add_name.Goals as goal

-- a key that was not there is put in
put_in : (old : List ℕ → Option ℕ) (bs cs : List ℕ) (n : ℕ) (new : Option ℕ) (b : Bool) → bytes_eq bs cs ≡ b → old bs ≡ None → new ≡ (if b then Some n else old cs)
    → new ≡ or_next (old cs) (if b then Some n else None)
put_in old bs cs n new true y e h = h ∙ ap (λ first. or_next first (Some n)) (sym e ∙ ap old (bytes_eq-same bs cs y))
put_in old bs cs n new false y e h = h ∙ sym (none_next (old cs))

none_where : (first : Option ℕ) → false ≡ is_some first → first ≡ None
none_where None e = refl
none_where (Some n) e = cc

pub returns-in_ok-insert : goal.returns-in_ok-insert
returns-in_ok-insert c = λ (cs : List ℕ).
    let old = number_under c.args.names.now in
    let bs = in_small c.args.file.now.name in
    let key = c.in_ok-name.name.items in
    let same : key ≡ bs = c.in_ok-name.ensures ∙ ap in_small c.as_bytes.ensures in
    let lent : c.as_slice.result.now ≡ bs = c.as_slice.ensures.value ∙ same in
    let absent : old bs ≡ None = none_where (old bs) (c.if-not-contains_key.ensures ∙ ap (λ (ks : List ℕ). is_some (old ks)) lent) in
    let put = updates_by (λ (k : Vec ℕ Global). k.items) key c.args.names.now c.insert.new.self (Some c.args.number) c.in_ok-insert.ensures.updates cs in
    let new = subst (λ (ks : List ℕ). number_under c.insert.new.self cs ≡ (if bytes_eq ks cs then Some c.args.number else old cs)) same put in
    put_in old bs cs c.args.number _ (bytes_eq bs cs) refl absent new
    ∙ ap (λ b. or_next (old cs) (if b then Some c.args.number else None)) (bytes_eq-flip bs cs)
