use Rattle.std.proofs.Common.{◌≡◌, ◌∙◌, refl, ap, subst, ℕ, List, [], ◌∷◌, ◌++◌, Some, Vec, Global}
use Rattle.std.specs.Prelude.{if◌then◌else◌}
use Rattle.std.specs.Str.{bytes_eq}
use Rattle.data_names.specs.Names.{in_small, numbers_under}
use Rattle.data_names.proofs.Tables.{updates_by, filled, put_again}
use Rattle.data_names.proofs.names.Names.add.Goals as goal

pub returns : goal.returns
returns c = λ (cs : List ℕ).
    let bs = in_small c.args.name.now in
    let same : c.in_ok-key.key.items ≡ bs = c.in_ok-key.ensures in
    let lent : c.as_slice.result.now ≡ bs = c.as_slice.ensures.value ∙ same in
    let taken : c.take-numbers.result.items ≡ numbers_under c.args.self.now bs = c.take-numbers.ensures.taken ∙ ap (numbers_under c.args.self.now) lent in
    let others : numbers_under c.take-numbers.new.self cs ≡ (if bytes_eq bs cs then [] else numbers_under c.args.self.now cs) =
    subst (λ (key : List ℕ). numbers_under c.take-numbers.new.self cs ≡ (if bytes_eq key cs then [] else numbers_under c.args.self.now cs)) lent (c.take-numbers.ensures.others cs) in
    let updated = updates_by (λ (key : Vec ℕ Global). key.items) c.in_ok-key.key.items c.take-numbers.new.self.table c.insert.new.self (Some c.push.new.self) c.in_ok-insert.ensures.updates cs in
    let put = filled (λ (numbers : Vec ℕ Global). numbers.items) (bytes_eq c.in_ok-key.key.items cs) c.push.new.self _ _ updated in
    let longer : numbers_under (record { table = c.insert.new.self }) cs ≡ (if bytes_eq bs cs then c.take-numbers.result.items ++ c.args.at ∷ [] else numbers_under c.take-numbers.new.self cs) =
    subst (λ (key : List ℕ). numbers_under (record { table = c.insert.new.self }) cs ≡ (if bytes_eq key cs then c.take-numbers.result.items ++ c.args.at ∷ [] else numbers_under c.take-numbers.new.self cs)) same
    (put ∙ ap (λ (xs : List ℕ). if bytes_eq c.in_ok-key.key.items cs then xs else numbers_under c.take-numbers.new.self cs) c.in_ok-push.ensures.items) in
    put_again (numbers_under c.args.self.now) bs cs c.take-numbers.result.items (numbers_under c.take-numbers.new.self cs) _ c.args.at (bytes_eq bs cs) refl taken others longer
