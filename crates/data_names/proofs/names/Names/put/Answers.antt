use Rattle.std.proofs.Common.{◌≡◌, ◌∙◌, refl, ap, subst, ℕ, List, [], Some, Vec, Global}
use Rattle.std.specs.Prelude.{if◌then◌else◌}
use Rattle.std.specs.Str.{bytes_eq}
use Rattle.std.specs.Cmp.Lexicographic.{bytes_decides}
use Rattle.data_names.specs.Names.{numbers_under}
use Rattle.data_names.proofs.Tables.{updates_by, filled}
use Rattle.data_names.proofs.PairsOf.{put_once}
use Rattle.data_names.proofs.names.Names.put.Goals as goal

pub returns : goal.returns
returns c = λ (cs : List ℕ).
    let bs = c.args.key.items in
    let lent : c.as_slice.result.now ≡ bs = c.as_slice.ensures.value in
    let taken : c.take-numbers.result.items ≡ numbers_under c.args.self.now bs = c.take-numbers.ensures.taken ∙ ap (numbers_under c.args.self.now) lent in
    let others : numbers_under c.take-numbers.new.self cs ≡ (if bytes_eq bs cs then [] else numbers_under c.args.self.now cs) =
    subst (λ (key : List ℕ). numbers_under c.take-numbers.new.self cs ≡ (if bytes_eq key cs then [] else numbers_under c.args.self.now cs)) lent (c.take-numbers.ensures.others cs) in
    let updated = updates_by (λ (key : Vec ℕ Global). key.items) bs c.take-numbers.new.self.table c.insert.new.self (Some c.push_once.new.numbers) c.in_ok-insert.ensures.updates cs in
    let longer = filled (λ (numbers : Vec ℕ Global). numbers.items) (bytes_eq bs cs) c.push_once.new.numbers _ _ updated
    ∙ ap (λ (xs : List ℕ). if bytes_eq bs cs then xs else numbers_under c.take-numbers.new.self cs) c.in_ok-push_once.ensures in
    put_once (numbers_under c.args.self.now) bs cs c.take-numbers.result.items (numbers_under c.take-numbers.new.self cs) _ c.args.at (bytes_eq bs cs) refl (λ ds e. (bytes_decides bs ds).0 e) taken others longer
