use Rattle.std.proofs.Common.{◌∙◌, ap, ◌||◌, ℕ}
use Rattle.procedure_rules.specs.KnownFiles.{has_number}
use Rattle.procedure_names.specs.Scoped.{front_in, items_in}
use Rattle.procedure_rules.proofs.KeysOfFiles.{is_item_found}
use Rattle.procedure_rules.proofs.known_files.add_key.Goals as goal

pub returns-in_ok-add_number-in-Some : goal.returns-in_ok-add_number-in-Some
returns-in_ok-add_number-in-Some c = λ (number : ℕ) spot e.
    let is = rw c.in-Some.is at c.in_ok-number.ensures in
    c.in_ok-add_number-in-Some.ensures number
    ∙ ap (λ b. has_number c.args.keys.now number || b)
    (is_item_found (front_in c.args.scope.now) (items_in c.args.scope.now) c.args.key.now number c.in-Some.number spot is.0 c.requires.items e is.2 is.3)
