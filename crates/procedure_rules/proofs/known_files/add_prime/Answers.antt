use Rattle.std.proofs.Common.{◌∙◌, sym, ap, ◌||◌, ℕ}
use Rattle.procedure_rules.specs.KnownFiles.{has_number}
use Rattle.procedure_names.specs.Scoped.{items_in}
use Rattle.procedure_rules.proofs.KeysOfFiles.{one_key}
use Rattle.procedure_rules.proofs.known_files.add_prime.Goals as goal

pub returns-in_ok-add_key-in-Some : goal.returns-in_ok-add_key-in-Some
returns-in_ok-add_key-in-Some c = λ (number : ℕ) spot e.
    rw c.in-Some.is (c.in_ok-add_key-in-Some.ensures number spot e ∙ ap (λ b. has_number c.args.keys.now number || b) (sym (one_key (items_in c.args.scope.now) spot c.in-Some.key.now)))
