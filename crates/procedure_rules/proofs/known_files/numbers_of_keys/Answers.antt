use Rattle.std.proofs.Common.{◌≡◌, ◌∙◌, sym, ap, ◌||◌, ℕ, List, Option, Bool}
use Rattle.std.specs.Prelude.{option_to_list}
use Rattle.std.specs.Option.{option_copied}
use Rattle.std.specs.List.{list_any, filter_map}
use Rattle.cob_base.specs.declared.operands.Reference.{Reference}
use Rattle.cob_base.specs.declared.file_entries.FileClause.{FileClause}
use Rattle.data_names.specs.References.{found}
use Rattle.entry_clauses.specs.Clauses.{record_key}
use Rattle.procedure_rules.specs.Keys.{same_item}
use Rattle.procedure_rules.specs.KnownFiles.{has_number, is_alternate}
use Rattle.procedure_names.specs.Scoped.{items_in}
use Rattle.procedure_rules.proofs.KeyNumbers.{none_yet}
use Rattle.procedure_rules.proofs.KeysOfFiles.{prime_or_alternate}
use Rattle.procedure_rules.proofs.known_files.numbers_of_keys.Goals as goal

pub returns : goal.returns
returns c = λ (number : ℕ) spot e.
    let items = items_in c.args.scope.now in
    let clauses = c.args.file.now.clauses in
    let primes : Option Reference → Bool = λ (key : Option Reference). list_any (same_item spot) (filter_map (found items) (option_to_list key)) in
    let first : has_number c.add_prime.new.keys number ≡ primes (record_key clauses)
    = c.in_ok-add_prime.ensures number spot e ∙ ap (λ b. b || primes (option_copied c.record_key.result)) (none_yet c.new-keys.result number c.new-keys.ensures.empty) ∙ ap primes (c.record_key.ensures ∙ ap record_key c.as_slice-clauses.ensures) in
    c.in_ok-add_alternates.ensures number spot e
    ∙ ap (λ (some : List FileClause). has_number c.add_prime.new.keys number || list_any (is_alternate items spot) some) c.as_slice-clauses.ensures
    ∙ sym (prime_or_alternate items spot clauses (has_number c.add_prime.new.keys number) first)
