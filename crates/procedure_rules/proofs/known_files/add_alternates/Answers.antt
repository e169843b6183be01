use Rattle.std.proofs.Common.{◌∙◌, sym, ap, ◌||◌, ◌+◌, ℕ, List, drop}
use Rattle.std.specs.List.{list_any}
use Rattle.std.proofs.lemmas.List.{drop_all}
use Rattle.cob_base.specs.declared.file_entries.FileClause.{FileClause}
use Rattle.procedure_rules.specs.KnownFiles.{has_number, is_alternate}
use Rattle.procedure_names.specs.Scoped.{items_in}
use Rattle.procedure_rules.proofs.KeyNumbers.{or_apart, or_none}
use Rattle.procedure_names.proofs.KnownConditions.{headed_at}
use Rattle.procedure_rules.proofs.known_files.add_alternates.Goals as goal

pub loop-clause-preserved : goal.loop-clause-preserved
loop-clause-preserved c = λ (number : ℕ) spot e.
    let test = is_alternate (items_in c.args.scope.now) spot in
    let clauses = c.args.clauses.now in
    let rest = drop (c.loop-clause.clause-index + 1) clauses in
    let here = headed_at clauses c.loop-clause.clause-index c.clause-item.result c.loop-clause-test.true c.clause-item.is in
    ap (λ b. b || list_any test rest) (c.in_ok-add_alternate.ensures number spot e)
    ∙ or_apart (has_number c.loop-clause.keys number) (test c.clause-item.result) (list_any test rest)
    ∙ ap (λ (some : List FileClause). has_number c.loop-clause.keys number || list_any test some) (sym here)
    ∙ c.loop-clause.invariant number spot e

pub returns : goal.returns
returns c = λ (number : ℕ) spot e.
    let test = is_alternate (items_in c.args.scope.now) spot in
    sym (or_none (has_number c.loop-clause.keys number))
    ∙ ap (λ (some : List FileClause). has_number c.loop-clause.keys number || list_any test some) (sym (drop_all c.loop-clause.clause-index c.args.clauses.now c.loop-clause-test.false))
    ∙ c.loop-clause.invariant number spot e
