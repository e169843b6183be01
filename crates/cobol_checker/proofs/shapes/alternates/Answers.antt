use Rattle.std.proofs.Common.{◌≡◌, sym, refl, subst, [], List, append-nil, drop}
use Rattle.std.proofs.lemmas.List.{drop_all}
use Rattle.cob_base.specs.declared.file_entries.FileClause.{FileClause}
use Rattle.data_names.specs.Table.{items_of}
use Rattle.entry_clauses.specs.Clauses.{alternates}
use Rattle.cobol_checker.specs.Shapes.{AreKeyPlaces}
use Rattle.cobol_checker.proofs.shapes.alternates.Goals as goal

pub returns : goal.returns
returns c =
    let items = items_of c.args.table.now in
    let none : drop c.loop-clause.clause-index c.args.clauses.now ≡ [] = drop_all c.loop-clause.clause-index c.args.clauses.now c.loop-clause-test.false in
    let all = c.loop-clause.invariant.places [] (subst (λ (clauses : List FileClause). AreKeyPlaces items c.args.begins (alternates clauses) []) (sym none) refl) in
    rw append-nil at all
