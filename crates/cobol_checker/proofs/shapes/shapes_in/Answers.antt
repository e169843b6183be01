use Rattle.std.proofs.Common.{◌≡◌, sym, refl, subst, [], List, append-nil, drop}
use Rattle.std.proofs.lemmas.List.{drop_all}
use Rattle.cob_base.specs.declared.file_entries.FileEntry.{FileEntry}
use Rattle.data_names.specs.Table.{items_of}
use Rattle.cobol_checker.specs.Shapes.{AreShapesOf}
use Rattle.cobol_checker.proofs.shapes.shapes_in.Goals as goal

pub returns : goal.returns
returns c =
    let items = items_of c.args.table.now in
    let none : drop c.loop-file.file-index c.args.files.now ≡ [] = drop_all c.loop-file.file-index c.args.files.now c.loop-file-test.false in
    let all = c.loop-file.invariant.shapes [] (subst (λ (files : List FileEntry). AreShapesOf c.args.front.now items files []) (sym none) refl) in
    rw append-nil at all
