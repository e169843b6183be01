use Rattle.std.proofs.Common.{Some}
use Rattle.cob_base.specs.declared.file_entries.FileEntry.{FileEntry}
use Rattle.procedure_names.proofs.FirstsOf.{firsts_step, firsts_all}
use Rattle.procedure_names.proofs.scope.names_of_files.Goals as goal

pub loop-number-preserved : goal.loop-number-preserved
loop-number-preserved c =
    firsts_step (λ (file : FileEntry). Some file.name) c.args.files.now c.loop-number.number c.index-files-number.result c.loop-number.names c.add.new.self c.loop-number-test.true c.index-files-number.is c.loop-number.invariant
    c.in_ok-add.ensures

pub returns : goal.returns
returns c =
    firsts_all (λ (file : FileEntry). Some file.name) c.args.files.now c.loop-number.number c.loop-number.names c.loop-number-test.false c.loop-number.invariant
