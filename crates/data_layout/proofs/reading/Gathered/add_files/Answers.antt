use Rattle.data_layout.proofs.Gatherings.{file_added}
use Rattle.data_layout.proofs.reading.Gathered.add_files.Goals as goal

pub loop-file-preserved : goal.loop-file-preserved
loop-file-preserved c = file_added c.args.files.now c.loop-file.file-index c.file-item.result _ c.args.self.now c.loop-file.self c.add_section.new.self c.loop-file-test.true c.file-item.is c.as_slice.ensures
    c.loop-file.invariant c.in_ok-add_section.ensures
