use Rattle.std.proofs.Common.{take, map}
use Rattle.data_layout.specs.Rows.{file_section}
use Rattle.data_layout.specs.Gathered.{Adds}
use Rattle.data_layout.proofs.reading.Gathered.add_files.Given as goal

abbrev pub invariant-loop-file : goal.invariant-loop-file
invariant-loop-file l = Adds (map file_section (take l.file-index l.files)) l.initial.self l.self
