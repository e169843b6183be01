-- Those of the files so far.
use Rattle.std.proofs.Common.{take, map}
use Rattle.std.specs.List.{flat_map}
use Rattle.data_names.specs.Table.{items_of}
use Rattle.name_rules.specs.Mentions.{mention, references_of_file}
use Rattle.name_rules.specs.SeenMentions.{AddsMentions}
use Rattle.name_rules.proofs.mentions.add_files.Given as goal

abbrev pub invariant-loop-file : goal.invariant-loop-file
invariant-loop-file l = AddsMentions (items_of l.table) (flat_map (λ file. map (mention file.line) (references_of_file file)) (take l.file-index l.files)) l.initial.mentions.items l.mentions.items
