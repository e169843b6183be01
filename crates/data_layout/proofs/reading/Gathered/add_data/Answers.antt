use Rattle.std.proofs.Common.{subst, map, List, [], ◌∷◌}
use Rattle.cob_base.specs.declared.divisions.FileDescription.{FileDescription}
use Rattle.cob_base.specs.declared.data_entries.DataEntry.{DataEntry}
use Rattle.data_layout.specs.Rows.{file_section, storage_section, or_none}
use Rattle.data_layout.specs.Gathered.{Adds}
use Rattle.data_layout.proofs.Gatherings.{Adds-append}
use Rattle.data_layout.proofs.reading.Gathered.add_data.Goals as goal

pub returns : goal.returns
returns c =
    let files = subst (λ (fs : List FileDescription). Adds (map file_section fs) c.args.self.now c.add_files.new.self) c.items_or_none.ensures c.in_ok-add_files.ensures in
    let storage = subst (λ (es : List DataEntry). Adds (storage_section es ∷ []) c.add_files.new.self c.add_section.new.self) c.items_or_none-2.ensures c.in_ok-add_section.ensures in
    Adds-append (map file_section (or_none c.args.division.now.files)) (storage_section (or_none c.args.division.now.working_storage) ∷ []) c.args.self.now c.add_files.new.self c.add_section.new.self files storage
