use Rattle.std.proofs.Common.{◌∙◌, ap, ◌++◌, List, map}
use Rattle.std.specs.List.{flat_map}
use Rattle.std.proofs.lemmas.List.{take_all}
use Rattle.cob_base.specs.declared.data_entries.DataEntry.{DataEntry}
use Rattle.name_rules.specs.DoubleNames.{Declared}
use Rattle.name_rules.specs.SeenNames.{seen_declared, declared_entry}
use Rattle.name_rules.proofs.Named.{entries_listed}
use Rattle.name_rules.proofs.declared.add_items.Goals as goal

pub returns : goal.returns
returns c =
    let old = map seen_declared c.args.names.now.items in
    c.loop-entry.invariant ∙ ap (λ (some : List DataEntry). old ++ flat_map declared_entry some) (take_all c.loop-entry.entry-index c.args.entries.now c.loop-entry-test.false)
    ∙ ap (λ (more : List Declared). old ++ more) (entries_listed c.args.entries.now)
