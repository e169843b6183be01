-- Names that are declared one after another.
use Rattle.std.proofs.Common.{◌≡◌, refl, ap, List, [], ◌∷◌, ◌++◌}
use Rattle.std.specs.List.{flat_map}
use Rattle.cob_base.specs.declared.data_entries.DataEntry.{DataEntry}
use Rattle.cob_base.specs.declared.data_entries.DataEntry.TheVariants.{Item, Condition}
use Rattle.name_rules.specs.DoubleNames.{declared_item, declared_items}
use Rattle.name_rules.specs.SeenNames.{declared_entry}

pub entries_listed : (entries : List DataEntry) → flat_map declared_entry entries ≡ declared_items entries
entries_listed [] = refl
entries_listed (Item entry ∷ rest) = ap (λ back. declared_item entry ++ back) (entries_listed rest)
entries_listed (Condition entry ∷ rest) = entries_listed rest
