-- The references of a front.
use Rattle.std.specs.Prelude.{List, [], ◌∷◌, ◌++◌, map, Option, Some, None, option_to_list, Bool, is_some}
use Rattle.std.specs.List.{flat_map}
use Rattle.cob_base.specs.declared.line.Line.{Line}
use Rattle.cob_base.specs.declared.divisions.Front.{Front}
use Rattle.cob_base.specs.declared.divisions.CrtStatus.{CrtStatus}
use Rattle.cob_base.specs.declared.file_entries.FileEntry.{FileEntry}
use Rattle.cob_base.specs.declared.screen_entries.ScreenEntry.{ScreenEntry}
use Rattle.cob_base.specs.declared.operands.Reference.{Reference}
use Rattle.cob_base.specs.declared.operands.Subscript.{Subscript}
use Rattle.cob_base.specs.declared.operands.Subscript.TheVariants.{Number, Item}
use Rattle.cob_base.specs.declared.operands.Operand.{Operand}
use Rattle.cob_base.specs.declared.operands.Operand.TheVariants as o
use Rattle.data_names.specs.Parts.{files, crt_status, screen_entries}
use Rattle.entry_clauses.specs.Clauses.{record_key, alternates, file_status, sender, receiver, both_ways}
use Rattle.picture_rule.specs.Picture.{PictureValue}
use Rattle.data_names.specs.Items.{DataItem}
use Rattle.data_names.specs.Spots.{Spot, picture_of_item}
use Rattle.data_names.specs.References.{found}

-- a reference, and the line of its entry
pub record Mention : Type 0 where
  pub line : Line
  pub reference : Reference

abbrev pub mention : Line → Reference → Mention
mention line reference = record { line = line; reference = reference }

-- the item of a subscript is a reference too
abbrev pub item_of_subscript : Option Subscript → List Reference
item_of_subscript None = []
item_of_subscript (Some (Number number)) = []
item_of_subscript (Some (Item name qualifiers offset)) = record { name = name; qualifiers = qualifiers; subscript = None } ∷ []

-- the keys of a file: the prime key, then the alternates
abbrev pub keys_of : FileEntry → List Reference
keys_of file = option_to_list (record_key file.clauses) ++ map (λ alternate. alternate.key) (alternates file.clauses)

abbrev pub references_of_file : FileEntry → List Reference
references_of_file file = keys_of file ++ option_to_list (file_status file.clauses)

abbrev pub reference_in : Option Operand → List Reference
reference_in None = []
reference_in (Some (o.Reference reference)) = reference ∷ []
reference_in (Some (o.Constant constant)) = []

abbrev pub references_of_screen : ScreenEntry → List Reference
references_of_screen entry = reference_in (sender entry.clauses) ++ option_to_list (receiver entry.clauses) ++ option_to_list (both_ways entry.clauses)

abbrev pub reference_of_crt : CrtStatus → Reference
reference_of_crt crt = record { name = crt.name; qualifiers = []; subscript = None }

-- all references of a front but those in subscripts
abbrev pub references : Front → List Mention
references front =
    flat_map (λ file. map (mention file.line) (references_of_file file)) (files front)
    ++ map (λ crt. mention crt.line (reference_of_crt crt)) (crt_status front)
    ++ flat_map (λ entry. map (mention entry.line) (references_of_screen entry)) (screen_entries front)

-- the items of subscripts
abbrev pub subscript_items : Front → List Mention
subscript_items front = flat_map (λ one. map (mention one.line) (item_of_subscript one.reference.subscript)) (references front)

-- all references
abbrev pub mentions : Front → List Mention
mentions front = references front ++ subscript_items front

-- the reference has a subscript
abbrev pub is_subscripted : Reference → Bool
is_subscripted reference = is_some reference.subscript

-- the picture of the item that a reference stands for, where both are known
abbrev pub picture_found : List DataItem → Reference → Option PictureValue
picture_found items reference = picture_of (found items reference)
  where
    picture_of : Option (Spot DataItem) → Option PictureValue
    picture_of None = None
    picture_of (Some spot) = picture_of_item spot
