-- The items that the code holds, as the definitions see them.
use Rattle.std.specs.Prelude.{ℕ, List, map, Option, Some, None}
use denote.Ref.{Bor}
use Rattle.cob_base.specs.declared.text.ByteText.{ByteText}
use Rattle.cob_base.specs.declared.data_entries.ItemEntry.{ItemEntry}
use Rattle.cob_base.specs.declared.operands.Reference.{Reference}
use Rattle.data_layout.specs.Rows.{picture_text}
use Rattle.data_names.specs.declared.known.FiledEntry.{FiledEntry}
use Rattle.data_names.specs.declared.known.KnownItem.{KnownItem}
use Rattle.data_names.specs.Parts.{Source}
use Rattle.data_names.specs.Items.{DataItem, IsTold, IsToldWhole}

-- an entry under a file description of this number, or in working storage
abbrev pub filed : Option ℕ → ItemEntry → Source
filed file entry = record { file = file; entry = entry }

abbrev pub seen_source : FiledEntry → Source
seen_source source = filed source.file source.entry.now

abbrev pub seen_item : KnownItem → DataItem
seen_item item = record { source = seen_source item.source; row = item.row; text = item.text.now; kind = item.told.kind; signed = item.told.signed; whole = item.told.whole }

-- what the item's picture was told to be
abbrev pub IsToldItem : KnownItem → Type 0
IsToldItem item = IsTold (picture_text item.source.entry.now.clauses) item.told.kind item.told.signed

-- and whether that has no decimals
abbrev pub IsToldWholeItem : KnownItem → Type 0
IsToldWholeItem item = IsToldWhole (picture_text item.source.entry.now.clauses) item.told.whole

-- a name that is lent, or none
abbrev pub seen_name : Option (Bor ByteText) → Option (List ℕ)
seen_name None = None
seen_name (Some name) = Some name.now

-- references that are lent
abbrev pub seen_references : List (Bor Reference) → List Reference
seen_references references = map (λ reference. reference.now) references
