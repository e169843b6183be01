-- The entries of a program's screens, with what their levels and pictures say.
use Rattle.std.specs.Prelude.{◌≡◌, ℕ, ◌+◌, Bool, true, false, List, [], ◌∷◌, Option, Some, None}
use Rattle.cob_base.specs.declared.divisions.Front.{Front}
use Rattle.cob_base.specs.declared.screen_entries.ScreenEntry.{ScreenEntry}
use Rattle.picture_rule.specs.Picture.{PictureValue}
use Rattle.picture_rule.specs.declared.kind.PictureKind.{PictureKind}
use Rattle.picture_rule.specs.declared.kind.SignPlace.TheVariants.{Inside}
use Rattle.data_layout.specs.declared.row.Row.{Row}
use Rattle.data_layout.specs.Rows.{IsRead, is_above}
use Rattle.data_names.specs.Parts.{screen_entries}
use Rattle.data_names.specs.Items.{IsTold}
use Rattle.entry_clauses.specs.Clauses.{screen_picture_text, is_screen_clause_twice}

-- An entry of a screen: its levels are seen as those of a data item are.
pub record ScreenItem : Type 0 where
  pub entry : ScreenEntry
  pub row : Row
  pub picture : Option PictureValue
  pub signed : Bool

abbrev pub level_after : List ScreenEntry → Option ℕ
level_after [] = None
level_after (entry ∷ rest) = Some entry.level

-- the item of an entry, which the rest follows
pub record IsScreenItem (first : Bool) (at_number : ℕ) (rest : List ScreenEntry) (item : ScreenItem) : Type 0 where
  pub number : item.row.number ≡ at_number
  pub line : item.row.line ≡ item.entry.line
  pub level : item.row.level ≡ item.entry.level
  pub in_file : item.row.in_file ≡ false
  pub starts : item.row.starts ≡ first
  pub group : item.row.group ≡ is_above item.entry.level (level_after rest)
  pub occurs : item.row.occurs ≡ None
  pub twice : item.row.twice ≡ is_screen_clause_twice item.entry.clauses
  pub read : IsRead (screen_picture_text item.entry.clauses) Inside item.row.spelled item.row.size item.picture
  pub told : (kind : Option PictureKind) × IsTold (screen_picture_text item.entry.clauses) kind item.signed

-- the items of the entries, numbered from here on
abbrev pub AreScreenItemsAfter : Bool → ℕ → List ScreenEntry → List ScreenItem → Type 0
AreScreenItemsAfter first number [] items = items ≡ []
AreScreenItemsAfter first number (entry ∷ rest) [] = ⊥
AreScreenItemsAfter first number (entry ∷ rest) (item ∷ items) =
    (item.entry ≡ entry) × IsScreenItem first number rest item × AreScreenItemsAfter false (number + 1) rest items

-- these are the entries of the program's screens, in order
abbrev pub AreScreenItems : Front → List ScreenItem → Type 0
AreScreenItems front items = AreScreenItemsAfter true 0 (screen_entries front) items
