-- When a plan is one of a layout: it stays on the screen, and what it shows and fills are items of the layout that go with its pictures.
use Rattle.std.specs.Prelude.{◌≡◌, ℕ, ◌+◌, ◌<◌, ◌≤◌, true, length, Option, Some, None, slice_get, All}
use Rattle.data_layout.specs.declared.layout.Item.{Item}
use Rattle.data_layout.specs.declared.layout.Layout.{Layout}
use Rattle.data_layout.specs.Layout.{IsInside}
use Rattle.picture_rule.specs.Picture.{PictureValue}
use Rattle.cob_value.specs.Moves.{MayMove}
use Rattle.screen_names.specs.Names.{is_single}
use Rattle.screen_layout.specs.declared.plan.ScreenPlan.{ScreenPlan}
use Rattle.screen_layout.specs.declared.plan.Placed.{Placed}
use Rattle.screen_rows.specs.declared.row.Show.{Show}
use Rattle.screen_rows.specs.declared.row.Show.TheVariants as s

-- an item without OCCURS in or above it, which lies within storage
pub record IsNamed (layout : Layout) (number : ℕ) (item : Item) : Type 0 where
  pub here : slice_get layout.items number ≡ Some item
  pub single : is_single layout.items number ≡ true
  pub inside : IsInside layout.total item

-- what is shown has the item's size, and an item may be moved into the picture
abbrev pub MayShow : Layout → Show → ℕ → PictureValue → Type 0
MayShow layout s.Nothing size picture = size ≡ 0
MayShow layout (s.Text bytes) size picture = length bytes ≡ size
MayShow layout (s.Item number) size picture = (item : Item) × IsNamed layout number item × MayMove item.picture picture

-- the picture may be moved into the item that is filled
abbrev pub MayFillFrom : Layout → Option ℕ → ℕ → PictureValue → Type 0
MayFillFrom layout None size picture = Unit {0}
MayFillFrom layout (Some number) size picture = (0 < size) × ((item : Item) × IsNamed layout number item × MayMove picture item.picture)

pub record IsPlacedIn (layout : Layout) (placed : Placed) : Type 0 where
  pub line : (1 ≤ placed.line) × (placed.line ≤ 24)
  pub column : (1 ≤ placed.column) × (placed.column ≤ 81)
  pub size : placed.size ≡ placed.picture.size
  pub within : 0 < placed.size → placed.column + placed.size ≤ 81
  pub marks : placed.style.marks ≤ 31
  pub colours : (placed.style.front ≤ 7) × (placed.style.back ≤ 7)
  pub show : MayShow layout placed.show placed.size placed.picture
  pub into : MayFillFrom layout placed.into placed.size placed.picture

pub record IsPlanOf (layout : Layout) (plan : ScreenPlan) : Type 0 where
  pub items : All (IsPlacedIn layout) plan.items
