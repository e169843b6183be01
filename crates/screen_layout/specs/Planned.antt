-- What a row without a fault has.
use Rattle.std.specs.Prelude.{◌≡◌, ℕ, ◌<◌, false, List, [], ◌∷◌, ◌++◌, Some}
use Rattle.data_layout.specs.declared.layout.Layout.{Layout}
use Rattle.screen_rows.specs.Rows.{is_past_colours}
use Rattle.screen_layout.specs.Plans.{MayShow, MayFillFrom, IsPlacedIn}
use Rattle.screen_layout.specs.Outcome.{IsPlaced}
use Rattle.picture_rule.specs.Picture.{PictureValue}
use Rattle.screen_layout.specs.declared.place.Spot.TheVariants.{On}
use Rattle.screen_layout.specs.declared.plan.ScreenPlan.{ScreenPlan}
use Rattle.screen_layout.specs.declared.plan.Placed.{Placed}
use Rattle.screen_rows.specs.declared.row.ScreenRow.{ScreenRow}
use Rattle.screen_rows.specs.declared.row.Content.{Content}
use Rattle.screen_layout.specs.Placing.{place_of, look_of, colour_or}

-- the plan with one more item
abbrev pub with_item : ScreenPlan → Placed → ScreenPlan
with_item plan placed = record { name = plan.name; items = plan.items ++ placed ∷ [] }

-- a place on the screen, a size, a picture and colours
pub record CanBePlaced (before : List ScreenRow) (row : ScreenRow) (content : Content) : Type 0 where
  pub line : (number : ℕ) × ((place_of before row).line ≡ On number)
  pub column : (number : ℕ) × ((place_of before row).column ≡ On number)
  pub cells : (size : ℕ) × (row.size ≡ Some size) × (size < 256)
  pub picture : (picture : PictureValue) × (content.picture ≡ Some picture)
  pub front : colour_or 7 (look_of before row).front < 256
  pub back : colour_or 0 (look_of before row).back < 256

-- ---- rows without a fault of their own

-- its colours stand, and an item has a size and, where it is a line's at most, a picture with what it shows and fills
pub record IsSound (layout : Layout) (row : ScreenRow) (content : Content) : Type 0 where
  pub front : is_past_colours row.own.look.front ≡ false
  pub back : is_past_colours row.own.look.back ≡ false
  pub cells : row.group ≡ false → (size : ℕ) × (row.size ≡ Some size) × (size < 81 → (picture : PictureValue) × (content.picture ≡ Some picture) × (picture.size ≡ size)
      × MayShow layout content.show size picture × MayFillFrom layout content.into size picture)

abbrev pub AreSound : Layout → List ScreenRow → List Content → Type 0
AreSound layout [] contents = contents ≡ []
AreSound layout (row ∷ rows) [] = ⊥
AreSound layout (row ∷ rows) (content ∷ contents) = (row.bad ≡ false → IsSound layout row content) × AreSound layout rows contents

-- the plan with further items
abbrev pub with_items : ScreenPlan → List Placed → ScreenPlan
with_items plan items = record { name = plan.name; items = plan.items ++ items }

-- what an item's place and its content are good for
pub record IsGood (layout : Layout) (before : List ScreenRow) (row : ScreenRow) (content : Content) : Type 0 where
  pub placed : row.group ≡ false → CanBePlaced before row content
  pub fits : row.group ≡ false → (placed : Placed) → IsPlaced before row content placed → IsPlacedIn layout placed
