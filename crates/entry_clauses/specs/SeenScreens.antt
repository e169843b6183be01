-- The entries of screens that the code holds, as the definitions see them.
use Rattle.std.specs.Prelude.{◌≡◌, ℕ, true, List, [], ◌∷◌, ◌++◌, map, take, None, Some, option_map, slice_get}
use Rattle.std.specs.List.{last_or}
use Rattle.cob_base.specs.declared.screen_entries.ScreenEntry.{ScreenEntry}
use Rattle.data_layout.specs.Faults.{level_fits}
use Rattle.data_names.specs.Spots.{around}
use Rattle.entry_clauses.specs.declared.screens.KnownScreen.{KnownScreen}
use Rattle.entry_clauses.specs.ScreenItems.{ScreenItem, AreScreenItemsAfter}

abbrev pub seen_screen : KnownScreen → ScreenItem
seen_screen item = record { entry = item.entry.now; row = item.row; picture = item.picture; signed = item.signed }

-- of each it is known whether its level fits after those before it
abbrev pub AreLevelsKnown : List KnownScreen → Type 0
AreLevelsKnown screens =
    (at : ℕ) (one : KnownScreen) → slice_get screens at ≡ Some one → one.level_fits ≡ level_fits (map (λ item. item.row) (take at screens)) one.row

-- whether the level of an entry fits after others, and the number of the innermost group that it is in
pub record IsPlacedScreen (before : List ScreenItem) (item : KnownScreen) : Type 0 where
  pub level_fits_is : item.level_fits ≡ level_fits (map (λ other. other.row) before) item.row
  pub parent_is : item.parent ≡ option_map (λ group. group.row.number) (last_or None (around (λ other. other.row) before (seen_screen item)))

-- what stands before each of these entries, the first of which stands after others
abbrev pub ArePlacedAfter : List ScreenItem → List KnownScreen → Type 0
ArePlacedAfter before [] = Unit
ArePlacedAfter before (item ∷ rest) = IsPlacedScreen before item × ArePlacedAfter (before ++ seen_screen item ∷ []) rest

-- these are the items of a program's entries of screens
pub record AreKnownScreens (entries : List ScreenEntry) (screens : List KnownScreen) : Type 0 where
  pub items : AreScreenItemsAfter true 0 entries (map seen_screen screens)
  pub placed : ArePlacedAfter [] screens
