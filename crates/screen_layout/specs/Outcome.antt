-- What the screen entries of a program come to: a plan for each entry of level 01 where there is no fault, else the least fault.
use Rattle.std.specs.Prelude.{◌≡◌, ◌==◌, Bool, true, false, List, [], ◌∷◌, ◌++◌, Option, Some, None}
use Rattle.cob_base.specs.declared.divisions.Front.{Front}
use Rattle.cob_base.specs.declared.divisions.DataDivision.{DataDivision}
use Rattle.cob_base.specs.declared.screen_entries.ScreenEntry.{ScreenEntry}
use Rattle.data_layout.specs.Rows.{rank}
use Rattle.data_layout.specs.declared.layout.Layout.{Layout}
use Rattle.screen_layout.specs.declared.fault.ScreenFault.{ScreenFault}
use Rattle.screen_layout.specs.declared.plan.ScreenPlan.{ScreenPlan}
use Rattle.screen_layout.specs.declared.plan.Placed.{Placed}
use Rattle.screen_layout.specs.declared.place.Spot.TheVariants.{On}
use Rattle.screen_rows.specs.declared.row.ScreenRow.{ScreenRow}
use Rattle.screen_rows.specs.declared.row.Content.{Content}
use Rattle.screen_rows.specs.Rows.{AreScreenRows, text_or_none}
use Rattle.screen_layout.specs.Placing.{place_of, style_of, blank_of}
use Rattle.screen_layout.specs.ScreenFaults.{screen_faults, IsLeast}

abbrev pub or_none : {A : Type 0} → Option (List A) → List A
or_none None = []
or_none (Some xs) = xs

abbrev pub division_screens : Option DataDivision → List ScreenEntry
division_screens None = []
division_screens (Some division) = or_none division.screens

-- the entries of the screen section
abbrev pub screen_entries : Front → List ScreenEntry
screen_entries front = division_screens front.data

-- an elementary entry's item, in its place
pub record IsPlaced (before : List ScreenRow) (row : ScreenRow) (content : Content) (placed : Placed) : Type 0 where
  pub line : (place_of before row).line ≡ On placed.line
  pub column : (place_of before row).column ≡ On placed.column
  pub size : row.size ≡ Some placed.size
  pub picture : content.picture ≡ Some placed.picture
  pub style : placed.style ≡ style_of before row
  pub blank : placed.blank ≡ blank_of before row
  pub show : placed.show ≡ content.show
  pub into : placed.into ≡ content.into

-- a group has no item
abbrev pub HasItems : Bool → List ScreenRow → ScreenRow → Content → List Placed → Type 0
HasItems true before row content items = items ≡ []
HasItems false before row content items = (placed : Placed) × IsPlaced before row content placed × (items ≡ placed ∷ [])

abbrev pub plan_of : Content → List Placed → ScreenPlan
plan_of content items = record { name = text_or_none content.name; items = items }

-- a row of level 01 begins a plan with its own item and the later ones; else its item stands before the later ones
abbrev pub BeginsPlan : Bool → Content → List Placed → List Placed → List ScreenPlan → List Placed → List ScreenPlan → Type 0
BeginsPlan true content own later others items plans = (items ≡ []) × (plans ≡ plan_of content (own ++ later) ∷ others)
BeginsPlan false content own later others items plans = (items ≡ own ++ later) × (plans ≡ others)

-- Of the rows after others: the items up to the next row of level 01, and the plans from there on, one for each such row.
abbrev pub ArePlans : List ScreenRow → List ScreenRow → List Content → List Placed → List ScreenPlan → Type 0
ArePlans before [] contents items plans = (items ≡ []) × (plans ≡ [])
ArePlans before (row ∷ rest) [] items plans = ⊥
ArePlans before (row ∷ rest) (content ∷ contents) items plans =
    (own : List Placed) × (later : List Placed) × (others : List ScreenPlan) × HasItems row.group before row content own
    × ArePlans (before ++ row ∷ []) rest contents later others × BeginsPlan (rank row.level == 1) content own later others items plans

-- the plans of these entries, which have no fault
pub record AreScreensOf (layout : Layout) (entries : List ScreenEntry) (plans : List ScreenPlan) : Type 0 where
  pub rows : List ScreenRow
  pub contents : List Content
  pub read : AreScreenRows layout entries rows contents
  pub faultless : screen_faults rows ≡ []
  pub planned : ArePlans [] rows contents [] plans

-- the least fault of these entries
pub record IsScreenFaultOf (layout : Layout) (entries : List ScreenEntry) (fault : ScreenFault) : Type 0 where
  pub rows : List ScreenRow
  pub contents : List Content
  pub read : AreScreenRows layout entries rows contents
  pub least : IsLeast (screen_faults rows) fault
