-- What a check comes to: a program that keeps every rule, or the least of its faults.
--
-- The items and screens are determined by the program, since a text spells one picture at most, and so are the lines of paragraphs that
-- reach themselves.
use Rattle.std.specs.Prelude.{◌≡◌, List, [], All}
use Rattle.cob_base.specs.declared.line.Line.{Line}
use Rattle.cob_base.specs.declared.paragraphs.Program.{Program}
use Rattle.data_layout.specs.declared.layout.Layout.{Layout}
use Rattle.data_layout.specs.Rows.{sections}
use Rattle.data_layout.specs.Outcome.{IsLayoutOf}
use Rattle.screen_layout.specs.declared.plan.ScreenPlan.{ScreenPlan}
use Rattle.screen_layout.specs.Outcome.{AreScreensOf}
use Rattle.screen_layout.specs.Plans.{IsPlanOf}
use Rattle.sharing_table.specs.declared.shape.Shape.{Shape}
use Rattle.data_names.specs.Parts.{screen_entries}
use Rattle.name_rules.specs.declared.fault.Fault.{Fault}
use Rattle.data_names.specs.Items.{DataItem, AreDataItems}
use Rattle.entry_clauses.specs.ScreenItems.{ScreenItem, AreScreenItems}
use Rattle.name_rules.specs.Faults.{IsLeast}
use Rattle.procedure_rules.specs.Performed.{AreCycleLines}
use Rattle.procedure_rules.specs.Faults.{program_faults}
use Rattle.cobol_checker.specs.Shapes.{AreShapes}

-- a checked program as contracts see it: the program itself, its layout, a plan for each screen, and a shape for each file control
-- entry
pub record CheckedValue : Type 0 where
  pub program : Program
  pub layout : Layout
  pub screens : List ScreenPlan
  pub shapes : List Shape

-- a program in the profile: no condition fails
pub record KeepsRules (program : Program) : Type 0 where
  pub items : List DataItem
  pub screens : List ScreenItem
  pub cycles : List Line
  pub items_are : AreDataItems program.front items
  pub screens_are : AreScreenItems program.front screens
  pub cycles_are : AreCycleLines program.paragraphs cycles
  pub faultless : program_faults program items screens cycles ≡ []

-- No condition fails, and this is its layout, these the plans of its screens and these its shapes. Each plan is one of this layout.
pub record IsInProfile (checked : CheckedValue) : Type 0 where
  pub keeps : KeepsRules checked.program
  pub layout_is : IsLayoutOf (sections checked.program.front) checked.layout
  pub screens_are : AreScreensOf checked.layout (screen_entries checked.program.front) checked.screens
  pub plans_fit : All (IsPlanOf checked.layout) checked.screens
  pub shapes_are : AreShapes checked.program.front keeps.items checked.shapes

-- the least fault of this program is this one
pub record IsRefused (program : Program) (fault : Fault) : Type 0 where
  pub items : List DataItem
  pub screens : List ScreenItem
  pub cycles : List Line
  pub items_are : AreDataItems program.front items
  pub screens_are : AreScreenItems program.front screens
  pub cycles_are : AreCycleLines program.paragraphs cycles
  pub least : IsLeast (program_faults program items screens cycles) fault
