-- What the judging of a program comes to.
use Rattle.std.specs.Prelude.{◌≡◌, List, []}
use Rattle.cob_base.specs.declared.divisions.Front.{Front}
use Rattle.cob_base.specs.declared.paragraphs.Program.{Program}
use Rattle.sharing_table.specs.declared.shape.Shape.{Shape}
use Rattle.data_names.specs.Items.{DataItem, AreDataItems}
use Rattle.entry_clauses.specs.ScreenItems.{ScreenItem, AreScreenItems}
use Rattle.front_rules.specs.Faults.{front_faults}
use Rattle.cobol_checker.specs.Outcome.{KeepsRules, IsRefused}
use Rattle.cobol_checker.specs.Shapes.{AreShapes}
use Rattle.cobol_checker.specs.declared.checking.Verdict.{Verdict}
use Rattle.cobol_checker.specs.declared.checking.Verdict.TheVariants as v

-- no condition on the front fails
pub record IsFaultless (front : Front) : Type 0 where
  pub items : List DataItem
  pub screens : List ScreenItem
  pub items_are : AreDataItems front items
  pub screens_are : AreScreenItems front screens
  pub faultless : front_faults front items screens ≡ []

-- no condition fails, and these are the shapes of the files
pub record IsKept (program : Program) (shapes : List Shape) : Type 0 where
  pub keeps : KeepsRules program
  pub shapes_are : AreShapes program.front keeps.items shapes

-- a program that breaks no rule and the shapes of its files, or the least fault
abbrev pub IsJudged : Program → Verdict → Type 0
IsJudged program (v.Kept shapes) = IsKept program shapes
IsJudged program (v.Refused fault) = IsRefused program fault
