use Rattle.std.proofs.Common.{◌≡◌, ◌⊎◌, refl, subst, List, Option, Some, None}
use Rattle.cob_base.specs.declared.divisions.DataDivision.{DataDivision}
use Rattle.cob_base.specs.declared.screen_entries.ScreenEntry.{ScreenEntry}
use Rattle.data_layout.specs.Rows.{or_none}
use Rattle.data_names.specs.Parts.{screens_of}
use Rattle.screen_layout.specs.declared.fault.ScreenFault.{ScreenFault}
use Rattle.screen_layout.specs.Outcome.{AreScreensOf, IsScreenFaultOf, division_screens}
use Rattle.screen_layout.specs.Outcome as s
use Rattle.cobol_checker.proofs.ScreensPlanned.{only_memory_screens}
use Rattle.cobol_checker.proofs.checking.screens_of.Goals as goal

same_list : (screens : Option (List ScreenEntry)) → s.or_none screens ≡ or_none screens
same_list None = refl
same_list (Some screens) = refl

-- both have the entries of the screen section
same_entries : (d : Option DataDivision) → division_screens d ≡ screens_of d
same_entries None = refl
same_entries (Some division) = same_list division.screens

pub returns-in-Ok-clause-plans : goal.returns-in-Ok-clause-plans
returns-in-Ok-clause-plans c = subst (λ (entries : List ScreenEntry). AreScreensOf c.args.layout.now entries c.in-Ok.screens) (same_entries c.args.front.now.data) c.in-Ok.ensures.plans

pub no_memory_of_screens-requires : goal.no_memory_of_screens-requires
no_memory_of_screens-requires c =
    only_memory_screens c.args.front.now c.args.layout.now c.in-Err.fault c.requires.faultless c.requires.laid_out
    (subst (λ (entries : List ScreenEntry). (c.in-Err.fault ≡ ScreenFault.NoMemory) ⊎ IsScreenFaultOf c.args.layout.now entries c.in-Err.fault) (same_entries c.args.front.now.data) c.in-Err.ensures.fault)
