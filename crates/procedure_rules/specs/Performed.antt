-- Reason 8: paragraphs that reach themselves through the ranges of PERFORM statements.
use Rattle.std.specs.Prelude.{◌≡◌, ℕ, ◌+◌, ◌⊎◌, List, [], ◌∷◌, ◌++◌, Option, Some, None, unwrap_or}
use Rattle.std.specs.List.{flat_map}
use Rattle.cob_base.specs.declared.line.Line.{Line}
use Rattle.cob_base.specs.declared.paragraphs.Paragraph.{Paragraph}
use Rattle.cob_base.specs.declared.statements.Statement.{Statement}
use Rattle.cob_base.specs.declared.statements.Statement.TheVariants as s
use Rattle.perform_cycles.specs.declared.arrows.Arrow.{Arrow}
use Rattle.perform_cycles.specs.Cycles.{IsOnCycle}
use Rattle.statement_parts.specs.Statements.{in_paragraph}
use Rattle.procedure_names.specs.Names.{paragraph_named}

abbrev pub arrow_between : ℕ → Option ℕ → Option ℕ → List Arrow
arrow_between here None last = []
arrow_between here (Some first) None = []
arrow_between here (Some first) (Some last) = record { from = here; first = first; last = last } ∷ []

-- the names of the first and of the last paragraph that a PERFORM runs, the last where THRU names it
abbrev pub range_of : Statement → Option (List ℕ × Option (List ℕ))
range_of (s.PerformParagraphs first last repeated) = Some (first, last)
range_of _ = None

-- a range runs from the paragraph of this number, where its names stand for paragraphs
abbrev pub arrow_to : List Paragraph → ℕ → Option (List ℕ × Option (List ℕ)) → List Arrow
arrow_to all here None = []
arrow_to all here (Some range) = arrow_between here (paragraph_named all range.0) (paragraph_named all (unwrap_or range.1 range.0))

abbrev pub arrow_of : List Paragraph → ℕ → Statement → List Arrow
arrow_of all here statement = arrow_to all here (range_of statement)

-- the ranges that paragraphs run, numbered from here on
abbrev pub arrows_from : List Paragraph → ℕ → List Paragraph → List Arrow
arrows_from all number [] = []
arrows_from all number (paragraph ∷ rest) =
    flat_map (λ one. arrow_of all number one.item) (in_paragraph paragraph) ++ arrows_from all (number + 1) rest

abbrev pub arrows : List Paragraph → List Arrow
arrows all = arrows_from all 0 all

-- these are the lines of those of the paragraphs, numbered from here on, that are on a cycle
abbrev pub AreOnCycles : List Arrow → ℕ → List Paragraph → List Line → Type 0
AreOnCycles arrows number [] lines = lines ≡ []
AreOnCycles arrows number (paragraph ∷ rest) lines =
    (IsOnCycle arrows number × ((others : List Line) × (lines ≡ paragraph.line ∷ others) × AreOnCycles arrows (number + 1) rest others))
    ⊎ ((IsOnCycle arrows number → ⊥) × AreOnCycles arrows (number + 1) rest lines)

-- the lines of all paragraphs that reach themselves, in order
abbrev pub AreCycleLines : List Paragraph → List Line → Type 0
AreCycleLines all lines = AreOnCycles (arrows all) 0 all lines
