-- The marks of paragraphs that the code has, as the definitions see them.
use Rattle.std.specs.Prelude.{ℕ, ◌+◌, Bool, false, if◌then◌else◌, List, [], ◌∷◌, slice_index_or}
use Rattle.cob_base.specs.declared.line.Line.{Line}
use Rattle.cob_base.specs.declared.paragraphs.Paragraph.{Paragraph}

-- the lines of the paragraphs, numbered from here on, whose marks are set
abbrev pub marked_from : List Bool → ℕ → List Paragraph → List Line
marked_from marks number [] = []
marked_from marks number (paragraph ∷ rest) =
    if slice_index_or marks number false then paragraph.line ∷ marked_from marks (number + 1) rest else marked_from marks (number + 1) rest
