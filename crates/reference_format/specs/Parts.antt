-- The first line of a text and the first word of a line.
use Rattle.std.specs.Prelude.{ℕ, List, [], ◌∷◌, ◌==◌, ◌≡◌, if◌then◌else◌}
use Rattle.cob_base.specs.Bytes.{carriage_return}
use Rattle.cob_base.specs.Lines.{words_of}

-- a line without a carriage return at its end
abbrev pub without_return : List ℕ → List ℕ
without_return [] = []
without_return (byte ∷ []) = if byte == carriage_return then [] else byte ∷ []
without_return (byte ∷ next ∷ bytes) = byte ∷ without_return (next ∷ bytes)

-- where the word is empty the text has no words; else its words are this one and those of what stands behind it
abbrev pub IsFirstWord : List ℕ → List ℕ → List ℕ → Type 0
IsFirstWord text [] rest = (words_of text ≡ []) × (words_of rest ≡ [])
IsFirstWord text (byte ∷ word) rest = words_of text ≡ (byte ∷ word) ∷ words_of rest
