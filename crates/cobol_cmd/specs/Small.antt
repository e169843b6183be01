-- The small programs, which show one literal on one screen and stop.
use Rattle.std.specs.Prelude.{◌≡◌, ℕ, ◌+◌, ◌*◌, ◌≤◌, List, [], ◌∷◌, pos, false, map, length, codes}
use Rattle.std.specs.Char.{to_ascii_lowercase}
use Rattle.cob_base.specs.declared.word.Word.{Word}
use Rattle.cob_base.specs.declared.word.Word.TheVariants.{Name, Text, Number, Stop}
use Rattle.cob_base.specs.declared.word.Spoken.{Spoken}

-- how a word is spelled: the case of letters in a name and the leading zeros of a number make no difference
abbrev pub spelling : Word → Word
spelling (Name bytes) = Name (map to_ascii_lowercase bytes)
spelling (Number value digits decimals signed) = Number value 0 decimals signed
spelling word = word

abbrev pub spellings : List Spoken → List Word
spellings words = map (λ spoken. spelling spoken.word) words

-- the spelling of a name or a reserved word
abbrev pub named : List ℕ → Word
named bytes = Name (map to_ascii_lowercase bytes)

-- the spelling of a whole number without a sign
abbrev pub whole : ℕ → Word
whole n = Number (pos (n * 1000000)) 0 0 false

abbrev pub heading : List ℕ → List Word → List Word
heading program rest =
    named (codes "IDENTIFICATION") ∷ named (codes "DIVISION") ∷ Stop ∷ named (codes "PROGRAM-ID") ∷ Stop ∷ named program ∷ Stop ∷ rest

abbrev pub screen_heading : List ℕ → List Word → List Word
screen_heading screen rest =
    named (codes "DATA") ∷ named (codes "DIVISION") ∷ Stop ∷ named (codes "SCREEN") ∷ named (codes "SECTION") ∷ Stop ∷ whole 1 ∷ named screen ∷ Stop ∷ rest

abbrev pub screen_item : ℕ → ℕ → List ℕ → List Word → List Word
screen_item line column bytes rest =
    whole 5 ∷ named (codes "LINE") ∷ whole line ∷ named (codes "COLUMN") ∷ whole column ∷ named (codes "VALUE") ∷ Text bytes ∷ Stop ∷ rest

abbrev pub procedure : List ℕ → List Word
procedure screen =
    named (codes "PROCEDURE") ∷ named (codes "DIVISION") ∷ Stop ∷ named (codes "DISPLAY") ∷ named screen ∷ Stop ∷ named (codes "STOP") ∷ named (codes "RUN") ∷ Stop ∷ []

-- the bytes lie on the screen, from a line and a column on
pub record OnScreen (line column : ℕ) (bytes : List ℕ) : Type 0 where
  pub first_line : 1 ≤ line
  pub last_line : line ≤ 24
  pub first_column : 1 ≤ column
  pub last_column : column + length bytes ≤ 81

-- The words are those of a program with one screen, which has one literal at a line and a column; the program displays it
-- and stops. The literal lies on the screen.
pub record Small (words : List Spoken) (line column : ℕ) (bytes : List ℕ) : Type 0 where
  pub program : List ℕ
  pub screen : List ℕ
  pub words_are : spellings words ≡ heading program (screen_heading screen (screen_item line column bytes (procedure screen)))
  pub on_screen : OnScreen line column bytes
