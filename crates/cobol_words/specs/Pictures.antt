-- What stands after PIC or PICTURE.
use Rattle.std.specs.Prelude.{ℕ, List, [], ◌∷◌, Bool, true, false, ◌==◌, ◌&&◌, ◌||◌, if◌then◌else◌, codes}
use Rattle.std.specs.List.{list_any}
use Rattle.cob_base.specs.Bytes.{space, same_word}
use Rattle.cobol_words.specs.declared.before.Wish.{Wish}
use Rattle.cobol_words.specs.declared.before.Wish.TheVariants as wishes
use Rattle.cobol_words.specs.Joined.{Piece, goes_on_with}

-- a picture is wanted behind PIC and PICTURE
abbrev pub wish_after : List ℕ → Wish
wish_after run = if same_word run (codes "PIC") || same_word run (codes "PICTURE") then wishes.PictureOrIs else wishes.NoPicture

-- a comment begins here
abbrev pub begins_comment : List Piece → Bool
begins_comment [] = false
begins_comment (Piece.at cell ∷ text) = (cell.byte == 42) && goes_on_with 62 text
begins_comment (_ ∷ text) = false

-- a space, a line end or a comment stands here
abbrev pub is_break : List Piece → Bool
is_break [] = true
is_break (Piece.at cell ∷ text) = (cell.byte == space) || ((cell.byte == 42) && goes_on_with 62 text)
is_break (_ ∷ text) = true

-- the nonspace bytes up to a space, a line end or a comment
abbrev pub bytes_to_break : List Piece → List ℕ
bytes_to_break [] = []
bytes_to_break (Piece.at cell ∷ text) = if is_break (Piece.at cell ∷ text) then [] else cell.byte ∷ bytes_to_break text
bytes_to_break (_ ∷ text) = []

-- a period, comma or semicolon
abbrev pub is_final_mark : ℕ → Bool
is_final_mark byte = list_any (λ mark. mark == byte) (codes ".,;")

-- a run of nonspace bytes less one final mark
abbrev pub less_final_mark : List ℕ → List ℕ
less_final_mark [] = []
less_final_mark (byte ∷ []) = if is_final_mark byte then [] else byte ∷ []
less_final_mark (byte ∷ next ∷ bytes) = byte ∷ less_final_mark (next ∷ bytes)
