-- Cells at the front of a text.
use Rattle.std.proofs.Common.{◌≡◌, ℕ, suc, ◌+◌, ◌-◌, length-drop, Bool, true, false, List, [], ◌∷◌, ◌++◌, length, map, take, drop, refl, sym, ap, arith, inl, inr}
use Rattle.std.specs.Prelude.{◌==◌, codes}
use Rattle.std.specs.List.{list_all, list_any, prefix_len}
use Rattle.std.proofs.lemmas.List.{take_all}
use Rattle.std.proofs.lemmas.Bool.{cases_Bool, or_cases, eqb-true, both_ways}
use Rattle.cobol_words.specs.declared.cell.Cell.{Cell}
use Rattle.cobol_words.specs.Joined.{Piece, bytes_while, behind_while, goes_on_with}
use Rattle.cobol_words.specs.Runs.{is_digit, decimals_in}
use Rattle.cobol_words.specs.Taking.{text_of, stops_words}

abbrev pub bytes : List Cell → List ℕ
bytes cells = map (λ cell. cell.byte) cells

abbrev pub front_len : (ℕ → Bool) → List Cell → ℕ
front_len p cells = prefix_len (λ cell. p cell.byte) cells

one_more : (n : ℕ) → 1 + n ≡ suc n
one_more n = omega arith

pub bytes_while-cells : (p : ℕ → Bool) (cells : List Cell) → bytes_while p (text_of cells) ≡ bytes (take (front_len p cells) cells)
bytes_while-cells p [] = refl
bytes_while-cells p (cell ∷ cells) =
    elim (cases_Bool (p cell.byte)) [
      | inl e ↦ rw (e, one_more (front_len p cells)) (ap (λ (xs : List ℕ). cell.byte ∷ xs) (bytes_while-cells p cells))
      | inr e ↦ rw e refl
    ]

pub behind_while-cells : (p : ℕ → Bool) (cells : List Cell) → behind_while p (text_of cells) ≡ text_of (drop (front_len p cells) cells)
behind_while-cells p [] = refl
behind_while-cells p (cell ∷ cells) =
    elim (cases_Bool (p cell.byte)) [
      | inl e ↦ rw (e, one_more (front_len p cells)) (behind_while-cells p cells)
      | inr e ↦ rw e refl
    ]

pub bytes_while-all : (p : ℕ → Bool) (text : List Piece) → list_all p (bytes_while p text) ≡ true
bytes_while-all p [] = refl
bytes_while-all p (Piece.at cell ∷ text) =
    elim (cases_Bool (p cell.byte)) [
      | inl e ↦ rw (e, e) (bytes_while-all p text)
      | inr e ↦ rw e refl
    ]
bytes_while-all p (Piece.line_end ∷ text) = refl
bytes_while-all p (Piece.wrong line ∷ text) = refl

-- ---- what follows the cells stops each word

-- a test that fails at what stops a word
abbrev pub fails_at_stops : (ℕ → Bool) → Type 0
fails_at_stops p = (p 32 ≡ false) × (p 42 ≡ false) × (p 34 ≡ false) × (p 39 ≡ false)

pub same_byte : (p : ℕ → Bool) (k b : ℕ) → (k == b) ≡ true → p k ≡ false → p b ≡ false
same_byte p k b e h = let q = eqb-true k b e in rw (← q) h

pub stopped : (p : ℕ → Bool) → fails_at_stops p → (b : ℕ) → list_any (λ byte. byte == b) (codes " *\"'") ≡ true → p b ≡ false
stopped p f b h =
    elim (or_cases (32 == b) _ h) [
      | inl e ↦ same_byte p 32 b e f.0
      | inr h' ↦ elim (or_cases (42 == b) _ h') [
        | inl e ↦ same_byte p 42 b e f.1
        | inr h'' ↦ elim (or_cases (34 == b) _ h'') [
          | inl e ↦ same_byte p 34 b e f.2
          | inr h''' ↦ elim (or_cases (39 == b) false h''') [
            | inl e ↦ same_byte p 39 b e f.3
            | inr e ↦ absurd cc
          ]
        ]
      ]
    ]

pub bytes_while-stops : (p : ℕ → Bool) → fails_at_stops p → (text : List Piece) → stops_words text ≡ true → bytes_while p text ≡ []
bytes_while-stops p f [] h = refl
bytes_while-stops p f (Piece.at cell ∷ text) h = rw (stopped p f cell.byte h) refl
bytes_while-stops p f (Piece.line_end ∷ text) h = refl
bytes_while-stops p f (Piece.wrong line ∷ text) h = refl

pub behind_while-stops : (p : ℕ → Bool) → fails_at_stops p → (text : List Piece) → stops_words text ≡ true → behind_while p text ≡ text
behind_while-stops p f [] h = refl
behind_while-stops p f (Piece.at cell ∷ text) h = rw (stopped p f cell.byte h) refl
behind_while-stops p f (Piece.line_end ∷ text) h = refl
behind_while-stops p f (Piece.wrong line ∷ text) h = refl

pub bytes_while-before : (p : ℕ → Bool) → fails_at_stops p → (cells : List Cell) (text : List Piece) → stops_words text ≡ true → bytes_while p (text_of cells ++ text) ≡ bytes_while p (text_of cells)
bytes_while-before p f [] text h = bytes_while-stops p f text h
bytes_while-before p f (cell ∷ cells) text h = rw (bytes_while-before p f cells text h) refl

pub behind_while-before : (p : ℕ → Bool) → fails_at_stops p → (cells : List Cell) (text : List Piece) → stops_words text ≡ true → behind_while p (text_of cells ++ text) ≡ text_of (drop (front_len p cells) cells) ++ text
behind_while-before p f [] text h = behind_while-stops p f text h
behind_while-before p f (cell ∷ cells) text h =
    elim (cases_Bool (p cell.byte)) [
      | inl e ↦ rw (e, one_more (front_len p cells)) (behind_while-before p f cells text h)
      | inr e ↦ rw e refl
    ]

abbrev pub is_stop_byte : ℕ → Bool
is_stop_byte b = list_any (λ byte. byte == b) (codes " *\"'")

-- a byte that stops words is none that doesn't
not_there : (b c : ℕ) → is_stop_byte b ≡ false → is_stop_byte c ≡ true → (c == b) ≡ false
not_there b c n h = elim (cases_Bool (c == b)) [
  | inl e ↦ absurd (let q = eqb-true c b e in both_ways (is_stop_byte b) n (rw (← q) h))
  | inr e ↦ e
]

pub goes_on_with-before : (b : ℕ) → list_any (λ byte. byte == b) (codes " *\"'") ≡ false → (cells : List Cell) (text : List Piece) → stops_words text ≡ true → goes_on_with b (text_of cells ++ text) ≡ goes_on_with b (text_of cells)
goes_on_with-before b n [] [] h = refl
goes_on_with-before b n [] (Piece.at cell ∷ text) h = not_there b cell.byte n h
goes_on_with-before b n [] (Piece.line_end ∷ text) h = refl
goes_on_with-before b n [] (Piece.wrong line ∷ text) h = refl
goes_on_with-before b n (cell ∷ cells) text h = refl

digit_stops : fails_at_stops is_digit
digit_stops = (refl, refl, refl, refl)

pub decimals_in-before : (cells : List Cell) (text : List Piece) → stops_words text ≡ true → decimals_in (text_of cells ++ text) ≡ decimals_in (text_of cells)
decimals_in-before [] [] h = refl
decimals_in-before [] (Piece.at cell ∷ text) h = rw (stopped (λ b. b == 46) (refl, refl, refl, refl) cell.byte h) refl
decimals_in-before [] (Piece.line_end ∷ text) h = refl
decimals_in-before [] (Piece.wrong line ∷ text) h = refl
decimals_in-before (cell ∷ cells) text h = rw (bytes_while-before is_digit digit_stops cells text h) refl

-- ---- the digits behind a period

pub behind_first : (cells : List Cell) → take (length cells - 1) (drop 1 cells) ≡ drop 1 cells
behind_first cells = take_all (length cells - 1) (drop 1 cells) (omega (arith, length-drop 1 cells))

pub decimals_in-cells : (cells : List Cell) → goes_on_with 46 (text_of cells) ≡ true
    → bytes (take (front_len is_digit (drop 1 cells)) (drop 1 cells)) ≡ decimals_in (text_of cells)
decimals_in-cells [] h = absurd cc
decimals_in-cells (cell ∷ cells) h = rw h (sym (bytes_while-cells is_digit cells))

pub all_digits : (cells : List Cell) → list_all is_digit (bytes (take (front_len is_digit cells) cells)) ≡ true
all_digits cells = rw (← bytes_while-cells is_digit cells) (bytes_while-all is_digit (text_of cells))
