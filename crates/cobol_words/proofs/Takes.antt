-- What is cut at the front of cells.
use Rattle.std.proofs.Common.{◌≡◌, ℕ, suc, ◌+◌, Bool, true, false, cond, List, [], ◌∷◌, ◌++◌, length, take, drop, Option, Some, None, refl, sym, ap, ◌∙◌, arith}
use Rattle.std.specs.Prelude.{◌==◌, ◌&&◌}
use Rattle.std.specs.List.{list_all}
use Rattle.std.proofs.lemmas.List.{length-map}
use Rattle.std.proofs.lemmas.Bool.{eqb-true, and_right}
use Rattle.std.proofs.lemmas.Bool.Decides.{nat_tests}
use Rattle.cob_base.specs.declared.line.Line.{Line}
use Rattle.cobol_words.specs.declared.cell.Cell.{Cell}
use Rattle.cobol_words.specs.Joined.{Piece, bytes_while, behind_while, goes_on_with}
use Rattle.cobol_words.specs.Runs.{is_digit, is_run_byte, number_at, word_at}
use Rattle.cob_base.specs.declared.word.Word.TheVariants as words
use Rattle.cobol_words.specs.Pictures.{is_break}
use Rattle.cobol_words.specs.Words.{Taken, takes, take_run, run_taken, sign_taken, take_number, take_name, take_sign, take_mark, take_angle, take_word, take_period_before, take_comma_before, behind_word, is_digits, decimals_len}
use Rattle.cobol_words.specs.Taking.{text_of, stops_words, Follows, IsSolid}
use Rattle.cobol_words.proofs.Cells.{bytes, front_len, fails_at_stops, bytes_while-cells, behind_while-cells, bytes_while-before, behind_while-before, goes_on_with-before, decimals_in-before}

-- the run at the front of cells, and what stands behind it
pub record IsRun (rest more behind : List Cell) : Type 0 where
  pub more_is : more ≡ take (front_len is_run_byte rest) rest
  pub behind_is : behind ≡ drop (front_len is_run_byte rest) rest

run_bytes : (rest more behind : List Cell) → IsRun rest more behind → bytes_while is_run_byte (text_of rest) ≡ bytes more
run_bytes rest more behind split = bytes_while-cells is_run_byte rest ∙ ap bytes (sym split.more_is)

run_behind : (rest more behind : List Cell) → IsRun rest more behind → behind_while is_run_byte (text_of rest) ≡ text_of behind
run_behind rest more behind split = behind_while-cells is_run_byte rest ∙ ap text_of (sym split.behind_is)

pub run_is : (cell : Cell) (rest more behind : List Cell) (run : List ℕ) → IsRun rest more behind → run ≡ cell.byte ∷ bytes more
    → take_run cell (text_of rest) ≡ run_taken cell.line run (length more) (text_of behind)
run_is cell rest more behind run split e =
    let k : length (bytes more) ≡ length more = simp length-map in
    ap (λ (b : List ℕ). run_taken cell.line (cell.byte ∷ b) (length b) (behind_while is_run_byte (text_of rest))) (run_bytes rest more behind split)
    ∙ ap (λ (h : List Piece). run_taken cell.line (cell.byte ∷ bytes more) (length (bytes more)) h) (run_behind rest more behind split)
    ∙ ap (λ (k : ℕ). run_taken cell.line (cell.byte ∷ bytes more) k (text_of behind)) k
    ∙ ap (λ (b : List ℕ). run_taken cell.line b (length more) (text_of behind)) (sym e)

pub sign_is : (spaced : Bool) (cell : Cell) (rest more behind : List Cell) (run : List ℕ) → IsRun rest more behind → run ≡ bytes more
    → take_sign spaced cell (text_of rest) ≡ sign_taken spaced cell run (text_of behind)
sign_is spaced cell rest more behind run split e =
    ap (λ (b : List ℕ). sign_taken spaced cell b (behind_while is_run_byte (text_of rest))) (run_bytes rest more behind split ∙ sym e)
    ∙ ap (λ (h : List Piece). sign_taken spaced cell run h) (run_behind rest more behind split)

pub digits_none : (run : List ℕ) → (length run == 0) ≡ true → is_digits run ≡ false
digits_none [] h = refl
digits_none (byte ∷ run) h = absurd (let e = eqb-true (length (byte ∷ run)) 0 h in omega arith)

pub digits_some : (run : List ℕ) → (length run == 0) ≡ false → is_digits run ≡ list_all is_digit run
digits_some [] h = absurd cc
digits_some (byte ∷ run) h = refl

-- ---- what follows the cells is no part of what is cut there

run_stops : fails_at_stops is_run_byte
run_stops = (refl, refl, refl, refl)

number_follows : (line : Line) (sign : Option ℕ) (digits : List ℕ) (more : ℕ) (behind : List Cell) (text : List Piece) → stops_words text ≡ true
    → take_number line sign digits more (text_of behind ++ text) ≡ take_number line sign digits more (text_of behind)
number_follows line sign digits more behind text h =
    ap (λ (d : List ℕ). takes (number_at line sign digits d ∷ []) (more + decimals_len d) behind_word) (decimals_in-before behind text h)

run_taken_follows : (line : Line) (run : List ℕ) (more : ℕ) (behind : List Cell) (text : List Piece) → stops_words text ≡ true
    → run_taken line run more (text_of behind ++ text) ≡ run_taken line run more (text_of behind)
run_taken_follows line run more behind text h =
    ap (λ (t : Taken). cond (list_all is_digit run) t (take_name line run more)) (number_follows line None run more behind text h)

pub run_follows : (cell : Cell) (rest : List Cell) (text : List Piece) → stops_words text ≡ true → take_run cell (text_of rest ++ text) ≡ take_run cell (text_of rest)
run_follows cell rest text h =
    let behind = drop (front_len is_run_byte rest) rest in
    ap (λ (b : List ℕ). run_taken cell.line (cell.byte ∷ b) (length b) (behind_while is_run_byte (text_of rest ++ text))) (bytes_while-before is_run_byte run_stops rest text h)
    ∙ ap (λ (p : List Piece). run_taken cell.line (cell.byte ∷ bytes_while is_run_byte (text_of rest)) (length (bytes_while is_run_byte (text_of rest))) p) (behind_while-before is_run_byte run_stops rest text h)
    ∙ run_taken_follows cell.line (cell.byte ∷ bytes_while is_run_byte (text_of rest)) (length (bytes_while is_run_byte (text_of rest))) behind text h
    ∙ ap (λ (p : List Piece). run_taken cell.line (cell.byte ∷ bytes_while is_run_byte (text_of rest)) (length (bytes_while is_run_byte (text_of rest))) p) (sym (behind_while-cells is_run_byte rest))

sign_taken_follows : (spaced : Bool) (cell : Cell) (run : List ℕ) (behind : List Cell) (text : List Piece) → stops_words text ≡ true
    → sign_taken spaced cell run (text_of behind ++ text) ≡ sign_taken spaced cell run (text_of behind)
sign_taken_follows spaced cell run behind text h =
    ap (λ (t : Taken). cond (spaced && is_digits run) t (take_mark cell behind_word)) (number_follows cell.line (Some cell.byte) run (length run) behind text h)

pub sign_follows : (spaced : Bool) (cell : Cell) (rest : List Cell) (text : List Piece) → stops_words text ≡ true → take_sign spaced cell (text_of rest ++ text) ≡ take_sign spaced cell (text_of rest)
sign_follows spaced cell rest text h =
    let behind = drop (front_len is_run_byte rest) rest in
    ap (λ (b : List ℕ). sign_taken spaced cell b (behind_while is_run_byte (text_of rest ++ text))) (bytes_while-before is_run_byte run_stops rest text h)
    ∙ ap (λ (p : List Piece). sign_taken spaced cell (bytes_while is_run_byte (text_of rest)) p) (behind_while-before is_run_byte run_stops rest text h)
    ∙ sign_taken_follows spaced cell (bytes_while is_run_byte (text_of rest)) behind text h
    ∙ ap (λ (p : List Piece). sign_taken spaced cell (bytes_while is_run_byte (text_of rest)) p) (sym (behind_while-cells is_run_byte rest))

pub angle_follows : (cell : Cell) (rest : List Cell) (text : List Piece) → stops_words text ≡ true → take_angle cell (text_of rest ++ text) ≡ take_angle cell (text_of rest)
angle_follows cell rest text h =
    ap (λ (b : Bool). cond b (takes (word_at cell.line (words.Mark (cell.byte ∷ 61 ∷ [])) ∷ []) 1 behind_word) (take_mark cell behind_word)) (goes_on_with-before 61 refl rest text h)

nonzero : (n : ℕ) → (suc n == 0) ≡ false
nonzero n = grind (arith, nat_tests)

-- behind a byte of solid cells stands a break only where they end
pub break_follows : (rest : List Cell) (text : List Piece) → IsSolid rest → stops_words text ≡ true → is_break (text_of rest ++ text) ≡ (is_break text && (length rest == 0))
break_follows [] text solid h = sym (and_right_true (is_break text))
  where
    and_right_true : (b : Bool) → (b && true) ≡ b
    and_right_true true = refl
    and_right_true false = refl
break_follows (cell ∷ rest) text solid h =
    let starred : goes_on_with 62 (text_of rest ++ text) ≡ goes_on_with 62 (text_of rest) = goes_on_with-before 62 refl rest text h in
    let some : (length (cell ∷ rest) == 0) ≡ false = nonzero (length rest) in
    rw (some, starred) (solid.0 ∙ sym (and_right (is_break text) false refl))

-- ---- the kind of word that a byte begins

pub at_plus : (spaced : Bool) (cell : Cell) (text : List Piece) → cell.byte ≡ 43 → take_word spaced cell text ≡ take_sign spaced cell text
at_plus spaced cell text e = rw e refl

pub at_minus : (spaced : Bool) (cell : Cell) (text : List Piece) → cell.byte ≡ 45 → take_word spaced cell text ≡ take_sign spaced cell text
at_minus spaced cell text e = rw e refl

pub at_less : (spaced : Bool) (cell : Cell) (text : List Piece) → cell.byte ≡ 60 → take_word spaced cell text ≡ take_angle cell text
at_less spaced cell text e = rw e refl

pub at_greater : (spaced : Bool) (cell : Cell) (text : List Piece) → cell.byte ≡ 62 → take_word spaced cell text ≡ take_angle cell text
at_greater spaced cell text e = rw e refl

pub at_period : (spaced : Bool) (cell : Cell) (text : List Piece) → cell.byte ≡ 46 → take_word spaced cell text ≡ take_period_before (is_break text) cell
at_period spaced cell text e = rw e refl

pub at_comma : (spaced : Bool) (cell : Cell) (text : List Piece) → cell.byte ≡ 44 → take_word spaced cell text ≡ take_comma_before (is_break text) cell
at_comma spaced cell text e = rw e refl

pub at_semicolon : (spaced : Bool) (cell : Cell) (text : List Piece) → cell.byte ≡ 59 → take_word spaced cell text ≡ take_comma_before (is_break text) cell
at_semicolon spaced cell text e = rw e refl

-- what follows cells whose first isn't looked at
pub ends_break : (ends : Bool) (rest : List Cell) (text : List Piece) → IsSolid rest → Follows ends text → is_break (text_of rest ++ text) ≡ (ends && (length rest == 0))
ends_break ends rest text solid f = break_follows rest text solid f.stops ∙ ap (λ (b : Bool). b && (length rest == 0)) f.breaks
