-- Where comments and literals end.
use Rattle.std.proofs.Common.{◌≡◌, ℕ, suc, ◌+◌, ◌≤◌, Bool, true, false, List, [], ◌∷◌, ◌++◌, length, map, drop, Err, refl, sym, ap, ◌∙◌, arith, inl, inr}
use Rattle.std.specs.Prelude.{◌==◌}
use Rattle.std.proofs.lemmas.Bool.{or_cases, eqb-true, eq-eqb, ne_eqb}
use Rattle.std.proofs.lemmas.List.{append-nil, drop_all}
use Rattle.cob_base.specs.declared.line.Line.{Line}
use Rattle.cob_base.specs.declared.word.Word.{Word}
use Rattle.cob_base.specs.declared.word.Spoken.{Spoken}
use Rattle.cobol_words.specs.declared.cell.Cell.{Cell}
use Rattle.cobol_words.specs.declared.before.Before.{Before}
use Rattle.cobol_words.specs.declared.before.Wish.{Wish}
use Rattle.cobol_words.specs.declared.before.Wish.TheVariants as wishes
use Rattle.cobol_words.specs.declared.cutter.Stage.{Stage}
use Rattle.cobol_words.specs.declared.cutter.Stage.TheVariants as stages
use Rattle.cobol_words.specs.declared.fault.WordFault.{WordFault}
use Rattle.cobol_words.specs.declared.fault.WordFault.TheVariants as faults
use Rattle.cobol_words.specs.Joined.{Piece, goes_on_with}
use Rattle.cobol_words.specs.Quoted.{Ending, Quoted, quoted, ended}
use Rattle.cobol_words.specs.Runs.{Found, word_at}
use Rattle.cobol_words.specs.Words.{Taken, takes, take_at, take_literal, found_in, found_in_quotes, behind_word, behind_space, bytes_in_line, comment_len}
use Rattle.cobol_words.specs.Text.{words_or_fault}
use Rattle.cobol_words.specs.Taking.{text_of, is_quote, wants_none, found_after, FoundAs, GoesOn}
use Rattle.cobol_words.specs.Cutting.{opening, IsAt, IsCommentTo, IsOpen, IsClosed, closed_with}
use Rattle.cobol_words.proofs.Cuts.{skip, first_fault}
use Rattle.cobol_words.proofs.Quotes.{front, quoted_open, quoted_closed}

-- ---- comments

one_behind : (before : Before) (n : ℕ) (piece : Piece) (text : List Piece) → found_in before (n + 1) (piece ∷ text) ≡ found_in before n text
one_behind before n piece text =
    let e : n + 1 ≡ suc n = omega arith in
    ap (λ (k : ℕ). found_in before k (piece ∷ text)) e

pub comment_found : (before : Before) (star end : Cell) (text : List Piece) → star.byte ≡ 42 → end.byte ≡ 62
    → found_in before 0 (Piece.at star ∷ Piece.at end ∷ text) ≡ found_in (behind_space before.wish) (bytes_in_line end.line text) text
comment_found before star end text s e =
    let taken : take_at before star (Piece.at end ∷ text) ≡ takes [] (comment_len (Piece.at end ∷ text)) (behind_space before.wish) = rw (s, e) refl in
    ap (λ (t : Taken). t.found ++ found_in t.before t.more (Piece.at end ∷ text)) taken
    ∙ one_behind (behind_space before.wish) (bytes_in_line end.line text) (Piece.at end) text

pub comment_goes_on : (words : List Spoken) (before : Before) (stage : Stage) (cells : List Cell) (end cell : Cell) (text : List Piece) → IsAt stage before cells → IsCommentTo end stage
    → cell.line.0 ≡ end.line.0 → found_after words before (opening stage ++ cells) text ≡ found_after words before (opening stage ++ cells) (Piece.at cell ∷ text)
comment_goes_on words before stages.Outside cells end cell text h c e = absurd c
comment_goes_on words before (stages.Literal mark) cells end cell text h c e = absurd c
comment_goes_on words before (stages.Closed mark) cells end cell text h c e = absurd c
comment_goes_on words before (stages.Comment star last) cells end cell text h c e =
    let line : cell.line.0 ≡ last.line.0 = rw c e in
    let same : (cell.line.0 == last.line.0) ≡ true = eq-eqb _ _ line in
    let longer : bytes_in_line last.line (Piece.at cell ∷ text) ≡ bytes_in_line last.line text + 1 = rw same refl in
    let before_it = comment_found before star last text h.star_is h.end_is in
    let behind_it = comment_found before star last (Piece.at cell ∷ text) h.star_is h.end_is in
    ap (λ (xs : List Cell). found_after words before (star ∷ last ∷ xs) text) h.none
    ∙ ap (λ (found : List Found). map Found.said words ++ found)
    (before_it ∙ sym (one_behind (behind_space before.wish) (bytes_in_line last.line text) (Piece.at cell) text)
    ∙ ap (λ (k : ℕ). found_in (behind_space before.wish) k (Piece.at cell ∷ text)) (sym longer) ∙ sym behind_it)
    ∙ ap (λ (xs : List Cell). found_after words before (star ∷ last ∷ xs) (Piece.at cell ∷ text)) (sym h.none)

spaced_is : (before : Before) → before.spaced ≡ true → behind_space before.wish ≡ before
spaced_is before e = ap (λ (s : Bool). record { wish = before.wish; spaced = s }) (sym e)

pub comment_ends : (words : List Spoken) (before : Before) (stage : Stage) (cells : List Cell) (end cell : Cell) (text : List Piece) → IsAt stage before cells → IsCommentTo end stage
    → (cell.line.0 ≡ end.line.0 → ⊥) → found_after words before (opening stage ++ cells) (Piece.at cell ∷ text) ≡ found_after words before cells (Piece.at cell ∷ text)
comment_ends words before stages.Outside cells end cell text h c e = absurd c
comment_ends words before (stages.Literal mark) cells end cell text h c e = absurd c
comment_ends words before (stages.Closed mark) cells end cell text h c e = absurd c
comment_ends words before (stages.Comment star last) cells end cell text h c e =
    let other : (cell.line.0 == last.line.0) ≡ false = ne_eqb _ _ (λ line. e (rw (← c) line)) in
    let none : bytes_in_line last.line (Piece.at cell ∷ text) ≡ 0 = rw other refl in
    ap (λ (xs : List Cell). found_after words before (star ∷ last ∷ xs) (Piece.at cell ∷ text)) h.none
    ∙ ap (λ (found : List Found). map Found.said words ++ found)
    (comment_found before star last (Piece.at cell ∷ text) h.star_is h.end_is
    ∙ ap (λ (k : ℕ). found_in (behind_space before.wish) k (Piece.at cell ∷ text)) none
    ∙ ap (λ (b : Before). found_in b 0 (Piece.at cell ∷ text)) (spaced_is before h.spaced))
    ∙ ap (λ (xs : List Cell). found_after words before xs (Piece.at cell ∷ text)) (sym h.none)

-- ---- literals

no_wish : (wish : Wish) → wants_none wish ≡ true → wish ≡ wishes.NoPicture
no_wish wishes.NoPicture h = refl
no_wish wishes.Picture h = absurd cc
no_wish wishes.PictureOrIs h = absurd cc

quote_at : (before : Before) (mark : Cell) (text : List Piece) (byte : ℕ) → mark.byte ≡ byte → wants_none before.wish ≡ true → is_quote byte ≡ true
    → take_at before mark text ≡ take_literal mark text
quote_at before mark text byte e w q = elim (or_cases (byte == 34) (byte == 39) q) [
  | inl h ↦ (let b : mark.byte ≡ 34 = e ∙ eqb-true byte 34 h in rw (b, no_wish before.wish w) refl)
  | inr h ↦ (let b : mark.byte ≡ 39 = e ∙ eqb-true byte 39 h in rw (b, no_wish before.wish w) refl)
]

not_again : (mark : ℕ) (text : List Piece) → goes_on_with mark text ≡ false → quoted mark true text ≡ ended Ending.closed
not_again mark [] h = refl
not_again mark (Piece.at cell ∷ text) h = rw h refl
not_again mark (Piece.line_end ∷ text) h = refl
not_again mark (Piece.wrong line ∷ text) h = refl

behind_literal : (mark : Cell) (cells : List Cell) (text : List Piece) (n : ℕ) → n ≡ length cells → found_in behind_word n (text_of cells ++ text) ≡ found_in behind_word 0 text
behind_literal mark cells text n e =
    let within : n ≤ length cells = omega arith in
    let none : drop n cells ≡ [] = drop_all n cells (omega arith) in
    skip behind_word cells n text within ∙ ap (λ (rest : List Cell). found_in behind_word 0 (text_of rest ++ text)) none

pub literal_found : (before : Before) (mark : Cell) (cells : List Cell) (text : List Piece) → IsClosed mark before cells → goes_on_with mark.byte text ≡ false
    → found_in before 0 (text_of (mark ∷ cells) ++ text) ≡ found_in_quotes mark (closed_with (quoted mark.byte false (text_of cells)).bytes) ∷ found_in behind_word 0 text
literal_found before mark cells text closed h =
    let q = quoted mark.byte false (text_of cells) in
    let all : quoted mark.byte false (text_of cells ++ text) ≡ front q (ended Ending.closed) =
    quoted_closed mark.byte false cells text closed.ending closed.whole ∙ ap (front q) (not_again mark.byte text h) in
    let n : q.more + 0 ≡ length cells = (let w = closed.whole in omega arith) in
    ap (λ (t : Taken). t.found ++ found_in t.before t.more (text_of cells ++ text)) (quote_at before mark (text_of cells ++ text) mark.byte refl closed.plain closed.quote)
    ∙ ap (λ (r : Quoted). found_in_quotes mark r ∷ found_in behind_word r.more (text_of cells ++ text)) all
    ∙ ap (λ (b : List ℕ). found_in_quotes mark (closed_with b) ∷ found_in behind_word (q.more + 0) (text_of cells ++ text)) (append-nil q.bytes)
    ∙ ap (λ (found : List Found). found_in_quotes mark (closed_with q.bytes) ∷ found) (behind_literal mark cells text (q.more + 0) n)

said_last : (words : List Spoken) (word : Spoken) (found : List Found) → map Found.said (words ++ word ∷ []) ++ found ≡ map Found.said words ++ (Found.said word ∷ found)
said_last [] word found = refl
said_last (first ∷ words) word found = ap (λ (xs : List Found). Found.said first ∷ xs) (said_last words word found)

pub literal_cut : (words : List Spoken) (before : Before) (mark : Cell) (cells : List Cell) (text : List Piece) (word : Word) → IsClosed mark before cells → goes_on_with mark.byte text ≡ false
    → found_in_quotes mark (closed_with (quoted mark.byte false (text_of cells)).bytes) ≡ word_at mark.line word
    → found_after (words ++ record { line = mark.line; word = word } ∷ []) behind_word [] text ≡ found_after words before (mark ∷ cells) text
literal_cut words before mark cells text word closed h e =
    said_last words (record { line = mark.line; word = word }) (found_in behind_word 0 text)
    ∙ ap (λ (found : Found). map Found.said words ++ (found ∷ found_in behind_word 0 text)) (sym e)
    ∙ ap (λ (found : List Found). map Found.said words ++ found) (sym (literal_found before mark cells text closed h))

literal_fault : (words : List Spoken) (before : Before) (mark : Cell) (cells : List Cell) (text : List Piece) (fault : WordFault) → IsClosed mark before cells → goes_on_with mark.byte text ≡ false
    → found_in_quotes mark (closed_with (quoted mark.byte false (text_of cells)).bytes) ≡ Found.fault fault
    → words_or_fault (found_after words before (mark ∷ cells) text) ≡ Err fault
literal_fault words before mark cells text fault closed h e =
    ap (λ (found : List Found). words_or_fault (map Found.said words ++ found)) (literal_found before mark cells text closed h)
    ∙ ap (λ (found : Found). words_or_fault (map Found.said words ++ (found ∷ found_in behind_word 0 text))) e
    ∙ first_fault words fault (found_in behind_word 0 text)

pub literal_refused : {A : Type 0} (fault : WordFault) (after : A → List Found) (words : List Spoken) (before : Before) (mark : Cell) (cells : List Cell) (text : List Piece)
    → IsClosed mark before cells → goes_on_with mark.byte text ≡ false
    → FoundAs mark.line (Err fault) (found_in_quotes mark (closed_with (quoted mark.byte false (text_of cells)).bytes))
    → GoesOn (Err fault) after (found_after words before (mark ∷ cells) text)
literal_refused faults.NoMemory after words before mark cells text closed h e = tt
literal_refused fault after words before mark cells text closed h e = literal_fault words before mark cells text fault closed h e

pub open_found : (before : Before) (mark : Cell) (cells : List Cell) (text : List Piece) (rest : Quoted) → IsOpen mark before cells → quoted mark.byte false text ≡ rest
    → found_in before 0 (text_of (mark ∷ cells) ++ text)
    ≡ found_in_quotes mark (front (quoted mark.byte false (text_of cells)) rest) ∷ found_in behind_word (front (quoted mark.byte false (text_of cells)) rest).more (text_of cells ++ text)
open_found before mark cells text rest o e =
    let q = quoted mark.byte false (text_of cells) in
    let all : quoted mark.byte false (text_of cells ++ text) ≡ front q rest = quoted_open mark.byte false cells text o.ending ∙ ap (front q) e in
    ap (λ (t : Taken). t.found ++ found_in t.before t.more (text_of cells ++ text)) (quote_at before mark (text_of cells ++ text) mark.byte refl o.plain o.quote)
    ∙ ap (λ (r : Quoted). found_in_quotes mark r ∷ found_in behind_word r.more (text_of cells ++ text)) all

-- a literal that is open at a line's end
pub open_at_end : (words : List Spoken) (before : Before) (mark : Cell) (cells : List Cell) (text : List Piece) → IsOpen mark before cells
    → words_or_fault (found_after words before (mark ∷ cells) (Piece.line_end ∷ text)) ≡ Err (faults.OpenLiteral mark.line)
open_at_end words before mark cells text o =
    let rest = ended Ending.open_at_line_end in
    let q = quoted mark.byte false (text_of cells) in
    ap (λ (found : List Found). words_or_fault (map Found.said words ++ found)) (open_found before mark cells (Piece.line_end ∷ text) rest o refl)
    ∙ first_fault words (faults.OpenLiteral mark.line) (found_in behind_word (front q rest).more (text_of cells ++ Piece.line_end ∷ text))

-- a literal that a continuation line doesn't go on with
pub broken_at : (words : List Spoken) (before : Before) (mark : Cell) (cells : List Cell) (line : Line) (text : List Piece) → IsOpen mark before cells
    → words_or_fault (found_after words before (mark ∷ cells) (Piece.wrong line ∷ text)) ≡ Err (faults.BadContinuation line)
broken_at words before mark cells line text o =
    let rest = ended (Ending.broken line) in
    let q = quoted mark.byte false (text_of cells) in
    ap (λ (found : List Found). words_or_fault (map Found.said words ++ found)) (open_found before mark cells (Piece.wrong line ∷ text) rest o refl)
    ∙ first_fault words (faults.BadContinuation line) (found_in behind_word (front q rest).more (text_of cells ++ Piece.wrong line ∷ text))
