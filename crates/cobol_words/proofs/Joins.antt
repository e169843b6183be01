-- Lines joined on, one after the other.
use Rattle.std.proofs.Common.{◌≡◌, ℕ, Bool, true, false, cond, List, [], ◌∷◌, ◌++◌, suc, ◌+◌, ◌<◌, length, get_or, drop-cons, arith, map, drop, Option, Ok, Err, refl, sym, ap, subst, ◌∙◌, append_assoc}
use Rattle.std.proofs.lemmas.List.{append-nil}
use Rattle.cob_base.specs.declared.line.SourceLine.{SourceLine}
use Rattle.cob_base.specs.declared.word.Spoken.{Spoken}
use Rattle.cobol_words.specs.declared.cell.Cell.{Cell}
use Rattle.cobol_words.specs.declared.cutter.Cutter.{Cutter}
use Rattle.cobol_words.specs.declared.fault.WordFault.{WordFault}
use Rattle.cobol_words.specs.declared.fault.WordFault.TheVariants as faults
use Rattle.cobol_words.specs.Joined.{Piece}
use Rattle.cobol_words.specs.Runs.{Found}
use Rattle.cobol_words.specs.Words.{at_start, found_in}
use Rattle.cobol_words.specs.Text.{words_or_fault, open_literal, joining, joined_on, joined_all, first_text, own_text, WordsOf, GivesWords}
use Rattle.cobol_words.specs.Taking.{GoesOn, found_after}
use Rattle.cobol_words.specs.Cutting.{IsCutter, opening, HasRead, HasJoined, ahead, open_mark}
use Rattle.cobol_words.specs.Joining.{JoinsAll}
use Rattle.cobol_words.proofs.Opens.{open_is}

-- the joined text begins with the text so far
pub joined_grows : (text : List Piece) (last : SourceLine) (lines : List SourceLine) → (tail : List Piece) × (joined_all text last lines ≡ text ++ tail)
joined_grows text last [] = ([], sym (append-nil text))
joined_grows text last (line ∷ lines) =
    let more = joining (open_literal (found_in at_start 0 text)) last line in
    let g = joined_grows (joined_on text last line) line lines in
    (more ++ g.0, g.1 ∙ append_assoc text more g.0)

-- what is read shows whether a literal is open
pub read_open : (cutter : Cutter) (text : List Piece) → IsCutter cutter → HasRead cutter text → open_literal (found_in at_start 0 text) ≡ open_mark cutter.stage
read_open cutter text kept read =
    ap (λ (t : List Piece). open_literal (found_in at_start 0 t)) (sym (append-nil text)) ∙ ap open_literal (sym (read []))
    ∙ open_is cutter.words cutter.before cutter.stage cutter.cells.items kept

-- what the next line adds, whatever follows it
pub next_line : (cutter : Cutter) (text : List Piece) (last line : SourceLine) (after : List Piece) → IsCutter cutter → HasRead cutter text
    → ahead cutter (joining (open_mark cutter.stage) last line ++ after) ≡ found_in at_start 0 (joined_on text last line ++ after)
next_line cutter text last line after kept read =
    read (joining (open_mark cutter.stage) last line ++ after)
    ∙ ap (λ (m : Option ℕ). found_in at_start 0 (text ++ (joining m last line ++ after))) (sym (read_open cutter text kept read))
    ∙ ap (found_in at_start 0) (sym (append_assoc text (joining (open_literal (found_in at_start 0 text)) last line) after))

pub item_at : (lines : List SourceLine) (i : ℕ) (line : SourceLine) → i < length lines → line ≡ get_or lines i line → drop i lines ≡ line ∷ drop (i + 1) lines
item_at lines i line h e =
    let k : i + 1 ≡ suc i = omega arith in
    drop-cons lines i line h ∙ ap (λ (x : SourceLine). x ∷ drop (suc i) lines) (sym e) ∙ ap (λ (m : ℕ). line ∷ drop m lines) (sym k)

pub read_all : (cutter : Cutter) (last : SourceLine) (all : List SourceLine) (whole : List Piece) → all ≡ [] → HasJoined cutter last all whole → HasRead cutter whole
read_all cutter last all whole e (text, read, rest) =
    let same : text ≡ whole = sym (ap (joined_all text last) e) ∙ rest in
    subst (HasRead cutter) same read

pub refused_on : {A : Type 0} (fault : WordFault) (cutter new : Cutter) (last line : SourceLine) (lines all : List SourceLine) (whole : List Piece) (g : List Piece → A → List Found)
    → IsCutter cutter → all ≡ line ∷ lines → HasJoined cutter last all whole
    → ((after : List Piece) → GoesOn (Err fault) (g after) (ahead cutter (joining (open_mark cutter.stage) last line ++ after))) → JoinsAll (Err fault) new whole
refused_on faults.NoMemory cutter new last line lines all whole g kept e joined found = tt
refused_on fault cutter new last line lines all whole g kept e (text, read, rest) found =
    let tail = joined_grows (joined_on text last line) line lines in
    let whole_is : whole ≡ joined_on text last line ++ tail.0 = sym rest ∙ ap (joined_all text last) e ∙ tail.1 in
    λ after.
    ap (λ (w : List Piece). words_or_fault (found_in at_start 0 (w ++ after))) whole_is
    ∙ ap (λ (w : List Piece). words_or_fault (found_in at_start 0 w)) (append_assoc (joined_on text last line) tail.0 after)
    ∙ ap words_or_fault (sym (next_line cutter text last line (tail.0 ++ after) kept read))
    ∙ found (tail.0 ++ after)

pub joins_on : (old new : Cutter) (last line : SourceLine) (lines all : List SourceLine) (whole : List Piece) → IsCutter old → all ≡ line ∷ lines → HasJoined old last all whole
    → ((after : List Piece) → ahead new after ≡ ahead old (joining (open_mark old.stage) last line ++ after)) → HasJoined new line lines whole
joins_on old new last line lines all whole kept e (text, read, rest) found =
    (joined_on text last line, λ after. found after ∙ next_line old text last line after kept read, ap (joined_all text last) (sym e) ∙ rest)

-- ---- the whole text

abbrev pub whole_of : SourceLine → List SourceLine → List Piece
whole_of first lines = joined_all (first_text first) first lines ++ Piece.line_end ∷ []

starts_with_first : (first : SourceLine) (lines : List SourceLine) (text : List Piece) → first_text first ≡ text
    → (tail : List Piece) × (whole_of first lines ≡ text ++ tail)
starts_with_first first lines text e =
    let g = joined_grows (first_text first) first lines in (
      g.0 ++ Piece.line_end ∷ [],
      ap (λ (w : List Piece). w ++ Piece.line_end ∷ []) g.1 ∙ append_assoc (first_text first) g.0 (Piece.line_end ∷ []) ∙ ap (λ (t : List Piece). t ++ (g.0 ++ Piece.line_end ∷ [])) e,
    )

pub first_wrong : (first : SourceLine) (lines : List SourceLine) → first.continued ≡ true → WordsOf (first ∷ lines) ≡ Err (faults.BadContinuation first.line)
first_wrong first lines e =
    let text : first_text first ≡ Piece.wrong first.line ∷ [] = ap (λ (b : Bool). cond b (Piece.wrong first.line ∷ []) (own_text first)) e in
    let g = starts_with_first first lines (Piece.wrong first.line ∷ []) text in
    ap (λ (w : List Piece). words_or_fault (found_in at_start 0 w)) g.1

pub own_first : (first : SourceLine) → first.continued ≡ false → first_text first ≡ own_text first
own_first first e = ap (λ (b : Bool). cond b (Piece.wrong first.line ∷ []) (own_text first)) e

pub first_refused : {A : Type 0} (fault : WordFault) (cutter : Cutter) (first : SourceLine) (lines : List SourceLine) (g : List Piece → A → List Found) → first.continued ≡ false
    → ((text : List Piece) → ahead cutter text ≡ found_in at_start 0 text) → ((after : List Piece) → GoesOn (Err fault) (g after) (ahead cutter (own_text first ++ after)))
    → GivesWords {A = List Spoken} (Err fault) (WordsOf (first ∷ lines))
first_refused faults.NoMemory cutter first lines g e new found = tt
first_refused fault cutter first lines g e new found =
    let w = starts_with_first first lines (own_text first) (own_first first e) in
    ap (λ (t : List Piece). words_or_fault (found_in at_start 0 t)) w.1 ∙ ap words_or_fault (sym (new (own_text first ++ w.0))) ∙ found w.0

pub has_read : (old new : Cutter) (text : List Piece) → ((after : List Piece) → ahead old after ≡ found_in at_start 0 after)
    → ((after : List Piece) → ahead new after ≡ ahead old (text ++ after)) → HasRead new text
has_read old new text at_first found after = found after ∙ at_first (text ++ after)

pub joins_refused : (fault : WordFault) (new : Cutter) (first : SourceLine) (lines : List SourceLine) → first.continued ≡ false
    → JoinsAll (Err fault) new (joined_all (own_text first) first lines) → GivesWords {A = List Spoken} (Err fault) (WordsOf (first ∷ lines))
joins_refused faults.NoMemory new first lines e found = tt
joins_refused fault new first lines e found =
    ap (λ (t : List Piece). words_or_fault (found_in at_start 0 (joined_all t first lines ++ Piece.line_end ∷ []))) (own_first first e) ∙ found (Piece.line_end ∷ [])

pub end_refused : {A : Type 0} (fault : WordFault) (cutter : Cutter) (first : SourceLine) (lines : List SourceLine) (g : A → List Found) → first.continued ≡ false
    → HasRead cutter (joined_all (own_text first) first lines) → GoesOn (Err fault) g (ahead cutter (Piece.line_end ∷ [])) → GivesWords {A = List Spoken} (Err fault) (WordsOf (first ∷ lines))
end_refused faults.NoMemory cutter first lines g e read found = tt
end_refused fault cutter first lines g e read found =
    ap (λ (t : List Piece). words_or_fault (found_in at_start 0 (joined_all t first lines ++ Piece.line_end ∷ []))) (own_first first e)
    ∙ ap words_or_fault (sym (read (Piece.line_end ∷ []))) ∙ found

said_words : (words : List Spoken) → words_or_fault (map Found.said words ++ []) ≡ Ok words
said_words [] = refl
said_words (word ∷ words) = rw (said_words words) refl

pub all_words : (cutter new : Cutter) (first : SourceLine) (lines : List SourceLine) → first.continued ≡ false
    → HasRead cutter (joined_all (own_text first) first lines) → ahead new [] ≡ ahead cutter (Piece.line_end ∷ []) → opening new.stage ++ new.cells.items ≡ []
    → WordsOf (first ∷ lines) ≡ Ok new.words
all_words cutter new first lines e read found cut =
    ap (λ (t : List Piece). words_or_fault (found_in at_start 0 (joined_all t first lines ++ Piece.line_end ∷ []))) (own_first first e)
    ∙ ap words_or_fault (sym (read (Piece.line_end ∷ []))) ∙ ap words_or_fault (sym found)
    ∙ ap (λ (cells : List Cell). words_or_fault (found_after new.words new.before cells [])) cut ∙ said_words new.words
