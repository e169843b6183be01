-- Whether a literal is open where the text so far ends.
use Rattle.std.proofs.Common.{◌≡◌, ℕ, zero, suc, ◌+◌, ◌*◌, ◌≤◌, Bool, true, false, cond, List, [], ◌∷◌, ◌++◌, length, length-drop, map, drop, Option, Some, None, refl, sym, ap, subst, ◌∙◌, arith, inl, inr}
use Rattle.std.specs.Prelude.{◌==◌, ◌&&◌, ◌||◌, nat_lt, codes}
use Rattle.std.specs.List.{list_all, list_any}
use Rattle.std.proofs.lemmas.List.{drop_all}
use Rattle.std.proofs.lemmas.Bool.{cases_Bool}
use Rattle.cob_base.specs.declared.line.Line.{Line}
use Rattle.cob_base.specs.declared.word.Spoken.{Spoken}
use Rattle.cobol_words.specs.declared.cell.Cell.{Cell}
use Rattle.cobol_words.specs.declared.before.Before.{Before}
use Rattle.cobol_words.specs.declared.cutter.Stage.{Stage}
use Rattle.cobol_words.specs.declared.cutter.Stage.TheVariants as stages
use Rattle.cobol_words.specs.Joined.{Piece, goes_on_with, bytes_while, behind_while}
use Rattle.cobol_words.specs.Quoted.{Ending, quoted, ended}
use Rattle.cobol_words.specs.Runs.{Found, number_at, name_at, is_digit, is_letter, is_run_byte, begins_run, decimals_in, ends_well}
use Rattle.cobol_words.specs.Pictures.{is_break}
use Rattle.cobol_words.specs.Words.{Taken, take_word, take_run, run_taken, take_sign, sign_taken, found_in, found_in_quotes, behind_word, is_digits}
use Rattle.cobol_words.specs.Text.{open_literal}
use Rattle.cobol_words.specs.Taking.{text_of, is_quote, wants_none, found_after, Follows, IsSolid, HasNoQuote, is_wished, wished_of}
use Rattle.cobol_words.specs.Cutting.{opening, IsAt, open_mark, closed_with}
use Rattle.cobol_words.proofs.Cells.{bytes}
use Rattle.cobol_words.proofs.Cuts.{skip_any, solid_at, solid_drop, no_quote_drop, wished_one, wished_less, wished_no_quote}
use Rattle.cobol_words.proofs.Quotes.{open_whole}
use Rattle.cobol_words.proofs.Endings.{comment_found, literal_found, open_found}

-- no literal is left open in what was found
abbrev IsCut : Found → Type 0
IsCut (Found.said word) = Unit {0}
IsCut (Found.fault fault) = Unit {0}
IsCut (Found.unclosed mark) = ⊥

abbrev AllCut : List Found → Type 0
AllCut [] = Unit {0}
AllCut (found ∷ rest) = IsCut found × AllCut rest

all_cut-append : (a b : List Found) → AllCut a → AllCut b → AllCut (a ++ b)
all_cut-append [] b p q = q
all_cut-append (found ∷ a) b p q = (p.0, all_cut-append a b p.1 q)

none_open : (found : List Found) → AllCut found → open_literal found ≡ None
none_open [] p = refl
none_open (Found.said word ∷ found) p = none_open found p.1
none_open (Found.fault fault ∷ found) p = none_open found p.1
none_open (Found.unclosed mark ∷ found) p = absurd p.0

either : {A : Type 0} (P : A → Type 0) (b : Bool) (x y : A) → P x → P y → P (cond b x y)
either P true x y p q = p
either P false x y p q = q

-- ---- words other than literals

name_cut : (line : Line) (run : List ℕ) → IsCut (name_at line run)
name_cut line run = either IsCut (list_any is_letter run && nat_lt 31 (length run)) _ _ tt (either IsCut (list_any is_letter run && ends_well run) _ _ tt tt)

number_cut : (line : Line) (sign : Option ℕ) (digits decimals : List ℕ) → IsCut (number_at line sign digits decimals)
number_cut line sign digits decimals = either IsCut (nat_lt 18 (length (digits ++ decimals)) || nat_lt 6 (length decimals)) _ _ tt tt

abbrev TakenCut : Taken → Type 0
TakenCut taken = AllCut taken.found

run_cut : (line : Line) (run : List ℕ) (more : ℕ) (behind : List Piece) → TakenCut (run_taken line run more behind)
run_cut line run more behind = either TakenCut (list_all is_digit run) _ _ (number_cut line None run (decimals_in behind), tt) (name_cut line run, tt)

sign_cut : (spaced : Bool) (cell : Cell) (run : List ℕ) (behind : List Piece) → TakenCut (sign_taken spaced cell run behind)
sign_cut spaced cell run behind = either TakenCut (spaced && is_digits run) _ _ (number_cut cell.line (Some cell.byte) run (decimals_in behind), tt) (tt, tt)

take_run_cut : (cell : Cell) (text : List Piece) → TakenCut (take_run cell text)
take_run_cut cell text = run_cut cell.line (cell.byte ∷ bytes_while is_run_byte text) (length (bytes_while is_run_byte text)) (behind_while is_run_byte text)

take_sign_cut : (spaced : Bool) (cell : Cell) (text : List Piece) → TakenCut (take_sign spaced cell text)
take_sign_cut spaced cell text = sign_cut spaced cell (bytes_while is_run_byte text) (behind_while is_run_byte text)

otherwise : {A : Type 0} (P : A → Type 0) (b : Bool) (x y : A) → b ≡ false → P y → P (cond b x y)
otherwise P true x y e q = absurd cc
otherwise P false x y e q = q

word_cut : (spaced : Bool) (cell : Cell) (text : List Piece) → is_quote cell.byte ≡ false → TakenCut (take_word spaced cell text)
word_cut spaced cell text q =
    either TakenCut (begins_run cell.byte) _ _ (take_run_cut cell text)
    (otherwise TakenCut (is_quote cell.byte) _ _ q
    (either TakenCut ((cell.byte == 43) || (cell.byte == 45)) _ _ (take_sign_cut spaced cell text)
    (either TakenCut ((cell.byte == 60) || (cell.byte == 62)) _ _ (either TakenCut (goes_on_with 61 text) _ _ (tt, tt) (tt, tt))
    (either TakenCut (list_any (λ mark. mark == cell.byte) (codes "*/=()")) _ _ (tt, tt)
    (either TakenCut (cell.byte == 46) _ _ (either TakenCut (is_break text) _ _ (tt, tt) (tt, tt))
    (either TakenCut ((cell.byte == 44) || (cell.byte == 59)) _ _ (either TakenCut (is_break text) _ _ tt (tt, tt))
    (tt, tt)))))))

-- ---- cells that stand side by side

wished_bound : (before : Before) → is_wished before ≤ 1
wished_bound before = either (λ n. n ≤ 1) (wants_none before.wish) 0 1 (omega arith) (omega arith)

first_word : (before : Before) (cell : Cell) (rest : List Cell) → wants_none before.wish ≡ true → IsSolid (cell ∷ rest)
    → let t = take_word before.spaced cell (text_of rest ++ []) in found_in before 0 (text_of (cell ∷ rest) ++ []) ≡ t.found ++ found_in t.before 0 (text_of (drop t.more rest) ++ [])
first_word before cell rest w solid =
    let t = take_word before.spaced cell (text_of rest ++ []) in
    ap (λ (u : Taken). u.found ++ found_in u.before u.more (text_of rest ++ [])) (solid_at before cell rest [] w solid refl)
    ∙ ap (λ (found : List Found). t.found ++ found) (skip_any t.before rest t.more)

all_cut : (n : ℕ) (before : Before) (cells : List Cell) → 2 * length cells + is_wished before ≤ n → IsSolid cells → (wants_none before.wish ≡ true → HasNoQuote cells)
    → AllCut (found_in before 0 (text_of cells ++ []))
all_cut n before [] h solid q = tt
all_cut zero before (cell ∷ rest) h solid q = absurd (omega arith)
all_cut (suc n) before (cell ∷ rest) h solid q =
    elim (cases_Bool (wants_none before.wish)) [
      | inl w ↦ (
          let none = q w in
          let t = take_word before.spaced cell (text_of rest ++ []) in
          let wished = wished_bound t.before in
          let bound : 2 * length (drop t.more rest) + is_wished t.before ≤ n = omega (arith, length-drop t.more rest) in
          subst AllCut (sym (first_word before cell rest w solid))
          (all_cut-append t.found _ (word_cut before.spaced cell (text_of rest ++ []) none.0)
          (all_cut n t.before (drop t.more rest) bound (solid_drop t.more rest solid.1) (λ _. no_quote_drop t.more rest none.1))))
      | inr w ↦ (
          let wished = wished_of before.wish before.spaced (bytes (cell ∷ rest)) in
          let less = wished_less before.wish before.spaced (cell ∷ rest) (omega arith) in
          let one : is_wished before ≡ 1 = ap (λ (b : Bool). cond b 0 1) w in
          let bound : 2 * length (drop wished.len (cell ∷ rest)) + is_wished wished.before ≤ n = omega (arith, less.1, one) in
          let f : Follows true [] = record { stops = refl; breaks = refl } in
          subst AllCut (wished_one [] before (cell ∷ rest) cell rest [] wished refl w solid f refl)
          (tt, all_cut n wished.before (drop wished.len (cell ∷ rest)) bound (solid_drop wished.len (cell ∷ rest) solid) (λ _. wished_no_quote before.wish before.spaced (cell ∷ rest))))
    ]

-- ---- every stage

open_said : (words : List Spoken) (found : List Found) → open_literal (map Found.said words ++ found) ≡ open_literal found
open_said [] found = refl
open_said (word ∷ words) found = open_said words found

quotes_cut : (mark : Cell) (literal : List ℕ) → IsCut (found_in_quotes mark (closed_with literal))
quotes_cut mark literal = either IsCut (length literal == 0) _ _ tt (either IsCut (nat_lt 160 (length literal)) _ _ tt tt)

no_more : (cells : List Cell) (n : ℕ) → n ≡ length cells → found_in behind_word n (text_of cells ++ []) ≡ []
no_more cells n e =
    let none : drop n cells ≡ [] = drop_all n cells (omega arith) in
    skip_any behind_word cells n ∙ ap (λ (rest : List Cell). found_in behind_word 0 (text_of rest ++ [])) none

pub open_is : (words : List Spoken) (before : Before) (stage : Stage) (cells : List Cell) → IsAt stage before cells
    → open_literal (found_after words before (opening stage ++ cells) []) ≡ open_mark stage
open_is words before stages.Outside cells at =
    open_said words (found_in before 0 (text_of cells ++ []))
    ∙ none_open (found_in before 0 (text_of cells ++ [])) (all_cut (2 * length cells + is_wished before) before cells (omega arith) at.0 at.1)
open_is words before (stages.Literal mark) cells at =
    let q = quoted mark.byte false (text_of cells) in
    let n : q.more + 0 ≡ length cells = (let w = open_whole mark.byte false cells at.ending in omega arith) in
    open_said words (found_in before 0 (text_of (mark ∷ cells) ++ []))
    ∙ ap open_literal (open_found before mark cells [] (ended Ending.open_so_far) at refl)
    ∙ ap (λ (found : List Found). open_literal (Found.unclosed mark.byte ∷ found)) (no_more cells (q.more + 0) n)
open_is words before (stages.Closed mark) cells at =
    open_said words (found_in before 0 (text_of (mark ∷ cells) ++ []))
    ∙ ap open_literal (literal_found before mark cells [] at refl)
    ∙ none_open (found_in_quotes mark (closed_with (quoted mark.byte false (text_of cells)).bytes) ∷ []) (quotes_cut mark (quoted mark.byte false (text_of cells)).bytes, tt)
open_is words before (stages.Comment star end) cells at =
    open_said words (found_in before 0 (text_of (star ∷ end ∷ cells) ++ []))
    ∙ ap (λ (rest : List Cell). open_literal (found_in before 0 (text_of (star ∷ end ∷ rest) ++ []))) at.none
    ∙ ap open_literal (comment_found before star end [] at.star_is at.end_is)
