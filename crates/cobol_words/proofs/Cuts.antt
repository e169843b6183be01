-- Cutting cells that stand side by side, a word at a time.
use Rattle.std.proofs.Common.{◌≡◌, ℕ, zero, suc, ◌+◌, ◌-◌, ◌*◌, length-drop, ◌≤◌, ◌<◌, Bool, true, false, cond, List, [], ◌∷◌, ◌++◌, length, get_or, map, drop, Option, Some, None, Err, refl, sym, ap, ◌∙◌, arith, inl, inr}
use Rattle.std.specs.Prelude.{◌==◌, ◌&&◌, codes}
use Rattle.std.proofs.lemmas.Bool.{cases_Bool, or_parts, or_cases, and_right}
use Rattle.std.proofs.lemmas.Bool.Decides.{nat_tests}
use Rattle.std.proofs.lemmas.List.{length-map, drop_all}
use Rattle.cob_base.specs.declared.line.Line.{Line}
use Rattle.cob_base.specs.declared.word.Word.{Word}
use Rattle.cob_base.specs.declared.word.Word.TheVariants as words
use Rattle.cob_base.specs.declared.word.Spoken.{Spoken}
use Rattle.cob_base.specs.Bytes.{same_word}
use Rattle.cobol_words.specs.declared.cell.Cell.{Cell}
use Rattle.cobol_words.specs.declared.before.Before.{Before}
use Rattle.cobol_words.specs.declared.before.Wish.{Wish}
use Rattle.cobol_words.specs.declared.before.Wish.TheVariants as wishes
use Rattle.cobol_words.specs.declared.fault.WordFault.{WordFault}
use Rattle.cobol_words.specs.declared.fault.WordFault.TheVariants as faults
use Rattle.cobol_words.specs.declared.picture.Wished.{Wished}
use Rattle.cobol_words.specs.Joined.{Piece, goes_on_with}
use Rattle.cobol_words.specs.Runs.{Found, word_at}
use Rattle.cobol_words.specs.Pictures.{is_break, less_final_mark, is_final_mark, bytes_to_break}
use Rattle.cobol_words.specs.Words.{Taken, takes, take_word, take_wished, take_at, picture_less_mark, behind_word, behind_space, comment_len, found_in}
use Rattle.cobol_words.specs.Text.{words_or_fault}
use Rattle.cobol_words.specs.Taking.{text_of, stops_words, Follows, IsSolid, HasNoQuote, is_quote, wants_none, may_be_is, wished_of, picture_of, found_after, spoken_of, word_found, TakenAs, GoesOn, is_wished}
use Rattle.cobol_words.proofs.Cells.{bytes, goes_on_with-before, same_byte}

-- ---- parts of cells

pub first_and_rest : (cells : List Cell) (d : Cell) → 0 < length cells → cells ≡ get_or cells 0 d ∷ drop 1 cells
first_and_rest [] d h = absurd (omega arith)
first_and_rest (cell ∷ cells) d h = refl

pub solid_drop : (n : ℕ) (cells : List Cell) → IsSolid cells → IsSolid (drop n cells)
solid_drop zero cells solid = solid
solid_drop (suc n) [] solid = tt
solid_drop (suc n) (cell ∷ cells) solid = solid_drop n cells solid.1

pub no_quote_drop : (n : ℕ) (cells : List Cell) → HasNoQuote cells → HasNoQuote (drop n cells)
no_quote_drop zero cells none = none
no_quote_drop (suc n) [] none = tt
no_quote_drop (suc n) (cell ∷ cells) none = no_quote_drop n cells none.1

-- pieces that belong to what was cut are passed over
pub skip : (before : Before) (cells : List Cell) (n : ℕ) (text : List Piece) → n ≤ length cells
    → found_in before n (text_of cells ++ text) ≡ found_in before 0 (text_of (drop n cells) ++ text)
skip before cells zero text h = refl
skip before [] (suc n) text h = absurd (omega arith)
skip before (cell ∷ cells) (suc n) text h = skip before cells n text (omega arith)

-- behind the end nothing is found
pub skip_any : (before : Before) (cells : List Cell) (n : ℕ) → found_in before n (text_of cells ++ []) ≡ found_in before 0 (text_of (drop n cells) ++ [])
skip_any before cells zero = refl
skip_any before [] (suc n) = refl
skip_any before (cell ∷ cells) (suc n) = skip_any before cells n

-- ---- words

said_more : (words more : List Spoken) (found : List Found) → map Found.said (words ++ more) ++ found ≡ map Found.said words ++ (map Found.said more ++ found)
said_more [] more found = refl
said_more (word ∷ words) more found = ap (λ (xs : List Found). Found.said word ∷ xs) (said_more words more found)

said_word : (line : Line) (word : Option Word) → map Found.said (spoken_of line word) ≡ word_found line word
said_word line None = refl
said_word line (Some word) = refl

pub first_fault : (words : List Spoken) (fault : WordFault) (found : List Found) → words_or_fault (map Found.said words ++ Found.fault fault ∷ found) ≡ Err fault
first_fault [] fault found = refl
first_fault (word ∷ words) fault found = rw (first_fault words fault found) refl

not_break : (cell : Cell) (rest : List Cell) (text : List Piece) → IsSolid (cell ∷ rest) → stops_words text ≡ true
    → ((cell.byte == 32) ≡ false) × (((cell.byte == 42) && goes_on_with 62 (text_of rest ++ text)) ≡ false)
not_break cell rest text solid h =
    let p = or_parts (cell.byte == 32) _ solid.0 in
    (p.0, rw (goes_on_with-before 62 refl rest text h) p.1)

plain_at : (before : Before) (cell : Cell) (text : List Piece) → before.wish ≡ wishes.NoPicture → (cell.byte == 32) ≡ false → ((cell.byte == 42) && goes_on_with 62 text) ≡ false
    → take_at before cell text ≡ take_word before.spaced cell text
plain_at before cell text w s m = rw (s, m, w) refl

no_wish : (wish : Wish) → wants_none wish ≡ true → wish ≡ wishes.NoPicture
no_wish wishes.NoPicture h = refl
no_wish wishes.Picture h = absurd cc
no_wish wishes.PictureOrIs h = absurd cc

pub solid_at : (before : Before) (cell : Cell) (rest : List Cell) (text : List Piece) → wants_none before.wish ≡ true → IsSolid (cell ∷ rest) → stops_words text ≡ true
    → take_at before cell (text_of rest ++ text) ≡ take_word before.spaced cell (text_of rest ++ text)
solid_at before cell rest text w solid h =
    let p = not_break cell rest text solid h in
    plain_at before cell (text_of rest ++ text) (no_wish before.wish w) p.0 p.1

-- what is taken at the front, and what is found behind it
abbrev with_rest : Taken → List Piece → List Found
with_rest taken text = taken.found ++ found_in taken.before taken.more text

pub cut_one : (words : List Spoken) (before after : Before) (cells : List Cell) (cell : Cell) (rest : List Cell) (word : Option Word) (more : ℕ) (text : List Piece)
    → cells ≡ cell ∷ rest → wants_none before.wish ≡ true → IsSolid (cell ∷ rest) → stops_words text ≡ true → more ≤ length rest
    → take_word before.spaced cell (text_of rest ++ text) ≡ takes (word_found cell.line word) more after
    → found_after (words ++ spoken_of cell.line word) after (drop more rest) text ≡ found_after words before cells text
cut_one words before after cells cell rest word more text e w solid h within taken =
    said_more words (spoken_of cell.line word) (found_in after 0 (text_of (drop more rest) ++ text))
    ∙ ap (λ (found : List Found). map Found.said words ++ (found ++ found_in after 0 (text_of (drop more rest) ++ text))) (said_word cell.line word)
    ∙ ap (λ (found : List Found). map Found.said words ++ (word_found cell.line word ++ found)) (sym (skip after rest more text within))
    ∙ ap (λ (t : Taken). map Found.said words ++ with_rest t (text_of rest ++ text)) (sym (solid_at before cell rest text w solid h ∙ taken))
    ∙ ap (λ (xs : List Cell). found_after words before xs text) (sym e)

pub fault_one : (words : List Spoken) (before : Before) (cells : List Cell) (cell : Cell) (rest : List Cell) (fault : WordFault) (text : List Piece)
    → cells ≡ cell ∷ rest → wants_none before.wish ≡ true → IsSolid (cell ∷ rest) → stops_words text ≡ true
    → (take_word before.spaced cell (text_of rest ++ text)).found ≡ Found.fault fault ∷ []
    → words_or_fault (found_after words before cells text) ≡ Err fault
fault_one words before cells cell rest fault text e w solid h taken =
    let t = take_word before.spaced cell (text_of rest ++ text) in
    let whole : found_after words before cells text ≡ map Found.said words ++ (Found.fault fault ∷ found_in t.before t.more (text_of rest ++ text)) =
    ap (λ (xs : List Cell). found_after words before xs text) e
    ∙ ap (λ (u : Taken). map Found.said words ++ with_rest u (text_of rest ++ text)) (solid_at before cell rest text w solid h)
    ∙ ap (λ (found : List Found). map Found.said words ++ (found ++ found_in t.before t.more (text_of rest ++ text))) taken in
    ap words_or_fault whole ∙ first_fault words fault (found_in t.before t.more (text_of rest ++ text))

pub fault_goes : {A : Type 0} (fault : WordFault) (after : A → List Found) (words : List Spoken) (before : Before) (cells : List Cell) (cell : Cell) (rest : List Cell) (text : List Piece)
    → cells ≡ cell ∷ rest → wants_none before.wish ≡ true → IsSolid (cell ∷ rest) → stops_words text ≡ true
    → TakenAs cell.line (Err fault) (take_word before.spaced cell (text_of rest ++ text))
    → GoesOn (Err fault) after (found_after words before cells text)
fault_goes faults.NoMemory after words before cells cell rest text e w solid h taken = tt
fault_goes fault after words before cells cell rest text e w solid h taken = fault_one words before cells cell rest fault text e w solid h taken

-- ---- where a picture is wanted

to_break : (text : List Piece) → is_break text ≡ true → bytes_to_break text ≡ []
to_break [] h = refl
to_break (Piece.at cell ∷ text) h = ap (λ (b : Bool). cond b [] (cell.byte ∷ bytes_to_break text)) h
to_break (Piece.line_end ∷ text) h = refl
to_break (Piece.wrong line ∷ text) h = refl

whole_run : (cells : List Cell) (text : List Piece) → IsSolid cells → Follows true text → bytes_to_break (text_of cells ++ text) ≡ bytes cells
whole_run [] text solid f = to_break text f.breaks
whole_run (cell ∷ cells) text solid f =
    let p = not_break cell cells text solid f.stops in
    let no_break : is_break (Piece.at cell ∷ (text_of cells ++ text)) ≡ false = rw (p.0, p.1) refl in
    ap (λ (b : Bool). cond b [] (cell.byte ∷ bytes_to_break (text_of cells ++ text))) no_break
    ∙ ap (λ (xs : List ℕ). cell.byte ∷ xs) (whole_run cells text solid.1 f)

wished_at : (before : Before) (cell : Cell) (rest : List Cell) (text : List Piece) → IsSolid (cell ∷ rest) → Follows true text
    → take_at before cell (text_of rest ++ text) ≡ take_wished before.wish before.spaced cell (text_of rest ++ text) (bytes (cell ∷ rest))
wished_at before cell rest text solid f =
    let p = not_break cell rest text solid f.stops in
    let run = whole_run (cell ∷ rest) text solid f in
    ap (λ (b : Bool). cond b (takes [] 0 (behind_space before.wish)) (cond ((cell.byte == 42) && goes_on_with 62 (text_of rest ++ text)) (takes [] (comment_len (text_of rest ++ text)) (behind_space before.wish))
    (take_wished before.wish before.spaced cell (text_of rest ++ text) (bytes_to_break (Piece.at cell ∷ (text_of rest ++ text)))))) p.0
    ∙ ap (λ (b : Bool). cond b (takes [] (comment_len (text_of rest ++ text)) (behind_space before.wish))
    (take_wished before.wish before.spaced cell (text_of rest ++ text) (bytes_to_break (Piece.at cell ∷ (text_of rest ++ text))))) p.1
    ∙ ap (λ (xs : List ℕ). take_wished before.wish before.spaced cell (text_of rest ++ text) xs) run

and_true : (b : Bool) → (b && true) ≡ b
and_true true = refl
and_true false = refl

nonzero : (n : ℕ) → (suc n == 0) ≡ false
nonzero n = grind (arith, nat_tests)

abbrev Found_behind : Wished → Cell → List Cell → List Piece → List Found
Found_behind wished cell rest text = word_at cell.line wished.word ∷ found_in wished.before 0 (text_of (drop wished.len (cell ∷ rest)) ++ text)

plain_picture : (spaced : Bool) (cell : Cell) (rest : List Cell) (text : List Piece) (picture : List ℕ) → IsSolid (cell ∷ rest) → Follows true text → length picture ≤ suc (length rest)
    → with_rest (picture_less_mark spaced cell (text_of rest ++ text) picture) (text_of rest ++ text) ≡ Found_behind (picture_of spaced picture) cell rest text
plain_picture spaced cell rest text [] solid f h =
    let before : Before = record { wish = wishes.NoPicture; spaced = spaced } in
    let same = solid_at before cell rest text refl solid f.stops in
    rw (and_true spaced) (ap (λ (t : Taken). word_at cell.line (words.Picture []) ∷ with_rest t (text_of rest ++ text)) (sym same))
plain_picture spaced cell rest text (b ∷ picture) solid f h =
    let other : (spaced && (length (b ∷ picture) == 0)) ≡ false = and_right spaced (length (b ∷ picture) == 0) (nonzero (length picture)) in
    ap (λ (found : List Found). word_at cell.line (words.Picture (b ∷ picture)) ∷ found) (skip behind_word rest (length picture) text (omega arith))
    ∙ ap (λ (s : Bool). word_at cell.line (words.Picture (b ∷ picture)) ∷ found_in (record { wish = wishes.NoPicture; spaced = s }) 0 (text_of (drop (length picture) rest) ++ text)) (sym other)

is_found : (cell : Cell) (rest : List Cell) (text : List Piece)
    → with_rest (takes (word_at cell.line (words.Name (bytes (cell ∷ rest))) ∷ []) (length (bytes (cell ∷ rest)) - 1) (record { wish = wishes.Picture; spaced = false })) (text_of rest ++ text)
    ≡ Found_behind (record { word = words.Name (bytes (cell ∷ rest)); len = length (bytes (cell ∷ rest)); before = record { wish = wishes.Picture; spaced = false } }) cell rest text
is_found cell rest text =
    let k : length (bytes (cell ∷ rest)) - 1 ≡ length (bytes rest) = omega arith in
    let n : length (bytes rest) ≡ length rest = simp length-map in
    rw k (ap (λ (found : List Found). word_at cell.line (words.Name (bytes (cell ∷ rest))) ∷ found) (skip (record { wish = wishes.Picture; spaced = false }) rest (length (bytes rest)) text (omega arith)))

less_within : (run : List ℕ) → length (less_final_mark run) ≤ length run
less_within [] = omega arith
less_within (b ∷ []) = elim (cases_Bool (is_final_mark b)) [
  | inl e ↦ rw e (omega arith)
  | inr e ↦ rw e (omega arith)
]
less_within (b ∷ c ∷ run) = let h = less_within (c ∷ run) in omega arith

picture_within : (cell : Cell) (rest : List Cell) → length (less_final_mark (bytes (cell ∷ rest))) ≤ suc (length rest)
picture_within cell rest =
    let n : length (bytes rest) ≡ length rest = simp length-map in
    let h = less_within (bytes (cell ∷ rest)) in omega arith

wished_found : (wish : Wish) (spaced : Bool) (cell : Cell) (rest : List Cell) (text : List Piece) → wants_none wish ≡ false → IsSolid (cell ∷ rest) → Follows true text
    → with_rest (take_wished wish spaced cell (text_of rest ++ text) (bytes (cell ∷ rest))) (text_of rest ++ text) ≡ Found_behind (wished_of wish spaced (bytes (cell ∷ rest))) cell rest text
wished_found wishes.NoPicture spaced cell rest text w solid f = absurd cc
wished_found wishes.Picture spaced cell rest text w solid f = plain_picture spaced cell rest text (less_final_mark (bytes (cell ∷ rest))) solid f (picture_within cell rest)
wished_found wishes.PictureOrIs spaced cell rest text w solid f = by_case (same_word (bytes (cell ∷ rest)) (codes "IS"))
  where
    by_case : (t : Bool)
        → with_rest (cond t (takes (word_at cell.line (words.Name (bytes (cell ∷ rest))) ∷ []) (length (bytes (cell ∷ rest)) - 1) (record { wish = wishes.Picture; spaced = false }))
        (picture_less_mark spaced cell (text_of rest ++ text) (less_final_mark (bytes (cell ∷ rest))))) (text_of rest ++ text)
        ≡ Found_behind (cond t (record { word = words.Name (bytes (cell ∷ rest)); len = length (bytes (cell ∷ rest)); before = record { wish = wishes.Picture; spaced = false } })
        (picture_of spaced (less_final_mark (bytes (cell ∷ rest))))) cell rest text
    by_case true = is_found cell rest text
    by_case false = plain_picture spaced cell rest text (less_final_mark (bytes (cell ∷ rest))) solid f (picture_within cell rest)

pub wished_one : (words : List Spoken) (before : Before) (cells : List Cell) (cell : Cell) (rest : List Cell) (text : List Piece) (wished : Wished)
    → cells ≡ cell ∷ rest → wants_none before.wish ≡ false → IsSolid (cell ∷ rest) → Follows true text → wished ≡ wished_of before.wish before.spaced (bytes (cell ∷ rest))
    → found_after (words ++ spoken_of cell.line (Some wished.word)) wished.before (drop wished.len cells) text ≡ found_after words before cells text
wished_one words before cells cell rest text wished e w solid f is =
    said_more words (spoken_of cell.line (Some wished.word)) (found_in wished.before 0 (text_of (drop wished.len cells) ++ text))
    ∙ ap (λ (xs : List Cell). map Found.said words ++ (word_at cell.line wished.word ∷ found_in wished.before 0 (text_of (drop wished.len xs) ++ text))) e
    ∙ ap (λ (w' : Wished). map Found.said words ++ Found_behind w' cell rest text) is
    ∙ ap (λ (found : List Found). map Found.said words ++ found) (sym (wished_found before.wish before.spaced cell rest text w solid f))
    ∙ ap (λ (t : Taken). map Found.said words ++ with_rest t (text_of rest ++ text)) (sym (wished_at before cell rest text solid f))
    ∙ ap (λ (xs : List Cell). found_after words before xs text) (sym e)

-- ---- what is left behind it

no_quote_is_final : (b : ℕ) → is_final_mark b ≡ true → is_quote b ≡ false
no_quote_is_final b h = elim (or_cases (46 == b) _ h) [
  | inl e ↦ same_byte is_quote 46 b e refl
  | inr h' ↦ elim (or_cases (44 == b) _ h') [
    | inl e ↦ same_byte is_quote 44 b e refl
    | inr h'' ↦ elim (or_cases (59 == b) false h'') [
      | inl e ↦ same_byte is_quote 59 b e refl
      | inr e ↦ absurd cc
    ]
  ]
]

final_no_quote : (cells : List Cell) → HasNoQuote (drop (length (less_final_mark (bytes cells))) cells)
final_no_quote [] = tt
final_no_quote (cell ∷ []) = elim (cases_Bool (is_final_mark cell.byte)) [
  | inl e ↦ rw e (no_quote_is_final cell.byte e, tt)
  | inr e ↦ rw e tt
]
final_no_quote (cell ∷ next ∷ cells) = final_no_quote (next ∷ cells)

pub wished_no_quote : (wish : Wish) (spaced : Bool) (cells : List Cell) → HasNoQuote (drop (wished_of wish spaced (bytes cells)).len cells)
wished_no_quote wish spaced cells = by_case (may_be_is wish && same_word (bytes cells) (codes "IS"))
  where
    n : length (bytes cells) ≡ length cells
    n = simp length-map

    by_case : (t : Bool) → HasNoQuote (drop (cond t (record { word = words.Name (bytes cells); len = length (bytes cells); before = record { wish = wishes.Picture; spaced = false } }) (picture_of spaced (less_final_mark (bytes cells)))).len cells)
    by_case true = rw (n, drop_all (length cells) cells (omega arith)) tt
    by_case false = final_no_quote cells

-- it is less, or no picture is wanted any more
abbrev pub Less : List Cell → Wished → Type 0
Less cells w = (w.len ≤ length cells) × (2 * length (drop w.len cells) + is_wished w.before < 2 * length cells + 1)

pub wished_less : (wish : Wish) (spaced : Bool) (cells : List Cell) → 0 < length cells
    → Less cells (wished_of wish spaced (bytes cells))
wished_less wish spaced cells some = by_case (may_be_is wish && same_word (bytes cells) (codes "IS"))
  where
    n : length (bytes cells) ≡ length cells
    n = simp length-map

    by_case : (t : Bool) → Less cells (cond t (record { word = words.Name (bytes cells); len = length (bytes cells); before = record { wish = wishes.Picture; spaced = false } }) (picture_of spaced (less_final_mark (bytes cells))))
    by_case true = (omega (arith, n), omega (arith, n, length-drop (length (bytes cells)) cells))
    by_case false = let h = less_within (bytes cells) in (omega (arith, n), omega (arith, n, length-drop (length (less_final_mark (bytes cells))) cells))
