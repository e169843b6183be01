-- Literals, a cell at a time.
use Rattle.std.proofs.Common.{◌≡◌, ℕ, suc, ◌+◌, Bool, true, false, cond, List, [], ◌∷◌, ◌++◌, length, length-append, refl, sym, ap, ◌∙◌, zero-add, arith}
use Rattle.std.specs.Prelude.{◌==◌}
use Rattle.std.proofs.lemmas.Bool.{eq-eqb, ne_eqb}
use Rattle.cobol_words.specs.declared.cell.Cell.{Cell}
use Rattle.cobol_words.specs.declared.before.Before.{Before}
use Rattle.cobol_words.specs.Joined.{Piece}
use Rattle.cobol_words.specs.Quoted.{Ending, Quoted, quoted, with_byte, one_more, ended}
use Rattle.cobol_words.specs.Taking.{text_of}
use Rattle.cobol_words.specs.Cutting.{IsOpen, IsClosed}

-- the beginning of a literal, and the rest of it
abbrev pub front : Quoted → Quoted → Quoted
front a b = record { bytes = a.bytes ++ b.bytes; more = a.more + b.more; ending = b.ending }

same_quoted : (bytes : List ℕ) (m n : ℕ) (ending : Ending) → m ≡ n → ◌≡◌ {A = Quoted} (record { bytes = bytes; more = m; ending = ending }) (record { bytes = bytes; more = n; ending = ending })
same_quoted bytes m n ending e = ap (λ (k : ℕ). record { bytes = bytes; more = k; ending = ending }) e

nothing_before : (ending : Ending) (b : Quoted) → front (ended ending) b ≡ b
nothing_before ending b = same_quoted b.bytes (0 + b.more) b.more b.ending (zero-add b.more)

byte_before : (byte : ℕ) (a b : Quoted) → with_byte byte (front a b) ≡ front (with_byte byte a) b
byte_before byte a b = same_quoted (byte ∷ (a.bytes ++ b.bytes)) (a.more + b.more + 1) (a.more + 1 + b.more) b.ending (omega arith)

mark_before : (a b : Quoted) → one_more (front a b) ≡ front (one_more a) b
mark_before a b = same_quoted (a.bytes ++ b.bytes) (a.more + b.more + 1) (a.more + 1 + b.more) b.ending (omega arith)

-- how a literal goes on at a byte
abbrev step : ℕ → ℕ → Bool → Bool → Quoted → Quoted → Quoted
step mark byte same marked plain closing = cond same (cond marked (with_byte mark plain) (one_more closing)) (cond marked (ended Ending.closed) (with_byte byte plain))

open_step : (mark byte : ℕ) (same marked : Bool) (plain closing plain' closing' rest : Quoted)
    → (plain.ending ≡ Ending.open_so_far → plain' ≡ front plain rest) → (closing.ending ≡ Ending.open_so_far → closing' ≡ front closing rest)
    → (step mark byte same marked plain closing).ending ≡ Ending.open_so_far
    → step mark byte same marked plain' closing' ≡ front (step mark byte same marked plain closing) rest
open_step mark byte true true plain closing plain' closing' rest p c h = ap (with_byte mark) (p h) ∙ byte_before mark plain rest
open_step mark byte true false plain closing plain' closing' rest p c h = ap one_more (c h) ∙ mark_before closing rest
open_step mark byte false true plain closing plain' closing' rest p c h = absurd cc
open_step mark byte false false plain closing plain' closing' rest p c h = ap (with_byte byte) (p h) ∙ byte_before byte plain rest

pub quoted_open : (mark : ℕ) (marked : Bool) (cells : List Cell) (text : List Piece) → (quoted mark marked (text_of cells)).ending ≡ Ending.open_so_far
    → quoted mark marked (text_of cells ++ text) ≡ front (quoted mark marked (text_of cells)) (quoted mark false text)
quoted_open mark true [] text h = absurd cc
quoted_open mark false [] text h = sym (nothing_before Ending.open_so_far (quoted mark false text))
quoted_open mark marked (cell ∷ cells) text h =
    open_step mark cell.byte (cell.byte == mark) marked (quoted mark false (text_of cells)) (quoted mark true (text_of cells)) (quoted mark false (text_of cells ++ text)) (quoted mark true (text_of cells ++ text)) (quoted mark false text)
    (λ g. quoted_open mark false cells text g) (λ g. quoted_open mark true cells text g) h

whole_step : (mark byte : ℕ) (same marked : Bool) (plain closing : Quoted) (n : ℕ)
    → (plain.ending ≡ Ending.open_so_far → plain.more ≡ n) → (closing.ending ≡ Ending.open_so_far → closing.more ≡ n)
    → (step mark byte same marked plain closing).ending ≡ Ending.open_so_far → (step mark byte same marked plain closing).more ≡ suc n
whole_step mark byte true true plain closing n p c h = let i = p h in omega arith
whole_step mark byte true false plain closing n p c h = let i = c h in omega arith
whole_step mark byte false true plain closing n p c h = absurd cc
whole_step mark byte false false plain closing n p c h = let i = p h in omega arith

pub open_whole : (mark : ℕ) (marked : Bool) (cells : List Cell) → (quoted mark marked (text_of cells)).ending ≡ Ending.open_so_far → (quoted mark marked (text_of cells)).more ≡ length cells
open_whole mark true [] h = absurd cc
open_whole mark false [] h = refl
open_whole mark marked (cell ∷ cells) h =
    whole_step mark cell.byte (cell.byte == mark) marked (quoted mark false (text_of cells)) (quoted mark true (text_of cells)) (length cells)
    (λ g. open_whole mark false cells g) (λ g. open_whole mark true cells g) h

closed_step : (mark byte : ℕ) (same marked : Bool) (plain closing plain' closing' rest : Quoted) (n : ℕ)
    → (plain.ending ≡ Ending.closed → plain.more ≡ n → plain' ≡ front plain rest) → (closing.ending ≡ Ending.closed → closing.more ≡ n → closing' ≡ front closing rest)
    → (step mark byte same marked plain closing).ending ≡ Ending.closed → (step mark byte same marked plain closing).more ≡ suc n
    → step mark byte same marked plain' closing' ≡ front (step mark byte same marked plain closing) rest
closed_step mark byte true true plain closing plain' closing' rest n p c h w =
    let w' : plain.more ≡ n = omega arith in ap (with_byte mark) (p h w') ∙ byte_before mark plain rest
closed_step mark byte true false plain closing plain' closing' rest n p c h w =
    let w' : closing.more ≡ n = omega arith in ap one_more (c h w') ∙ mark_before closing rest
closed_step mark byte false true plain closing plain' closing' rest n p c h w = absurd (omega arith)
closed_step mark byte false false plain closing plain' closing' rest n p c h w =
    let w' : plain.more ≡ n = omega arith in ap (with_byte byte) (p h w') ∙ byte_before byte plain rest

pub quoted_closed : (mark : ℕ) (marked : Bool) (cells : List Cell) (text : List Piece) → (quoted mark marked (text_of cells)).ending ≡ Ending.closed → (quoted mark marked (text_of cells)).more ≡ length cells
    → quoted mark marked (text_of cells ++ text) ≡ front (quoted mark marked (text_of cells)) (quoted mark true text)
quoted_closed mark false [] text h w = absurd cc
quoted_closed mark true [] text h w = sym (nothing_before Ending.closed (quoted mark true text))
quoted_closed mark marked (cell ∷ cells) text h w =
    closed_step mark cell.byte (cell.byte == mark) marked (quoted mark false (text_of cells)) (quoted mark true (text_of cells)) (quoted mark false (text_of cells ++ text)) (quoted mark true (text_of cells ++ text)) (quoted mark true text) (length cells)
    (λ g i. quoted_closed mark false cells text g i) (λ g i. quoted_closed mark true cells text g i) h w

-- ---- one more cell

text_of-append : (cells more : List Cell) → text_of (cells ++ more) ≡ text_of cells ++ text_of more
text_of-append [] more = refl
text_of-append (cell ∷ cells) more = ap (λ (t : List Piece). Piece.at cell ∷ t) (text_of-append cells more)

one_longer : (cells : List Cell) (cell : Cell) → length (cells ++ cell ∷ []) ≡ length cells + 1
one_longer cells cell = omega (arith, length-append cells (cell ∷ []))

opened : (mark : ℕ) (cells : List Cell) (cell : Cell) → (quoted mark false (text_of cells)).ending ≡ Ending.open_so_far
    → quoted mark false (text_of (cells ++ cell ∷ [])) ≡ front (quoted mark false (text_of cells)) (quoted mark false (Piece.at cell ∷ []))
opened mark cells cell h = ap (quoted mark false) (text_of-append cells (cell ∷ [])) ∙ quoted_open mark false cells (Piece.at cell ∷ []) h

closed_on : (mark : ℕ) (cells : List Cell) (cell : Cell) → (quoted mark false (text_of cells)).ending ≡ Ending.closed → (quoted mark false (text_of cells)).more ≡ length cells
    → quoted mark false (text_of (cells ++ cell ∷ [])) ≡ front (quoted mark false (text_of cells)) (quoted mark true (Piece.at cell ∷ []))
closed_on mark cells cell h w = ap (quoted mark false) (text_of-append cells (cell ∷ [])) ∙ quoted_closed mark false cells (Piece.at cell ∷ []) h w

pub closes : (mark : Cell) (before : Before) (cells : List Cell) (cell : Cell) → IsOpen mark before cells → cell.byte ≡ mark.byte → IsClosed mark before (cells ++ cell ∷ [])
closes mark before cells cell o e =
    let same : (cell.byte == mark.byte) ≡ true = eq-eqb _ _ e in
    let q = quoted mark.byte false (text_of cells) in
    let last : quoted mark.byte false (Piece.at cell ∷ []) ≡ one_more (ended Ending.closed) = rw same refl in
    let all : quoted mark.byte false (text_of (cells ++ cell ∷ [])) ≡ front q (one_more (ended Ending.closed)) = opened mark.byte cells cell o.ending ∙ ap (front q) last in
    let n = open_whole mark.byte false cells o.ending in
    let l = one_longer cells cell in
    record {
      quote = o.quote;
      plain = o.plain;
      ending = ap (λ (r : Quoted). r.ending) all;
      whole = ap (λ (r : Quoted). r.more) all ∙ omega arith;
    }

pub stays_open : (mark : Cell) (before : Before) (cells : List Cell) (cell : Cell) → IsOpen mark before cells → (cell.byte ≡ mark.byte → ⊥) → IsOpen mark before (cells ++ cell ∷ [])
stays_open mark before cells cell o e =
    let other : (cell.byte == mark.byte) ≡ false = ne_eqb _ _ e in
    let q = quoted mark.byte false (text_of cells) in
    let last : quoted mark.byte false (Piece.at cell ∷ []) ≡ with_byte cell.byte (ended Ending.open_so_far) = rw other refl in
    let all : quoted mark.byte false (text_of (cells ++ cell ∷ [])) ≡ front q (with_byte cell.byte (ended Ending.open_so_far)) = opened mark.byte cells cell o.ending ∙ ap (front q) last in
    record { quote = o.quote; plain = o.plain; ending = ap (λ (r : Quoted). r.ending) all }

pub opens_again : (mark : Cell) (before : Before) (cells : List Cell) (cell : Cell) → IsClosed mark before cells → cell.byte ≡ mark.byte → IsOpen mark before (cells ++ cell ∷ [])
opens_again mark before cells cell o e =
    let same : (cell.byte == mark.byte) ≡ true = eq-eqb _ _ e in
    let q = quoted mark.byte false (text_of cells) in
    let last : quoted mark.byte true (Piece.at cell ∷ []) ≡ with_byte mark.byte (ended Ending.open_so_far) = rw same refl in
    let all : quoted mark.byte false (text_of (cells ++ cell ∷ [])) ≡ front q (with_byte mark.byte (ended Ending.open_so_far)) = closed_on mark.byte cells cell o.ending o.whole ∙ ap (front q) last in
    record { quote = o.quote; plain = o.plain; ending = ap (λ (r : Quoted). r.ending) all }
