-- The lines of a screen, printed one after the other.
use Rattle.std.proofs.Common.{◌≡◌, ℕ, suc, ◌+◌, ◌-◌, ◌*◌, ◌<◌, List, [], ◌∷◌, ◌++◌, refl, sym, ◌∙◌, ap, arith, take, drop, map, append_assoc}
use Rattle.std.proofs.lemmas.List.{take-map, drop-map, drop-drop}
use Rattle.screen_cells.specs.declared.cell.Cell.{Cell}
use Rattle.cobol_cmd.specs.Report.{screen_lines}

-- a line between bars at the front of what follows it
line_in_front : (before row rest : List ℕ) → before ++ (124 ∷ (row ++ (124 ∷ 10 ∷ []))) ++ rest ≡ before ++ (124 ∷ row ++ (124 ∷ 10 ∷ rest))
line_in_front before row rest =
    append_assoc before (124 ∷ (row ++ (124 ∷ 10 ∷ []))) rest ∙ ap (λ (l : List ℕ). before ++ (124 ∷ l)) (append_assoc row (124 ∷ 10 ∷ []) rest)

pub one_line : (before after whole : List ℕ) (cells : List Cell) (n : ℕ) → n < 24
    → after ≡ before ++ (124 ∷ (map (λ (cell : Cell). cell.byte) (take (n * 80 + 80 - n * 80) (drop (n * 80) cells)) ++ (124 ∷ 10 ∷ [])))
    → before ++ screen_lines (24 - n) (map (λ (cell : Cell). cell.byte) (drop (n * 80) cells)) ≡ whole
    → after ++ screen_lines (24 - (n + 1)) (map (λ (cell : Cell). cell.byte) (drop ((n + 1) * 80) cells)) ≡ whole
one_line before after whole cells n within is so_far =
    let byte : Cell → ℕ = λ cell. cell.byte in
    let bytes : List ℕ = map byte (drop (n * 80) cells) in
    let k : ℕ = 24 - (n + 1) in
    let one_less : 24 - n ≡ suc k = omega (arith, within) in
    let eighty : n * 80 + 80 - n * 80 ≡ 80 = omega arith in
    let next : (n + 1) * 80 ≡ n * 80 + 80 = omega arith in
    let row : map byte (take (n * 80 + 80 - n * 80) (drop (n * 80) cells)) ≡ take 80 bytes =
    ap (λ (m : ℕ). map byte (take m (drop (n * 80) cells))) eighty ∙ sym (take-map byte 80 (drop (n * 80) cells)) in
    let rest : map byte (drop ((n + 1) * 80) cells) ≡ drop 80 bytes =
    ap (λ (m : ℕ). map byte (drop m cells)) next ∙ ap (map byte) (sym (drop-drop 80 (n * 80) cells)) ∙ sym (drop-map byte 80 (drop (n * 80) cells)) in
    let lines : screen_lines (24 - n) bytes ≡ 124 ∷ take 80 bytes ++ (124 ∷ 10 ∷ screen_lines k (drop 80 bytes)) = ap (λ (m : ℕ). screen_lines m bytes) one_less in
    ap (λ (l : List ℕ). l ++ screen_lines k (map byte (drop ((n + 1) * 80) cells))) (is ∙ ap (λ (r : List ℕ). before ++ (124 ∷ (r ++ (124 ∷ 10 ∷ [])))) row)
    ∙ ap (λ (r : List ℕ). before ++ (124 ∷ (take 80 bytes ++ (124 ∷ 10 ∷ []))) ++ screen_lines k r) rest
    ∙ line_in_front before (take 80 bytes) (screen_lines k (drop 80 bytes))
    ∙ ap (λ (l : List ℕ). before ++ l) (sym lines) ∙ so_far
