-- Spaces at the ends of a line's text, and the mark with which it goes on.
use Rattle.std.proofs.Common.{◌≡◌, ℕ, zero, suc, ◌-◌, ◌≤◌, ◌<◌, Bool, true, false, cond, List, [], ◌∷◌, ◌++◌, length, get_or, take, drop, Some, append_assoc, refl, sym, ap, ◌∙◌, arith, inl, inr}
use Rattle.std.specs.Prelude.{◌==◌, ◌&&◌}
use Rattle.std.specs.List.{list_all}
use Rattle.std.proofs.lemmas.Bool.{ne_eqb, or_cases, eqb-true, and_right}
use Rattle.std.proofs.lemmas.List.{length-take-le, get_or-take}
use Rattle.std.proofs.lemmas.List.Folds.{list_all_at}
use Rattle.cob_base.specs.declared.line.Line.{Line}
use Rattle.cob_base.specs.declared.line.SourceLine.{SourceLine}
use Rattle.cob_base.specs.Bytes.{begins_with, behind_spaces}
use Rattle.cobol_words.specs.Joined.{Piece, cells, trimmed, filling}
use Rattle.cobol_words.specs.Text.{behind_mark, continuation, own_text}
use Rattle.cobol_words.specs.Taking.{is_quote}

abbrev all_spaces : List ℕ → Bool
all_spaces bytes = list_all (λ b. b == 32) bytes

more_spaces : (bytes : List ℕ) → all_spaces (bytes ++ 32 ∷ []) ≡ all_spaces bytes
more_spaces [] = refl
more_spaces (b ∷ bytes) = ap (λ (t : Bool). (b == 32) && t) (more_spaces bytes)

pub trimmed_space : (bytes : List ℕ) → trimmed (bytes ++ 32 ∷ []) ≡ trimmed bytes
trimmed_space [] = refl
trimmed_space (b ∷ bytes) =
    ap (λ (t : Bool). cond ((b == 32) && t) [] (b ∷ trimmed (bytes ++ 32 ∷ []))) (more_spaces bytes)
    ∙ ap (λ (xs : List ℕ). cond ((b == 32) && all_spaces bytes) [] (b ∷ xs)) (trimmed_space bytes)

pub trimmed_done : (bytes : List ℕ) → 0 < length bytes → (get_or bytes (length bytes - 1) 0 == 32) ≡ false → trimmed bytes ≡ bytes
trimmed_done [] some h = absurd (omega arith)
trimmed_done (b ∷ []) some h = ap (λ (t : Bool). cond (t && true) [] (b ∷ [])) h
trimmed_done (b ∷ c ∷ bytes) some h =
    let e : length (b ∷ c ∷ bytes) - 1 ≡ suc (length (c ∷ bytes) - 1) = omega arith in
    let h' : (get_or (c ∷ bytes) (length (c ∷ bytes) - 1) 0 == 32) ≡ false = rw e at h in
    let within : length (c ∷ bytes) - 1 < length (c ∷ bytes) = omega arith in
    let not_all : all_spaces (c ∷ bytes) ≡ false = list_all_at (λ b. b == 32) (c ∷ bytes) (length (c ∷ bytes) - 1) 0 within h' in
    ap (λ (t : Bool). cond ((b == 32) && t) [] (b ∷ trimmed (c ∷ bytes))) not_all
    ∙ ap (λ (t : Bool). cond t [] (b ∷ trimmed (c ∷ bytes))) (and_right (b == 32) false refl)
    ∙ ap (λ (xs : List ℕ). b ∷ xs) (trimmed_done (c ∷ bytes) (omega arith) h')

pub trimmed_kept : (bytes : List ℕ) (n : ℕ) → 0 < n → n ≤ length bytes → (get_or bytes (n - 1) 0 ≡ 32 → ⊥) → trimmed (take n bytes) ≡ take n bytes
trimmed_kept bytes n some within h =
    let len : length (take n bytes) ≡ n = length-take-le n bytes within in
    let below : n - 1 < n = omega arith in
    let last : get_or (take n bytes) (length (take n bytes) - 1) 0 ≡ get_or bytes (n - 1) 0 = rw len (get_or-take n bytes (n - 1) 0 below) in
    trimmed_done (take n bytes) (omega arith) (ap (λ (b : ℕ). b == 32) last ∙ ne_eqb _ _ h)

take_last : (bytes : List ℕ) (n : ℕ) → n < length bytes → take (suc n) bytes ≡ take n bytes ++ get_or bytes n 0 ∷ []
take_last [] n h = absurd (omega arith)
take_last (b ∷ bytes) zero h = refl
take_last (b ∷ bytes) (suc n) h = ap (λ (xs : List ℕ). b ∷ xs) (take_last bytes n (omega arith))

pub trimmed_less : (bytes : List ℕ) (n : ℕ) → 0 < n → n ≤ length bytes → get_or bytes (n - 1) 0 ≡ 32 → trimmed (take (n - 1) bytes) ≡ trimmed (take n bytes)
trimmed_less bytes n some within e =
    let k : n ≡ suc (n - 1) = omega arith in
    let last : take n bytes ≡ take (n - 1) bytes ++ 32 ∷ [] =
    ap (λ (m : ℕ). take m bytes) k ∙ take_last bytes (n - 1) (omega arith) ∙ ap (λ (b : ℕ). take (n - 1) bytes ++ b ∷ []) e in
    sym (ap trimmed last ∙ trimmed_space (take (n - 1) bytes))

pub length-trimmed : (bytes : List ℕ) → length (trimmed bytes) ≤ length bytes
length-trimmed [] = omega arith
length-trimmed (b ∷ bytes) = by_case (all_spaces (b ∷ bytes)) (length-trimmed bytes)
  where
    by_case : (t : Bool) → length (trimmed bytes) ≤ length bytes → length (cond t [] (b ∷ trimmed bytes)) ≤ length (b ∷ bytes)
    by_case true h = omega arith
    by_case false h = omega arith

pub some_bytes : (byte : ℕ) (text : List ℕ) → begins_with byte text ≡ true → 1 ≤ length text
some_bytes byte [] h = absurd cc
some_bytes byte (first ∷ text) h = omega arith

pub behind_other : (mark : ℕ) (line : Line) (text : List ℕ) → begins_with mark text ≡ false → behind_mark mark line text ≡ Piece.wrong line ∷ []
behind_other mark line [] h = refl
behind_other mark line (first ∷ text) h = rw h refl

pub behind_same : (mark : ℕ) (line : Line) (text : List ℕ) → begins_with mark text ≡ true → behind_mark mark line text ≡ cells line (drop 1 text)
behind_same mark line [] h = absurd cc
behind_same mark line (first ∷ text) h = rw h refl

pub quote_not_space : (mark : ℕ) → is_quote mark ≡ true → (32 == mark) ≡ false
quote_not_space mark q = elim (or_cases (mark == 34) (mark == 39) q) [
  | inl h ↦ (let e = eqb-true mark 34 h in rw e refl)
  | inr h ↦ (let e = eqb-true mark 39 h in rw e refl)
]

-- what a continuation line of a literal adds
pub literal_goes_on : (mark : ℕ) (last line : SourceLine) (text : List ℕ) (pieces after : List Piece) → last.fixed ≡ true → text ≡ behind_spaces (trimmed line.text)
    → behind_mark mark line.line text ≡ pieces → continuation (Some mark) last line ++ after ≡ filling last ++ (pieces ++ after)
literal_goes_on mark last line text pieces after f e b =
    let same : behind_mark mark line.line (behind_spaces (trimmed line.text)) ≡ pieces = ap (behind_mark mark line.line) (sym e) ∙ b in
    ap (λ (t : Bool). cond t (filling last ++ behind_mark mark line.line (behind_spaces (trimmed line.text))) (Piece.line_end ∷ own_text line) ++ after) f
    ∙ append_assoc (filling last) (behind_mark mark line.line (behind_spaces (trimmed line.text))) after
    ∙ ap (λ (p : List Piece). filling last ++ (p ++ after)) same
