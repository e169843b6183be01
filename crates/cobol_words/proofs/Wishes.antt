-- What is cut where a picture is wanted.
use Rattle.std.proofs.Common.{◌≡◌, ℕ, suc, ◌-◌, Bool, true, false, cond, List, [], ◌∷◌, length, get_or, take, refl, sym, ap, ◌∙◌, arith}
use Rattle.cobol_words.specs.Pictures.{is_final_mark, less_final_mark}

-- ---- one final mark

last_byte : (b : ℕ) (run less : List ℕ) (t : Bool) → less ≡ cond t (take (length run - 1) run) run
    → b ∷ less ≡ cond t (take (suc (length run - 1)) (b ∷ run)) (b ∷ run)
last_byte b run less true e = rw e refl
last_byte b run less false e = rw e refl

less_final_mark-is : (run : List ℕ) → less_final_mark run ≡ cond (is_final_mark (get_or run (length run - 1) 0)) (take (length run - 1) run) run
less_final_mark-is [] = refl
less_final_mark-is (b ∷ []) = refl
less_final_mark-is (b ∷ c ∷ run) =
    let e : length (b ∷ c ∷ run) - 1 ≡ suc (length (c ∷ run) - 1) = omega arith in
    rw e (last_byte b (c ∷ run) (less_final_mark (c ∷ run)) (is_final_mark (get_or (c ∷ run) (length (c ∷ run) - 1) 0)) (less_final_mark-is (c ∷ run)))

pub mark_kept : (run : List ℕ) → is_final_mark (get_or run (length run - 1) 0) ≡ false → run ≡ less_final_mark run
mark_kept run h = sym (less_final_mark-is run ∙ ap (λ (t : Bool). cond t (take (length run - 1) run) run) h)

pub mark_cut : (run : List ℕ) → is_final_mark (get_or run (length run - 1) 0) ≡ true → take (length run - 1) run ≡ less_final_mark run
mark_cut run h = sym (less_final_mark-is run ∙ ap (λ (t : Bool). cond t (take (length run - 1) run) run) h)
