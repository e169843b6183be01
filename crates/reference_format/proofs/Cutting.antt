-- A text cut at its first line feed.
use Rattle.std.proofs.Common.{◌≡◌, ℕ, suc, ◌+◌, ◌-◌, ◌<◌, ◌≤◌, Bool, true, false, not, cond, List, [], ◌∷◌, length, get_or, take, drop, refl, ap, arith, inl, inr}
use Rattle.std.specs.Prelude.{◌==◌, ◌&&◌}
use Rattle.std.specs.List.{position_or_len}
use Rattle.std.proofs.lemmas.Bool.{cases_Bool, and_parts, and_right, eq-eqb, ne_eqb}
use Rattle.std.proofs.lemmas.Bool.Decides.{nat_tests}
use Rattle.cob_base.specs.Lines.{cut_into_lines, on_first_line}
use Rattle.reference_format.specs.Parts.{without_return}

abbrev pub feed_in : List ℕ → ℕ
feed_in text = position_or_len (λ byte. byte == 10) text

-- ---- a carriage return at the end

return_at : (b : ℕ) (line cut : List ℕ) (t : Bool) → cut ≡ cond t (take (length line - 1) line) line → 0 < length line
    → b ∷ cut ≡ cond t (take (suc (length line - 1)) (b ∷ line)) (b ∷ line)
return_at b line cut true e h = rw e refl
return_at b line cut false e h = rw e refl

pub without_return-is : (line : List ℕ) → without_return line ≡ cond (get_or line (length line - 1) 0 == 13) (take (length line - 1) line) line
without_return-is [] = refl
without_return-is (b ∷ []) = refl
without_return-is (b ∷ c ∷ line) =
    let e : length (b ∷ c ∷ line) - 1 ≡ suc (length (c ∷ line) - 1) = omega arith in
    rw e (return_at b (c ∷ line) (without_return (c ∷ line)) (get_or (c ∷ line) (length (c ∷ line) - 1) 0 == 13) (without_return-is (c ∷ line)) (omega arith))

pub return_kept : (line : List ℕ) → (get_or line (length line - 1) 0 ≡ 13 → ⊥) → line ≡ without_return line
return_kept line h =
    let t : (get_or line (length line - 1) 0 == 13) ≡ false = ne_eqb _ _ h in
    rw (without_return-is line, t) refl

pub return_cut : (line : List ℕ) → get_or line (length line - 1) 0 ≡ 13 → take (length line - 1) line ≡ without_return line
return_cut line h =
    let t : (get_or line (length line - 1) 0 == 13) ≡ true = eq-eqb _ _ h in
    rw (without_return-is line, t) refl

-- ---- the first line feed

-- a byte before the rest of its line
pub longer : (b : ℕ) (line : List ℕ) → ((b == 13) && (length line == 0)) ≡ false → without_return (b ∷ line) ≡ b ∷ without_return line
longer b [] h = rw (without_and _ h) refl
  where
    without_and : (t : Bool) → (t && true) ≡ false → t ≡ false
    without_and true h = h
    without_and false h = refl
longer b (c ∷ line) h = refl

abbrev Cut : List ℕ → Type 0
Cut text = feed_in text < length text → cut_into_lines text ≡ without_return (take (feed_in text) text) ∷ cut_into_lines (drop (feed_in text + 1) text)

at_feed : (b : ℕ) (text : List ℕ) → (b == 10) ≡ true → Cut (b ∷ text)
at_feed b text e h = rw (e) refl

-- a carriage return right before the feed
at_return : (b c : ℕ) (text : List ℕ) → (b == 10) ≡ false → (b == 13) ≡ true → (c == 10) ≡ true → Cut (b ∷ c ∷ text)
at_return b c text e r f h = rw (e, r, f, r) refl

step : (b n : ℕ) (rest : List ℕ) (cut : List (List ℕ)) → cut ≡ without_return (take n rest) ∷ cut_into_lines (drop (n + 1) rest)
    → ((b == 13) && (length (take n rest) == 0)) ≡ false
    → on_first_line b cut ≡ without_return (take (1 + n) (b ∷ rest)) ∷ cut_into_lines (drop (1 + n + 1) (b ∷ rest))
step b n rest cut e h =
    let s : 1 + n ≡ suc n = omega arith in
    let d : suc n + 1 ≡ suc (n + 1) = omega arith in
    rw (e, s, d, longer b (take n rest) h) refl

nonzero : (k : ℕ) → (suc k == 0) ≡ false
nonzero k = grind (arith, nat_tests)

-- where the feed comes at once, a byte before it is no carriage return
is_longer : (b c : ℕ) (text : List ℕ) (f : Bool) → (c == 10) ≡ f → ((b == 13) && f) ≡ false → ((b == 13) && (length (take (cond (not f) (1 + feed_in text) 0) (c ∷ text)) == 0)) ≡ false
is_longer b c text true e h = h
is_longer b c text false e h =
    let s : 1 + feed_in text ≡ suc (feed_in text) = omega arith in
    rw s (and_right (b == 13) (length (take (suc (feed_in text)) (c ∷ text)) == 0) (nonzero (length (take (feed_in text) text))))

before_feed : (b c : ℕ) (text : List ℕ) → (b == 10) ≡ false → ((b == 13) && (c == 10)) ≡ false → Cut (c ∷ text) → Cut (b ∷ c ∷ text)
before_feed b c text e r rest h =
    let h' : 1 + feed_in (c ∷ text) < length (b ∷ c ∷ text) = rw e at h in
    let below : feed_in (c ∷ text) < length (c ∷ text) = omega arith in
    rw (e, r) (step b (feed_in (c ∷ text)) (c ∷ text) (cut_into_lines (c ∷ text)) (rest below) (is_longer b c text (c == 10) refl r))

pub first_line : (text : List ℕ) → Cut text
first_line [] h = absurd (omega arith)
first_line (b ∷ []) h =
    elim (cases_Bool (b == 10)) [
      | inl e ↦ at_feed b [] e h
      | inr e ↦ absurd (let h' : 1 < 1 = rw e at h in omega arith)
    ]
first_line (b ∷ c ∷ text) h =
    elim (cases_Bool (b == 10)) [
      | inl e ↦ at_feed b (c ∷ text) e h
      | inr e ↦ elim (cases_Bool ((b == 13) && (c == 10))) [
        | inl r ↦ (let p = and_parts (b == 13) (c == 10) r in at_return b c text e p.0 p.1 h)
        | inr r ↦ before_feed b c text e r (first_line (c ∷ text)) h
      ]
    ]

-- ---- a text without a line feed

no_feed : (b : ℕ) (text : List ℕ) (f : Bool) → (b == 10) ≡ f → length (b ∷ text) ≤ cond (not f) (1 + feed_in text) 0 → (f ≡ false) × (length text ≤ feed_in text)
no_feed b text true e h = absurd (omega arith)
no_feed b text false e h = (refl, omega arith)

pub last_line : (b : ℕ) (text : List ℕ) → length (b ∷ text) ≤ feed_in (b ∷ text) → cut_into_lines (b ∷ text) ≡ (b ∷ text) ∷ []
last_line b [] h =
    let n = no_feed b [] (b == 10) refl h in
    rw (n.0, and_right (b == 13) false refl) refl
last_line b (c ∷ text) h =
    let n = no_feed b (c ∷ text) (b == 10) refl h in
    let m = no_feed c text (c == 10) refl n.1 in
    let r : ((b == 13) && (c == 10)) ≡ false = and_right (b == 13) (c == 10) m.0 in
    let rest : cut_into_lines (c ∷ text) ≡ (c ∷ text) ∷ [] = last_line c text n.1 in
    rw (n.0, r) (ap (on_first_line b) rest)
