-- The words of a directive, one after the other.
use Rattle.std.proofs.Common.{◌≡◌, ℕ, suc, ◌+◌, true, false, cond, List, [], ◌∷◌, take, drop, Some, None, refl, sym, ◌∙◌, arith, inl, inr}
use Rattle.std.specs.Prelude.{◌==◌, codes}
use Rattle.std.specs.List.{position_or_len}
use Rattle.std.proofs.lemmas.Bool.{cases_Bool}
use Rattle.cob_base.specs.Bytes.{space, begins_with, behind_spaces, same_word}
use Rattle.cob_base.specs.Lines.{words_of, on_first_word, without, form_named, form_of_words}
use Rattle.reference_format.specs.Parts.{IsFirstWord}

abbrev pub space_in : List ℕ → ℕ
space_in text = position_or_len (λ byte. byte == 32) text

pub words_of-behind_spaces : (text : List ℕ) → words_of (behind_spaces text) ≡ words_of text
words_of-behind_spaces [] = refl
words_of-behind_spaces (b ∷ text) =
    elim (cases_Bool (b == 32)) [
      | inl e ↦ rw e (words_of-behind_spaces text)
      | inr e ↦ rw (e, e) refl
    ]

pub behind_spaces-first : (text : List ℕ) → begins_with space (behind_spaces text) ≡ false
behind_spaces-first [] = refl
behind_spaces-first (b ∷ text) =
    elim (cases_Bool (b == 32)) [
      | inl e ↦ rw e (behind_spaces-first text)
      | inr e ↦ rw (e, e) refl
    ]

on_first_word-alone : (b : ℕ) (words : List (List ℕ)) → on_first_word b false words ≡ (b ∷ []) ∷ words
on_first_word-alone b [] = refl
on_first_word-alone b (word ∷ words) = refl

on_first_word-more : (b : ℕ) (words : List (List ℕ)) (word : List ℕ) (rest : List (List ℕ)) → words ≡ word ∷ rest → on_first_word b true words ≡ (b ∷ word) ∷ rest
on_first_word-more b words word rest e = rw e refl

-- a byte that is no space and what follows it
from_byte : (b : ℕ) (text : List ℕ) → (b == 32) ≡ false → words_of (b ∷ text) ≡ (b ∷ take (space_in text) text) ∷ words_of (drop (space_in text) text)
from_byte b [] e = rw e refl
from_byte b (c ∷ text) e =
    elim (cases_Bool (c == 32)) [
      | inl s ↦ rw (e, s, s) (on_first_word-alone b (words_of text))
      | inr s ↦ (
          let one : 1 + space_in text ≡ suc (space_in text) = omega arith in
          let rest : words_of (c ∷ text) ≡ (c ∷ take (space_in text) text) ∷ words_of (drop (space_in text) text) = from_byte c text s in
          rw (e, s, one) (on_first_word-more b _ _ _ (rw s at rest)))
    ]

pub first_is : (text : List ℕ) → begins_with space text ≡ false → IsFirstWord text (take (space_in text) text) (drop (space_in text) text)
first_is [] h = (refl, refl)
first_is (b ∷ text) h =
    let one : 1 + space_in text ≡ suc (space_in text) = omega arith in
    rw (h, one) (from_byte b text h)

pub along : (a b word rest : List ℕ) → words_of a ≡ words_of b → IsFirstWord a word rest → IsFirstWord b word rest
along a b [] rest e first = (sym e ∙ first.0, first.1)
along a b (byte ∷ word) rest e first = sym e ∙ first

-- ---- the words of a directive in their order

pub optional_taken : (optional text word rest : List ℕ) → IsFirstWord text word rest → same_word word optional ≡ true → words_of rest ≡ without optional (words_of text)
optional_taken optional text [] rest first e = rw (first.0, first.1) refl
optional_taken optional text (byte ∷ word) rest first e = rw (first, e) refl

pub optional_kept : (optional text word rest : List ℕ) → IsFirstWord text word rest → same_word word optional ≡ false → words_of text ≡ without optional (words_of text)
optional_kept optional text [] rest first e = rw first.0 refl
optional_kept optional text (byte ∷ word) rest first e = rw (first, e) refl

pub no_source : (text word rest : List ℕ) → IsFirstWord text word rest → same_word word (codes ">>SOURCE") ≡ false → form_of_words (words_of text) ≡ None
no_source text [] rest first e = rw first.0 refl
no_source text (byte ∷ word) rest first e = rw (first, e) refl

pub behind_source : (text word rest : List ℕ) → IsFirstWord text word rest → same_word word (codes ">>SOURCE") ≡ true
    → form_of_words (words_of text) ≡ form_named (without (codes "IS") (without (codes "FORMAT") (words_of rest)))
behind_source text [] rest first e = absurd cc
behind_source text (byte ∷ word) rest first e = rw (first, e) refl

pub named_more : (text word rest more behind : List ℕ) → IsFirstWord text word rest → IsFirstWord rest more behind → (more ≡ [] → ⊥) → form_named (words_of text) ≡ None
named_more text word rest [] behind first second e = absurd (e refl)
named_more text [] rest (byte ∷ more) behind first second e = rw first.0 refl
named_more text (b ∷ word) rest (byte ∷ more) behind first second e = rw (first, second) refl

pub named_last : (text word rest more behind : List ℕ) → IsFirstWord text word rest → IsFirstWord rest more behind → more ≡ [] →
    form_named (words_of text) ≡ cond (same_word word (codes "FREE")) (Some false) (cond (same_word word (codes "FIXED")) (Some true) None)
named_last text word rest (byte ∷ more) behind first second e = absurd cc
named_last text [] rest [] behind first second e = rw first.0 refl
named_last text (b ∷ word) rest [] behind first second e = rw (first, second.0) refl
