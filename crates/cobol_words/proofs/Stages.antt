-- What is kept while the text is read.
use Rattle.std.proofs.Common.{◌≡◌, ℕ, Bool, true, false, List, [], ◌∷◌, ◌++◌, Result, Ok, Err, refl, sym, ap, subst, ◌∙◌, inl, inr}
use Rattle.std.specs.Prelude.{◌==◌, ◌&&◌, OnOk}
use Rattle.std.proofs.lemmas.Bool.{or_parts, or_cases, and_right, eqb-true}
use Rattle.cobol_words.specs.declared.cell.Cell.{Cell}
use Rattle.cobol_words.specs.declared.before.Before.{Before}
use Rattle.cobol_words.specs.declared.cutter.Stage.{Stage}
use Rattle.cobol_words.specs.declared.fault.WordFault.{WordFault}
use Rattle.cobol_words.specs.declared.fault.WordFault.TheVariants as faults
use Rattle.cobol_words.specs.Runs.{Found}
use Rattle.cobol_words.specs.Text.{words_or_fault}
use Rattle.cobol_words.specs.Taking.{IsSolid, HasNoQuote, is_quote, wants_none, GoesOn}
use Rattle.cobol_words.specs.Cutting.{IsAt, IsOutside}

pub on_ok : {T E P Q : Type 0} (r : Result T E) → (P → Q) → OnOk r P → OnOk r Q
on_ok (Ok x) f p = f p
on_ok (Err e) f p = tt

pub moved : (s t : Stage) (a b : Before) (x y : List Cell) → t ≡ s → b ≡ a → y ≡ x → IsAt s a x → IsAt t b y
moved s t a b x y e f g h = rw (e, f, g) h

abbrev pub ends_in_star : List Cell → Bool
ends_in_star [] = false
ends_in_star (cell ∷ []) = cell.byte == 42
ends_in_star (cell ∷ next ∷ cells) = ends_in_star (next ∷ cells)

pub ends_in_star-last : (front : List Cell) (last : Cell) → ends_in_star (front ++ last ∷ []) ≡ (last.byte == 42)
ends_in_star-last [] last = refl
ends_in_star-last (cell ∷ []) last = refl
ends_in_star-last (cell ∷ next ∷ front) last = ends_in_star-last (next ∷ front) last

pub solid_push : (cells : List Cell) (cell : Cell) → IsSolid cells → (cell.byte == 32) ≡ false → (ends_in_star cells && (cell.byte == 62)) ≡ false → IsSolid (cells ++ cell ∷ [])
solid_push [] cell solid s m = (rw (s, and_right (cell.byte == 42) false refl) refl, tt)
solid_push (first ∷ []) cell solid s m =
    let p = or_parts (first.byte == 32) _ solid.0 in
    (rw (p.0, m) refl, solid_push [] cell tt s refl)
solid_push (first ∷ next ∷ cells) cell solid s m = (solid.0, solid_push (next ∷ cells) cell solid.1 s m)

no_quote_push : (cells : List Cell) (cell : Cell) → HasNoQuote cells → is_quote cell.byte ≡ false → HasNoQuote (cells ++ cell ∷ [])
no_quote_push [] cell none q = (q, tt)
no_quote_push (first ∷ cells) cell none q = (none.0, no_quote_push cells cell none.1 q)

pub outside_push : (before : Before) (cells : List Cell) (cell : Cell) → IsOutside before cells → (cell.byte == 32) ≡ false → (ends_in_star cells && (cell.byte == 62)) ≡ false
    → (wants_none before.wish ≡ true → is_quote cell.byte ≡ false) → IsOutside before (cells ++ cell ∷ [])
outside_push before cells cell outside s m q = (solid_push cells cell outside.0 s m, λ w. no_quote_push cells cell (outside.1 w) (q w))

solid_front : (front : List Cell) (last : Cell) → IsSolid (front ++ last ∷ []) → IsSolid front
solid_front [] last solid = tt
solid_front (cell ∷ []) last solid =
    let p = or_parts (cell.byte == 32) _ solid.0 in
    (rw (p.0, and_right (cell.byte == 42) false refl) refl, tt)
solid_front (cell ∷ next ∷ front) last solid = (solid.0, solid_front (next ∷ front) last solid.1)

no_quote_front : (front : List Cell) (last : Cell) → HasNoQuote (front ++ last ∷ []) → HasNoQuote front
no_quote_front [] last none = tt
no_quote_front (cell ∷ front) last none = (none.0, no_quote_front front last none.1)

pub outside_front : (before : Before) (front : List Cell) (last : Cell) → IsOutside before (front ++ last ∷ []) → IsOutside before front
outside_front before front last outside = (solid_front front last outside.0, λ w. no_quote_front front last (outside.1 w))

pub quote_is : (byte : ℕ) → is_quote byte ≡ true → ((byte == 32) ≡ false) × ((t : Bool) → (t && (byte == 62)) ≡ false)
quote_is byte q = elim (or_cases (byte == 34) (byte == 39) q) [
  | inl h ↦ (let e = eqb-true byte 34 h in (rw e refl, λ t. rw e (and_right t false refl)))
  | inr h ↦ (let e = eqb-true byte 39 h in (rw e refl, λ t. rw e (and_right t false refl)))
]

-- a fault answers whatever the value would say
pub goes_err : {A B : Type 0} (fault : WordFault) (g : A → List Found) (h : B → List Found) (found other : List Found) → found ≡ other → GoesOn (Err fault) g found → GoesOn (Err fault) h other
goes_err faults.NoMemory g h found other e x = tt
goes_err fault g h found other e x = ap words_or_fault (sym e) ∙ x

pub goes_on_to : {A : Type 0} (r : Result A WordFault) (g : A → List Found) (found other : List Found) → found ≡ other → GoesOn r g found → GoesOn r g other
goes_on_to r g found other e x = subst (λ (f : List Found). GoesOn r g f) e x
