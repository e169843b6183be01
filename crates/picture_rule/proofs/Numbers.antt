-- Alphanumeric and numeric marks, part by part.
use Rattle.std.proofs.Common.{◌≡◌, ℕ, zero, suc, ◌+◌, ◌<◌, ◌≤◌, ◌⊎◌, inl, inr, Bool, true, false, List, [], ◌∷◌, ◌++◌, length, replicate, refl, sym, ap, subst, ◌∙◌, arith, append-nil}
use Rattle.std.proofs.lemmas.List.{length-replicate}
use Rattle.std.specs.Prelude.{codes, min, ◌-◌, ◌^◌, nat_eq}
use Rattle.picture_rule.specs.Picture.{Form, is_among, AllAmong, IsAlphanumeric, IsNumeric}
use Rattle.picture_rule.specs.Text.{Writes}
use Rattle.picture_rule.specs.Reading.{counted}
use Rattle.picture_rule.specs.Span.{IsSpan, StopsAt}
use Rattle.picture_rule.specs.declared.kind.PictureKind.TheVariants.{Alphanumeric, Numeric}
use Rattle.picture_rule.proofs.Parts.{takes, empty_text, no_marks, all_one, replicate_among}
use Rattle.std.proofs.lemmas.Bool.{both_ways, and_parts, eqb-true, eq-eqb}
use Rattle.picture_rule.specs.declared.outline.Outline.{Outline}
use Rattle.picture_rule.specs.Outline.{IsOutline, Begins}

pub record IsWhole (text marks rest all : List ℕ) : Type 0 where
  pub same : marks ≡ all
  pub end : rest ≡ []

pub letters_only : (text marks rest all : List ℕ) (form : Form) → IsSpan (codes "XA") text marks rest → Writes text all → IsAlphanumeric all form → IsWhole text marks rest all
letters_only text marks rest all form s w a =
    let taken = takes (codes "XA") text marks rest all [] s (subst (λ m. Writes text m) (sym (append-nil all)) w) a.letters tt in
    record { same = taken.same; end = empty_text rest taken.left }

pub ends : (wanted text marks rest : List ℕ) → IsSpan wanted text marks rest → rest ≡ [] → Writes text marks
ends wanted text marks rest s e = subst (λ m. Writes text m) (append-nil marks) (s.reads.back [] (no_marks rest e))

not_empty : (marks : List ℕ) → 0 < length marks → marks ≡ [] → ⊥
not_empty marks h e = omega (arith, ap length e)

pub letters_found : (text marks rest : List ℕ) → IsSpan (codes "XA") text marks rest → rest ≡ [] → 0 < length marks
    → Writes text marks × IsAlphanumeric marks (record { kind = Alphanumeric; size = length marks; digits = 0; decimals = 0; signed = false })
letters_found text marks rest s e h = (ends _ text marks rest s e, record { some = not_empty marks h; letters = s.all; is = refl })

-- what `is_empty` says of a rest
pub no_rest : (rest : List ℕ) (b : Bool) → b ≡ nat_eq (length rest) 0 → b ≡ true → rest ≡ []
no_rest [] b e h = refl
no_rest (x ∷ rest) b e h = absurd (let same : length (x ∷ rest) ≡ 0 = eqb-true _ _ (sym e ∙ h) in omega arith)

pub some_rest : (rest : List ℕ) (b : Bool) → b ≡ nat_eq (length rest) 0 → b ≡ false → rest ≡ [] → ⊥
some_rest rest b e h empty = both_ways b h (e ∙ eq-eqb _ _ (ap length empty))

pub letters_outline : (marks all : List ℕ) (form : Form) (n : ℕ) → n ≡ counted (length marks) → marks ≡ all → IsAlphanumeric all form
    → IsOutline (record { kind = Alphanumeric; size = n; digits = 0; decimals = 0; signed = false }) form
letters_outline marks all form n h e a = subst (λ f. IsOutline (record { kind = Alphanumeric; size = n; digits = 0; decimals = 0; signed = false }) f) (sym a.is)
    (record { kind = refl; size = h ∙ ap (λ m. counted (length m)) e; digits = refl; decimals = refl; signed = refl })

-- ---- numeric

-- the four parts that a text begins with
pub record NumberSpans (text sign whole point decimals rest : List ℕ) : Type 0 where
  pub after_sign : List ℕ
  pub after_whole : List ℕ
  pub after_point : List ℕ
  pub sign_is : IsSpan (codes "S") text sign after_sign
  pub whole_is : IsSpan (codes "9") after_sign whole after_whole
  pub point_is : IsSpan (codes "V") after_whole point after_point
  pub decimals_is : IsSpan (codes "9") after_point decimals rest

pub record AreParts (sign whole point decimals rest : List ℕ) {all : List ℕ} {form : Form} (n : IsNumeric all form) : Type 0 where
  pub same_sign : sign ≡ n.sign
  pub same_whole : whole ≡ replicate n.whole 57
  pub same_point : point ≡ n.point
  pub same_decimals : decimals ≡ replicate n.decimals 57
  pub end : rest ≡ []

abbrev IsPoint : List ℕ → ℕ → Type 0
IsPoint point decimals = (point ≡ codes "V") ⊎ ((point ≡ []) × (decimals ≡ 0))

point_begins : (point : List ℕ) (decimals : ℕ) → IsPoint point decimals → Begins (codes "9") (point ++ replicate decimals 57)
point_begins point decimals (inl e) = rw e refl
point_begins point decimals (inr e) = rw (e.0, e.1) tt

whole_begins : (whole : ℕ) (point : List ℕ) (decimals : ℕ) → IsPoint point decimals → Begins (codes "S") (replicate whole 57 ++ (point ++ replicate decimals 57))
whole_begins (suc n) point decimals h = refl
whole_begins zero point decimals (inl e) = rw e refl
whole_begins zero point decimals (inr e) = rw (e.0, e.1) tt

nines_begin : (decimals : ℕ) → Begins (codes "V") (replicate decimals 57)
nines_begin zero = tt
nines_begin (suc n) = refl

sign_among : (sign : List ℕ) (signed : Bool) → ((sign ≡ codes "S") × (signed ≡ true)) ⊎ ((sign ≡ []) × (signed ≡ false)) → AllAmong (codes "S") sign
sign_among sign signed (inl e) = rw e.0 refl
sign_among sign signed (inr e) = rw e.0 refl

point_among : (point : List ℕ) (decimals : ℕ) → IsPoint point decimals → AllAmong (codes "V") point
point_among point decimals (inl e) = rw e refl
point_among point decimals (inr e) = rw e.0 refl

pub numbers_only : (text sign whole point decimals rest all : List ℕ) (form : Form) → NumberSpans text sign whole point decimals rest → Writes text all → (n : IsNumeric all form) → AreParts sign whole point decimals rest n
numbers_only text sign whole point decimals rest all form s w n =
    let a = takes _ text sign s.after_sign n.sign _ s.sign_is (subst (λ m. Writes text m) n.parts w) (sign_among n.sign form.signed n.sign_is) (whole_begins n.whole n.point n.decimals n.point_is) in
    let b = takes _ s.after_sign whole s.after_whole (replicate n.whole 57) _ s.whole_is a.left (replicate_among n.whole 57) (point_begins n.point n.decimals n.point_is) in
    let c = takes _ s.after_whole point s.after_point n.point _ s.point_is b.left (point_among n.point n.decimals n.point_is) (nines_begin n.decimals) in
    let d = takes _ s.after_point decimals rest (replicate n.decimals 57) [] s.decimals_is (subst (λ m. Writes s.after_point m) (sym (append-nil _)) c.left) (replicate_among n.decimals 57) tt in
    record { same_sign = a.same; same_whole = b.same; same_point = c.same; same_decimals = d.same; end = empty_text rest d.left }

pub at_most_one : (only : ℕ) (marks : List ℕ) → AllAmong (only ∷ []) marks → length marks ≤ 1 → (marks ≡ only ∷ []) ⊎ (marks ≡ [])
at_most_one only [] h le = inr refl
at_most_one only (x ∷ []) h le = inl (all_one only (x ∷ []) h)
at_most_one only (x ∷ y ∷ marks) h le = absurd (omega arith)

-- 9s after a missing point would belong to the 9s before it
no_decimals : (after_whole after_point decimals rest : List ℕ) → StopsAt (codes "9") after_whole → IsSpan (codes "V") after_whole [] after_point → IsSpan (codes "9") after_point decimals rest → rest ≡ [] → length decimals ≡ 0
no_decimals aw ap' [] rest stops p d e = refl
no_decimals aw ap' (x ∷ decimals) rest stops p d e = absurd (
    let no : is_among (codes "9") x ≡ false = stops x decimals (p.reads.back (x ∷ decimals) (ends _ ap' (x ∷ decimals) rest d e)) in
    both_ways _ no (and_parts _ _ d.all).0)

-- the outline of such parts
abbrev pub outline_of : ℕ → ℕ → ℕ → Outline
outline_of sign whole decimals = record { kind = Numeric; size = min (whole + decimals) (2 ^ 64 - 1); digits = min (whole + decimals) (2 ^ 64 - 1); decimals = decimals; signed = nat_eq sign 1 }

abbrev form_by : ℕ → ℕ → Bool → Form
form_by whole decimals signed = record { kind = Numeric; size = whole + decimals; digits = whole + decimals; decimals = decimals; signed = signed }

abbrev form_of : List ℕ → ℕ → ℕ → Form
form_of sign whole decimals = form_by whole decimals (nat_eq (length sign) 1)

sign_cases : (sign : List ℕ) → AllAmong (codes "S") sign → length sign ≤ 1 → ((sign ≡ codes "S") × (nat_eq (length sign) 1 ≡ true)) ⊎ ((sign ≡ []) × (nat_eq (length sign) 1 ≡ false))
sign_cases sign h le = elim (at_most_one 83 sign h le) [ inl e ↦ inl (e, rw e refl) | inr e ↦ inr (e, rw e refl) ]

point_cases : (after_whole after_point point decimals rest : List ℕ) → StopsAt (codes "9") after_whole → IsSpan (codes "V") after_whole point after_point → IsSpan (codes "9") after_point decimals rest → rest ≡ [] → length point ≤ 1 → IsPoint point (length decimals)
point_cases aw ap' point decimals rest stops p d e le = elim (at_most_one 86 point p.all le) [
  | inl v ↦ inl v
  | inr n ↦ inr (n, no_decimals aw ap' decimals rest stops (subst (λ q. IsSpan (codes "V") aw q ap') n p) d e)
]

pub record Counts (sign whole point decimals : List ℕ) (s w p d : ℕ) : Type 0 where
  pub of_sign : s ≡ counted (length sign)
  pub of_whole : w ≡ counted (length whole)
  pub of_point : p ≡ counted (length point)
  pub of_decimals : d ≡ counted (length decimals)

abbrev pub AreNumeric : ℕ → ℕ → ℕ → ℕ → Type 0
AreNumeric s w p d = (s ≤ 1) × (p ≤ 1) × (0 < w + d)

outline_is : (sign : List ℕ) (s w d wn dn : ℕ) → s ≡ counted (length sign) → s ≤ 1 → w ≡ counted wn → d ≡ counted dn → IsOutline (outline_of s w d) (form_of sign wn dn)
outline_is sign s w d wn dn hs le hw hd = record {
  kind = refl;
  size = omega arith;
  digits = omega arith;
  decimals = hd;
  signed = let same : s ≡ length sign = omega arith in ap (λ n. nat_eq n 1) same;
}

pub numbers_found : (text sign whole point decimals rest : List ℕ) (s w p d : ℕ) → NumberSpans text sign whole point decimals rest → Counts sign whole point decimals s w p d → AreNumeric s w p d → rest ≡ []
    → (marks : List ℕ) × (form : Form) × Writes text marks × IsNumeric marks form × IsOutline (outline_of s w d) form
numbers_found text sign whole point decimals rest s w p d spans counts are e =
    let whole_ended : Writes spans.after_whole (point ++ decimals) = spans.point_is.reads.back decimals (ends _ _ decimals rest spans.decimals_is e) in
    let all : Writes text (sign ++ (whole ++ (point ++ decimals))) = spans.sign_is.reads.back _ (spans.whole_is.reads.back _ whole_ended) in
    let numeric : IsNumeric (sign ++ (whole ++ (point ++ decimals))) (form_of sign (length whole) (length decimals)) = record {
      sign = sign;
      whole = length whole;
      point = point;
      decimals = length decimals;
      parts = rw (← all_one 57 whole spans.whole_is.all, ← all_one 57 decimals spans.decimals_is.all) refl;
      sign_is = sign_cases sign spans.sign_is.all (omega (arith, counts.of_sign, are.0));
      point_is = point_cases _ _ point decimals rest spans.whole_is.stops spans.point_is spans.decimals_is e (omega (arith, counts.of_point, are.1));
      some = omega (arith, counts.of_whole, counts.of_decimals, are.2);
      is = refl;
    } in
    (_, form_of sign (length whole) (length decimals), all, numeric, outline_is sign s w d (length whole) (length decimals) counts.of_sign are.0 counts.of_whole counts.of_decimals)

-- every numeric picture that the text spells has these parts, so their counts fit
pub numbers_fit : (text sign whole point decimals rest all : List ℕ) (form : Form) (s w p d : ℕ) → NumberSpans text sign whole point decimals rest → Counts sign whole point decimals s w p d
    → Writes text all → IsNumeric all form → (rest ≡ []) × AreNumeric s w p d × IsOutline (outline_of s w d) form
numbers_fit text sign whole point decimals rest all form s w p d spans counts h n =
    let are = numbers_only text sign whole point decimals rest all form spans h n in
    let in_whole : length whole ≡ n.whole = ap length are.same_whole ∙ length-replicate n.whole 57 in
    let in_decimals : length decimals ≡ n.decimals = ap length are.same_decimals ∙ length-replicate n.decimals 57 in
    let in_point : length point ≤ 1 = rw are.same_point (point_length n.point n.decimals n.point_is) in
    let in_sign = sign_length sign form.signed (subst (λ z. ((z ≡ codes "S") × (form.signed ≡ true)) ⊎ ((z ≡ []) × (form.signed ≡ false))) (sym are.same_sign) n.sign_is) in (
      are.end,
      (omega (arith, counts.of_sign, in_sign.0), omega (arith, counts.of_point), omega (arith, counts.of_whole, counts.of_decimals, n.some)),
      subst (λ f. IsOutline (outline_of s w d) f) (sym (n.is ∙ ap (λ b. form_by n.whole n.decimals b) in_sign.1))
          (outline_is sign s w d n.whole n.decimals counts.of_sign (omega (arith, counts.of_sign, in_sign.0)) (counts.of_whole ∙ ap counted in_whole) (counts.of_decimals ∙ ap counted in_decimals)),
    )
  where
    point_length : (point : List ℕ) (decimals : ℕ) → IsPoint point decimals → length point ≤ 1
    point_length point decimals (inl e) = rw e (omega arith)
    point_length point decimals (inr e) = rw e.0 (omega arith)

    sign_length : (sign : List ℕ) (signed : Bool) → ((sign ≡ codes "S") × (signed ≡ true)) ⊎ ((sign ≡ []) × (signed ≡ false)) → (length sign ≤ 1) × (signed ≡ nat_eq (length sign) 1)
    sign_length sign signed (inl e) = rw (e.0, e.1) (omega arith, refl)
    sign_length sign signed (inr e) = rw (e.0, e.1) (omega arith, refl)

-- the same with the digits as they were counted
pub with_digits : (sign whole decimals digits : ℕ) (form : Form) → digits ≡ min (whole + decimals) (2 ^ 64 - 1) → IsOutline (outline_of sign whole decimals) form
    → IsOutline (record { kind = Numeric; size = digits; digits = digits; decimals = decimals; signed = nat_eq sign 1 }) form
with_digits sign whole decimals digits form e o = subst (λ k. IsOutline (record { kind = Numeric; size = k; digits = k; decimals = decimals; signed = nat_eq sign 1 }) form) (sym e) o
