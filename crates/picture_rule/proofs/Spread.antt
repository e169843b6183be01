-- An edited text reads back as the value that it shows.
use Rattle.std.proofs.Common.{◌≡◌, ℕ, zero, suc, ◌+◌, ◌*◌, ◌/◌, ◌^◌, ◌⊎◌, inl, inr, Bool, true, false, cond, List, [], ◌∷◌, ◌++◌, length, replicate, refl, sym, ap, ◌∙◌, arith, nat_eq, nat_lt, append_assoc, append-nil, add-one, Some}
use Rattle.std.specs.Prelude.{◌&&◌, ◌||◌, ◌==◌, count_by, filter}
use Rattle.std.specs.List.{position_from}
use Rattle.std.specs.Char.{is_ascii_digit, digit_value}
use Rattle.std.specs.Str.Parse.{digits_value_after}
use Rattle.std.proofs.Math.Nat.{div-div-eq-div-mul}
use Rattle.std.proofs.lemmas.Bool.{cases_Bool, and_parts, cond-true, cond-false}
use Rattle.picture_rule.specs.Picture.{is_among, AllAmong, is_digit_mark}
use Rattle.picture_rule.specs.Editing.{place_byte, has_pair}
use Rattle.picture_rule.proofs.Extends.{count-append}
use Rattle.picture_rule.proofs.Apart.{among, edited_marks}
use Rattle.picture_rule.proofs.Bytes.{IsFill, Byte, place_is, byte_by, shown_digit}

abbrev pub count : List ℕ → ℕ
count marks = count_by is_digit_mark marks

abbrev pub floats_at : List ℕ → Bool
floats_at before = nat_lt 0 (count before) && (count_by (nat_eq 57) before == 0)

-- the bytes of the places of some marks, where others stand before them and so many digits after
abbrev pub spread : ℕ → Bool → ℕ → List ℕ → ℕ → List ℕ → List ℕ
spread units neg fill before later [] = []
spread units neg fill before later (x ∷ marks) = place_byte x (units / 10 ^ (count marks + later)) (floats_at before) fill neg ∷ spread units neg fill (before ++ x ∷ []) later marks

count_cons : (x : ℕ) (marks : List ℕ) → count (x ∷ marks) ≡ count (x ∷ []) + count marks
count_cons x marks = count-append (x ∷ []) marks

digit_count : (x : ℕ) → is_digit_mark x ≡ true → count (x ∷ []) ≡ 1
digit_count x t = let one : cond (is_digit_mark x) 1 0 ≡ 1 = cond-true {A = ℕ} _ 1 0 t in omega (arith, one)

other_count : (x : ℕ) → is_digit_mark x ≡ false → count (x ∷ []) ≡ 0
other_count x f = let none : cond (is_digit_mark x) 1 0 ≡ 0 = cond-false {A = ℕ} _ 1 0 f in omega (arith, none)

-- without its last digit
div_ten : (units n : ℕ) → units / 10 ^ (n + 1) ≡ units / 10 ^ n / 10
div_ten units n = let e : 10 ^ (n + 1) ≡ 10 ^ n * 10 = rw (add-one n) (omega arith) in ap (λ k. units / k) e ∙ sym (div-div-eq-div-mul units (10 ^ n) 10)

digit_step : (n b : ℕ) (rest : List ℕ) → is_ascii_digit b ≡ true → digits_value_after 10 n (filter is_ascii_digit (b ∷ rest)) ≡ digits_value_after 10 (n * 10 + digit_value b) (filter is_ascii_digit rest)
digit_step n b rest t = ap (digits_value_after 10 n) (cond-true (is_ascii_digit b) (b ∷ filter is_ascii_digit rest) (filter is_ascii_digit rest) t)

other_step : (n b : ℕ) (rest : List ℕ) → is_ascii_digit b ≡ false → digits_value_after 10 n (filter is_ascii_digit (b ∷ rest)) ≡ digits_value_after 10 n (filter is_ascii_digit rest)
other_step n b rest f = ap (digits_value_after 10 n) (cond-false (is_ascii_digit b) (b ∷ filter is_ascii_digit rest) (filter is_ascii_digit rest) f)

-- the number before a place goes on with the place's digit
place_step : (units x later : ℕ) (marks rest : List ℕ) (neg : Bool) (b : ℕ) → Byte x (units / 10 ^ (count marks + later)) neg b
    → digits_value_after 10 (units / 10 ^ (count (x ∷ marks) + later)) (filter is_ascii_digit (b ∷ rest)) ≡ digits_value_after 10 (units / 10 ^ (count marks + later)) (filter is_ascii_digit rest)
place_step units x later marks rest neg b byte = elim (cases_Bool (is_digit_mark x)) [
  | inl t ↦ (let more : count (x ∷ marks) + later ≡ count marks + later + 1 = omega (arith, count_cons x marks, digit_count x t) in
      let less : units / 10 ^ (count (x ∷ marks) + later) ≡ units / 10 ^ (count marks + later) / 10 = ap (λ k. units / 10 ^ k) more ∙ div_ten units (count marks + later) in
      elim (byte.digit t) [
        | inl d ↦ (let same : units / 10 ^ (count (x ∷ marks) + later) * 10 + digit_value b ≡ units / 10 ^ (count marks + later) = ap (λ n. n * 10 + digit_value b) less ∙ ap (λ v. units / 10 ^ (count marks + later) / 10 * 10 + v) d.1 ∙ omega arith in
            digit_step _ b rest d.0 ∙ ap (λ n. digits_value_after 10 n (filter is_ascii_digit rest)) same)
        | inr o ↦ (let same : units / 10 ^ (count (x ∷ marks) + later) ≡ units / 10 ^ (count marks + later) = less ∙ ap (λ n. n / 10) o.1 ∙ sym o.1 in
            other_step _ b rest o.0 ∙ ap (λ n. digits_value_after 10 n (filter is_ascii_digit rest)) same)
      ])
  | inr f ↦ (let same : count (x ∷ marks) + later ≡ count marks + later = omega (arith, count_cons x marks, other_count x f) in
      other_step _ b rest (byte.other f) ∙ ap (λ k. digits_value_after 10 (units / 10 ^ k) (filter is_ascii_digit rest)) same)
]

-- The digits of the places, after those before them, write the units without the digits that come later.
pub number_is : (units later : ℕ) (neg : Bool) (fill : ℕ) (before marks : List ℕ) → IsFill fill → AllAmong edited_marks marks
    → digits_value_after 10 (units / 10 ^ (count marks + later)) (filter is_ascii_digit (spread units neg fill before later marks)) ≡ units / 10 ^ later
number_is units later neg fill before [] f a = ap (λ k. units / 10 ^ k) (omega arith)
number_is units later neg fill before (x ∷ marks) f a =
    let parts = and_parts _ _ a in
    place_step units x later marks (spread units neg fill (before ++ x ∷ []) later marks) neg _ (place_is x (units / 10 ^ (count marks + later)) fill (floats_at before) neg f (among edited_marks x parts.0))
    ∙ number_is units later neg fill (before ++ x ∷ []) marks f parts.1

-- ---- the other bytes

-- a minus stands among the bytes where the marks have a sign and the value is below zero
pub minus_is : (units later : ℕ) (neg : Bool) (fill : ℕ) (before marks : List ℕ) → IsFill fill → AllAmong edited_marks marks → is_among (spread units neg fill before later marks) 45 ≡ ((is_among marks 43 || is_among marks 45) && neg)
minus_is units later neg fill before [] f a = refl
minus_is units later neg fill before (x ∷ marks) f a =
    let parts = and_parts _ _ a in
    let byte = place_is x (units / 10 ^ (count marks + later)) fill (floats_at before) neg f (among edited_marks x parts.0) in
    ap (λ b. b || is_among (spread units neg fill (before ++ x ∷ []) later marks) 45) byte.minus ∙ ap (λ r. ((nat_eq x 43 || nat_eq x 45) && neg) || r) (minus_is units later neg fill (before ++ x ∷ []) marks f parts.1)
    ∙ mix (nat_eq x 43) (nat_eq x 45) (is_among marks 43) (is_among marks 45) neg
  where
    mix : (a b c d n : Bool) → (((a || b) && n) || ((c || d) && n)) ≡ (((a || c) || (b || d)) && n)
    mix true b c d true = refl
    mix true b true d false = refl
    mix true b false true false = refl
    mix true b false false false = refl
    mix false true true d true = refl
    mix false true false d true = refl
    mix false true true d false = refl
    mix false true false true false = refl
    mix false true false false false = refl
    mix false false true d n = refl
    mix false false false d n = refl

-- two letters stand side by side where they do among the marks and the value is below zero
pub pair_is : (u v units later : ℕ) (neg : Bool) (fill : ℕ) (before marks : List ℕ) → ((u ≡ 67) × (v ≡ 82)) ⊎ ((u ≡ 68) × (v ≡ 66)) → IsFill fill → AllAmong edited_marks marks → has_pair u v (spread units neg fill before later marks) ≡ (has_pair u v marks && neg)
pair_is u v units later neg fill before [] l f a = refl
pair_is u v units later neg fill before (x ∷ []) l f a = refl
pair_is u v units later neg fill before (x ∷ y ∷ marks) l f a =
    let p = and_parts _ _ a in let q = and_parts _ _ p.1 in
    let bx = place_is x (units / 10 ^ (count (y ∷ marks) + later)) fill (floats_at before) neg f (among edited_marks x p.0) in
    let by = place_is y (units / 10 ^ (count marks + later)) fill (floats_at (before ++ x ∷ [])) neg f (among edited_marks y q.0) in
    let first = first_is l x _ _ bx in let second = second_is l y _ _ by in
    let rest = pair_is u v units later neg fill (before ++ x ∷ []) (y ∷ marks) l f p.1 in
    rw (first, second, rest) (mix (nat_eq x u) (nat_eq y v) (has_pair u v (y ∷ marks)) neg)
  where
    first_is : ((u ≡ 67) × (v ≡ 82)) ⊎ ((u ≡ 68) × (v ≡ 66)) → (z h b : ℕ) → Byte z h neg b → nat_eq b u ≡ (nat_eq z u && neg)
    first_is (inl e) z h b k = rw e.0 k.c
    first_is (inr e) z h b k = rw e.0 k.d

    second_is : ((u ≡ 67) × (v ≡ 82)) ⊎ ((u ≡ 68) × (v ≡ 66)) → (z h b : ℕ) → Byte z h neg b → nat_eq b v ≡ (nat_eq z v && neg)
    second_is (inl e) z h b k = rw e.1 k.r
    second_is (inr e) z h b k = rw e.1 k.b'

    mix : (a b c n : Bool) → (((a && n) && (b && n)) || (c && n)) ≡ (((a && b) || c) && n)
    mix true true c true = refl
    mix true true true false = refl
    mix true true false false = refl
    mix true false c true = refl
    mix true false c false = refl
    mix false b c n = refl

-- ---- the first point

-- a point stands among the bytes where it does among the marks
pub point_is : (units later i : ℕ) (neg : Bool) (fill : ℕ) (before marks : List ℕ) → IsFill fill → AllAmong edited_marks marks → position_from (nat_eq 46) i (spread units neg fill before later marks) ≡ position_from (nat_eq 46) i marks
point_is units later i neg fill before [] f a = refl
point_is units later i neg fill before (x ∷ marks) f a =
    let parts = and_parts _ _ a in
    let byte = place_is x (units / 10 ^ (count marks + later)) fill (floats_at before) neg f (among edited_marks x parts.0) in
    ap (λ b. cond b (Some i) (position_from (nat_eq 46) (i + 1) (spread units neg fill (before ++ x ∷ []) later marks))) byte.point
    ∙ ap (λ o. cond (nat_eq 46 x) (Some i) o) (point_is units later (i + 1) neg fill (before ++ x ∷ []) marks f parts.1)

-- ---- parts of the marks

pub spread-append : (units later : ℕ) (neg : Bool) (fill : ℕ) (before xs ys : List ℕ) → spread units neg fill before later (xs ++ ys) ≡ spread units neg fill before (count ys + later) xs ++ spread units neg fill (before ++ xs) later ys
spread-append units later neg fill before [] ys = ap (λ b. spread units neg fill b later ys) (sym (append-nil before))
spread-append units later neg fill before (x ∷ xs) ys =
    let exponent : count (xs ++ ys) + later ≡ count xs + (count ys + later) = omega (arith, count-append xs ys) in
    ap (λ k. place_byte x (units / 10 ^ k) (floats_at before) fill neg ∷ spread units neg fill (before ++ x ∷ []) later (xs ++ ys)) exponent
    ∙ ap (λ r. place_byte x (units / 10 ^ (count xs + (count ys + later))) (floats_at before) fill neg ∷ r)
    (spread-append units later neg fill (before ++ x ∷ []) xs ys ∙ ap (λ b. spread units neg fill (before ++ x ∷ []) (count ys + later) xs ++ spread units neg fill b later ys) (append_assoc before (x ∷ []) xs))

pub length-spread : (units later : ℕ) (neg : Bool) (fill : ℕ) (before marks : List ℕ) → length (spread units neg fill before later marks) ≡ length marks
length-spread units later neg fill before [] = refl
length-spread units later neg fill before (x ∷ marks) = ap suc (length-spread units later neg fill (before ++ x ∷ []) marks)

-- a nine always shows its digit
nine_digit : (h fill : ℕ) (floats neg : Bool) → is_ascii_digit (place_byte 57 h floats fill neg) ≡ true
nine_digit h fill floats neg = go (nat_eq h 0)
  where
    go : (z : Bool) → is_ascii_digit (byte_by z 57 h floats fill neg) ≡ true
    go true = (shown_digit h).0
    go false = (shown_digit h).0

pub nines_length : (units later : ℕ) (neg : Bool) (fill : ℕ) (before : List ℕ) (n : ℕ) → length (filter is_ascii_digit (spread units neg fill before later (replicate n 57))) ≡ n
nines_length units later neg fill before zero = refl
nines_length units later neg fill before (suc n) =
    let b = place_byte 57 (units / 10 ^ (count (replicate n 57) + later)) (floats_at before) fill neg in
    ap length (cond-true (is_ascii_digit b) (b ∷ filter is_ascii_digit (spread units neg fill (before ++ 57 ∷ []) later (replicate n 57))) (filter is_ascii_digit (spread units neg fill (before ++ 57 ∷ []) later (replicate n 57))) (nine_digit (units / 10 ^ (count (replicate n 57) + later)) fill (floats_at before) neg))
    ∙ ap suc (nines_length units later neg fill (before ++ 57 ∷ []) n)

-- marks without digits show none
pub none_shown : (units later : ℕ) (neg : Bool) (fill : ℕ) (before marks : List ℕ) → IsFill fill → AllAmong edited_marks marks → count marks ≡ 0 → filter is_ascii_digit (spread units neg fill before later marks) ≡ []
none_shown units later neg fill before [] f a e = refl
none_shown units later neg fill before (x ∷ marks) f a e =
    let parts = and_parts _ _ a in
    let b = place_byte x (units / 10 ^ (count marks + later)) (floats_at before) fill neg in
    let byte = place_is x (units / 10 ^ (count marks + later)) fill (floats_at before) neg f (among edited_marks x parts.0) in
    elim (cases_Bool (is_digit_mark x)) [
      | inl t ↦ absurd (omega (arith, count_cons x marks, digit_count x t, e))
      | inr n ↦ (let rest : count marks ≡ 0 = omega (arith, count_cons x marks, e) in
          cond-false (is_ascii_digit b) (b ∷ filter is_ascii_digit (spread units neg fill (before ++ x ∷ []) later marks)) (filter is_ascii_digit (spread units neg fill (before ++ x ∷ []) later marks)) (byte.other n)
          ∙ none_shown units later neg fill (before ++ x ∷ []) marks f parts.1 rest)
    ]
