-- The law of editing and reading back, put together.
use Rattle.std.proofs.Common.{◌≡◌, ℕ, zero, suc, ◌+◌, ◌-◌, ◌*◌, ◌/◌, ◌^◌, ◌<◌, ◌≤◌, ◌⊎◌, inl, inr, Bool, true, false, List, [], ◌∷◌, ◌++◌, length, take, drop, get_or, map, replicate, refl, sym, ap, subst, ◌∙◌, arith, nat_eq, nat_lt, append_assoc, append-nil, length-append, add-one, add-zero, pow-add, Some, None}
use Rattle.std.specs.Prelude.{codes, ◌&&◌, ◌||◌, if◌then◌else◌, filter, position, pos, int_lt}
use Rattle.std.specs.List.{range_with_len, position_from}
use Rattle.std.specs.Char.{is_ascii_digit, digit_value}
use Rattle.std.specs.Str.Parse.{digits_value, digits_value_after}
use Rattle.std.proofs.Math.Seq.{take-append_seam}
use Rattle.picture_rule.specs.Picture.{Form, PictureValue, IsOfKind, IsEditedPicture, form_of, IsEdited, is_among, AllAmong}
use Rattle.std.proofs.Math.Nat.{div-eq_of_lt}
use Rattle.std.proofs.lemmas.Iterator.Adapters.{position_from-zero}
use Rattle.std.proofs.lemmas.Bool.{cases_Bool, and_parts, and_from, cond-false, eqb-true, false≢true}
use Rattle.std.proofs.lemmas.List.{take_all}
use Rattle.std.proofs.lemmas.List.Elements.{filter-append}
use Rattle.picture_rule.proofs.Extends.{count-append, all_append}
use Rattle.picture_rule.proofs.Apart.{plain_marks, edited_marks as all_marks, plain_all, nines_among, before_marks, currency_marks, body_marks, after_marks, edited_among}
use Rattle.picture_rule.proofs.Places.{tens}
use Rattle.picture_rule.proofs.Bytes.{IsFill}
use Rattle.picture_rule.proofs.EditedParts.{nine_digits, after_digits}
use Rattle.picture_rule.specs.Editing.{number_in, millionths_in, units_at, units_by, unedited, edited_as, edited_marks, is_all_filled, shown_units, ReadsBack, signed_number, shows_sign, place_byte, byte_at, may_float, shown_before, fill_of, has_pair, is_minus}
use Rattle.picture_rule.proofs.Spread.{count, floats_at, spread, number_is, minus_is, pair_is, point_is, spread-append, length-spread, nines_length, none_shown}

at_seam : (before : List ℕ) (x : ℕ) (xs : List ℕ) → get_or (before ++ x ∷ xs) (length before) 0 ≡ x
at_seam [] x xs = refl
at_seam (b ∷ before) x xs = at_seam before x xs

after_seam : (before : List ℕ) (x : ℕ) (xs : List ℕ) → drop (suc (length before)) (before ++ x ∷ xs) ≡ xs
after_seam [] x xs = refl
after_seam (b ∷ before) x xs = after_seam before x xs

byte_is : (units : ℕ) (neg : Bool) (before : List ℕ) (x : ℕ) (xs : List ℕ) → byte_at (before ++ x ∷ xs) units neg (length before) ≡ place_byte x (units / 10 ^ (count xs + 0)) (floats_at before) (fill_of (before ++ x ∷ xs)) neg
byte_is units neg before x xs =
    let all = before ++ x ∷ xs in
    let rest : drop (length before + 1) all ≡ xs = ap (λ k. drop k all) (add-one (length before)) ∙ after_seam before x xs in
    let exponent : count (drop (length before + 1) all) ≡ count xs + 0 = ap count rest ∙ omega arith in
    ap (λ y. place_byte y (shown_before all units (length before)) (may_float all (length before)) (fill_of all) neg) (at_seam before x xs)
    ∙ ap (λ k. place_byte x (units / 10 ^ k) (may_float all (length before)) (fill_of all) neg) exponent
    ∙ ap (λ b. place_byte x (units / 10 ^ (count xs + 0)) (floats_at b) (fill_of all) neg) (take-append_seam before (x ∷ xs))

-- the places as they are filled one after another
places_are : (units : ℕ) (neg : Bool) (before xs : List ℕ) → map (byte_at (before ++ xs) units neg) (range_with_len (length before) (length xs)) ≡ spread units neg (fill_of (before ++ xs)) before 0 xs
places_are units neg before [] = refl
places_are units neg before (x ∷ xs) =
    let all = before ++ x ∷ xs in
    let regrouped : (before ++ x ∷ []) ++ xs ≡ all = append_assoc before (x ∷ []) xs in
    let place : length before + 1 ≡ length (before ++ x ∷ []) = sym (length-append before (x ∷ [])) in
    let rest = places_are units neg (before ++ x ∷ []) xs in
    let rest' : map (byte_at all units neg) (range_with_len (length before + 1) (length xs)) ≡ spread units neg (fill_of all) (before ++ x ∷ []) 0 xs =
    ap (λ k. map (byte_at all units neg) (range_with_len k (length xs))) place ∙ subst (λ m. map (byte_at m units neg) (range_with_len (length (before ++ x ∷ [])) (length xs)) ≡ spread units neg (fill_of m) (before ++ x ∷ []) 0 xs) regrouped rest in
    ap (λ b. b ∷ map (byte_at all units neg) (range_with_len (length before + 1) (length xs))) (byte_is units neg before x xs)
    ∙ ap (λ r. place_byte x (units / 10 ^ (count xs + 0)) (floats_at before) (fill_of all) neg ∷ r) rest'

-- ---- where the point is

not_point : (x : ℕ) → is_among plain_marks x ≡ true → nat_eq 46 x ≡ false
not_point x h = elim (cases_Bool (nat_eq 46 x)) [ inl t ↦ absurd (false≢true (subst (λ y. is_among plain_marks y ≡ true) (sym (eqb-true 46 x t)) h)) | inr f ↦ f ]

no_point : (i : ℕ) (marks : List ℕ) → AllAmong plain_marks marks → position_from (nat_eq 46) i marks ≡ None
no_point i [] a = refl
no_point i (x ∷ marks) a = let parts = and_parts _ _ a in cond-false _ _ _ (not_point x parts.0) ∙ no_point (i + 1) marks parts.1

first_point : (i : ℕ) (marks rest : List ℕ) → AllAmong plain_marks marks → position_from (nat_eq 46) i (marks ++ 46 ∷ rest) ≡ Some (i + length marks)
first_point i [] rest a = ap Some (omega arith)
first_point i (x ∷ marks) rest a = let parts = and_parts _ _ a in
    cond-false _ _ _ (not_point x parts.0) ∙ first_point (i + 1) marks rest parts.1 ∙ ap Some (omega arith)

-- ---- what the digits write

sum_step : (n v p q x y w : ℕ) → q ≡ p * 10 → x ≡ (n * 10 + v) * p + w → y ≡ (0 * 10 + v) * p + w → x ≡ n * q + y
sum_step n v p q x y w e f g = rw (e, f, g) (omega arith)

after_sum : (n : ℕ) (digits : List ℕ) → digits_value_after 10 n digits ≡ n * 10 ^ length digits + digits_value 10 digits
after_sum n [] = omega arith
after_sum n (c ∷ digits) =
    sum_step n (digit_value c) (10 ^ length digits) (10 ^ suc (length digits)) _ _ (digits_value 10 digits) (omega arith) (after_sum (n * 10 + digit_value c) digits) (after_sum (0 * 10 + digit_value c) digits)

whole_is : (units later : ℕ) (neg : Bool) (fill : ℕ) (marks : List ℕ) → IsFill fill → AllAmong all_marks marks → units < 10 ^ (count marks + later) → number_in (spread units neg fill [] later marks) ≡ units / 10 ^ later
whole_is units later neg fill marks f a small =
    let none : 0 ≡ units / 10 ^ (count marks + later) = sym (div-eq_of_lt small) in
    ap (λ n. digits_value_after 10 n (filter is_ascii_digit (spread units neg fill [] later marks))) none ∙ number_is units later neg fill [] marks f a

div_one : (n : ℕ) → n / 10 ^ 0 ≡ n
div_one n = omega arith

scaled : (a x t s u : ℕ) → u ≡ a * t + x → a * (t * s) + x * s ≡ u * s
scaled a x t s u e = rw e (omega arith)

-- the decimals behind a point
decimals_are : (units : ℕ) (neg : Bool) (fill : ℕ) (before after : List ℕ) (d : ℕ) → IsFill fill → AllAmong all_marks (replicate d 57 ++ after) → AllAmong all_marks after → count after ≡ 0 → d ≤ 6
    → (x : ℕ) × (millionths_in (spread units neg fill before 0 (replicate d 57 ++ after)) ≡ x * 10 ^ (6 - d)) × (units ≡ units / 10 ^ d * 10 ^ d + x)
decimals_are units neg fill before after d f all a none few =
    let rest = replicate d 57 ++ after in
    let t = spread units neg fill before 0 rest in
    let nines = spread units neg fill before (count after + 0) (replicate d 57) in
    let last = spread units neg fill (before ++ replicate d 57) 0 after in
    let split : t ≡ nines ++ last = spread-append units 0 neg fill before (replicate d 57) after in
    let shown : filter is_ascii_digit t ≡ filter is_ascii_digit nines =
    ap (filter is_ascii_digit) split ∙ filter-append is_ascii_digit nines last ∙ ap (λ l. filter is_ascii_digit nines ++ l) (none_shown units 0 neg fill (before ++ replicate d 57) after f a none) ∙ append-nil _ in
    let long : length (filter is_ascii_digit t) ≡ d = ap length shown ∙ nines_length units (count after + 0) neg fill before d in
    let six : take 6 (filter is_ascii_digit t) ≡ filter is_ascii_digit t = take_all 6 (filter is_ascii_digit t) (omega arith) in
    let digits : count rest + 0 ≡ d = omega (arith, count-append (replicate d 57) after, nine_digits d) in
    let value : digits_value_after 10 (units / 10 ^ (count rest + 0)) (filter is_ascii_digit t) ≡ units = number_is units 0 neg fill before rest f all ∙ div_one units in
    let sum : units ≡ units / 10 ^ d * 10 ^ d + digits_value 10 (filter is_ascii_digit t) =
    sym value ∙ after_sum (units / 10 ^ (count rest + 0)) (filter is_ascii_digit t) ∙ ap (λ k. units / 10 ^ k * 10 ^ length (filter is_ascii_digit t) + digits_value 10 (filter is_ascii_digit t)) digits
    ∙ ap (λ k. units / 10 ^ d * 10 ^ k + digits_value 10 (filter is_ascii_digit t)) long in (
      digits_value 10 (filter is_ascii_digit t),
      ap (λ l. digits_value 10 l * 10 ^ (6 - length l)) six ∙ ap (λ k. digits_value 10 (filter is_ascii_digit t) * 10 ^ (6 - k)) long,
      sum,
    )

-- ---- the units that are read back

abbrev IsPoint : List ℕ → ℕ → Type 0
IsPoint point decimals = ((point ≡ codes ".") × (0 < decimals)) ⊎ ((point ≡ []) × (decimals ≡ 0))

abbrev whole_marks : List ℕ → List ℕ → ℕ → List ℕ → List ℕ
whole_marks left point d after = left ++ (point ++ (replicate d 57 ++ after))

-- without a point
plain_units : (units d : ℕ) (neg : Bool) (fill : ℕ) (left after : List ℕ) → IsFill fill → AllAmong plain_marks left → AllAmong plain_marks after → d ≡ 0 → units < 10 ^ count (left ++ after)
    → units_by d (spread units neg fill [] 0 (left ++ after)) ≡ units * 10 ^ (6 - d)
plain_units units d neg fill left after f l a e small =
    let marks = left ++ after in
    let t = spread units neg fill [] 0 marks in
    let all : AllAmong plain_marks marks = all_append plain_marks left after l a in
    let edited : AllAmong all_marks marks = plain_all marks all in
    let place : position (nat_eq 46) t ≡ None = position_from-zero (nat_eq 46) t ∙ point_is units 0 0 neg fill [] marks f edited ∙ no_point 0 marks all in
    let small' : units < 10 ^ (count marks + 0) = omega (arith, ap (λ k. 10 ^ k) (add-zero (count marks)), small) in
    ap (λ o. units_at d t o) place ∙ ap (λ n. n * 10 ^ (6 - d)) (whole_is units 0 neg fill marks f edited small' ∙ div_one units)

-- with a point
pointed_units : (units d : ℕ) (neg : Bool) (fill : ℕ) (left after : List ℕ) → IsFill fill → AllAmong plain_marks left → AllAmong plain_marks after → count after ≡ 0 → d ≤ 6 → units < 10 ^ count (left ++ 46 ∷ (replicate d 57 ++ after))
    → units_by d (spread units neg fill [] 0 (left ++ 46 ∷ (replicate d 57 ++ after))) ≡ units * 10 ^ (6 - d)
pointed_units units d neg fill left after f l a none few small =
    let rest = replicate d 57 ++ after in
    let marks = left ++ 46 ∷ rest in
    let t = spread units neg fill [] 0 marks in
    let edited_left = plain_all left l in
    let edited_after = plain_all after a in
    let edited_rest : AllAmong all_marks rest = all_append all_marks (replicate d 57) after (nines_among all_marks d refl) edited_after in
    let edited : AllAmong all_marks marks = all_append all_marks left (46 ∷ rest) edited_left (and_from _ _ refl edited_rest) in
    let place : position (nat_eq 46) t ≡ Some (0 + length left) = position_from-zero (nat_eq 46) t ∙ point_is units 0 0 neg fill [] marks f edited ∙ first_point 0 left rest l in
    let front = spread units neg fill [] (count (46 ∷ rest) + 0) left in
    let b = place_byte 46 (units / 10 ^ (count rest + 0)) (floats_at left) fill neg in
    let back = spread units neg fill (left ++ 46 ∷ []) 0 rest in
    let split : t ≡ front ++ b ∷ back = spread-append units 0 neg fill [] left (46 ∷ rest) in
    let long : length front ≡ length left = length-spread units (count (46 ∷ rest) + 0) neg fill [] left in
    let same : 0 + length left ≡ length front = omega (arith, long) in
    let next : 0 + length left + 1 ≡ suc (length front) = omega (arith, long) in
    let before : take (0 + length left) t ≡ front = ap (λ x. take (0 + length left) x) split ∙ ap (λ k. take k (front ++ b ∷ back)) same ∙ take-append_seam front (b ∷ back) in
    let behind : drop (0 + length left + 1) t ≡ back = ap (λ x. drop (0 + length left + 1) x) split ∙ ap (λ k. drop k (front ++ b ∷ back)) next ∙ after_seam front b back in
    let digits : count (46 ∷ rest) + 0 ≡ d = omega (arith, count-append (46 ∷ []) rest, count-append (replicate d 57) after, nine_digits d, none) in
    let exponent : count marks ≡ count left + (count (46 ∷ rest) + 0) = omega (arith, count-append left (46 ∷ rest)) in
    let small' : units < 10 ^ (count left + (count (46 ∷ rest) + 0)) = subst (λ k. units < 10 ^ k) exponent small in
    let decimals = decimals_are units neg fill (left ++ 46 ∷ []) after d f edited_rest edited_after none few in
    let whole : number_in (take (0 + length left) t) ≡ units / 10 ^ d = ap number_in before ∙ whole_is units (count (46 ∷ rest) + 0) neg fill left f edited_left small' ∙ ap (λ k. units / 10 ^ k) digits in
    let part : millionths_in (drop (0 + length left + 1) t) ≡ decimals.0 * 10 ^ (6 - d) = ap (λ x. millionths_in x) behind ∙ decimals.1 in
    let six : 6 ≡ d + (6 - d) = omega arith in
    let tens : 10 ^ 6 ≡ 10 ^ d * 10 ^ (6 - d) = ap (λ k. 10 ^ k) six ∙ pow-add 10 d (6 - d) in
    ap (λ o. units_at d t o) place ∙ ap (λ n. n * 10 ^ 6 + millionths_in (drop (0 + length left + 1) t)) whole ∙ ap (λ n. units / 10 ^ d * 10 ^ 6 + n) part
    ∙ ap (λ k. units / 10 ^ d * k + decimals.0 * 10 ^ (6 - d)) tens ∙ scaled (units / 10 ^ d) decimals.0 (10 ^ d) (10 ^ (6 - d)) units decimals.2

-- ---- the sign

sign_is : (units : ℕ) (neg : Bool) (fill : ℕ) (marks : List ℕ) → IsFill fill → AllAmong all_marks marks → is_minus (spread units neg fill [] 0 marks) ≡ (shows_sign marks && neg)
sign_is units neg fill marks f a =
    rw (minus_is units 0 neg fill [] marks f a, pair_is 67 82 units 0 neg fill [] marks (inl (refl, refl)) f a, pair_is 68 66 units 0 neg fill [] marks (inr (refl, refl)) f a)
    (mix (is_among marks 43) (is_among marks 45) (has_pair 67 82 marks) (has_pair 68 66 marks) neg)
  where
    mix : (a b c d n : Bool) → (((a || b) && n) || ((c && n) || (d && n))) ≡ ((a || (b || (c || d))) && n)
    mix true b c d true = refl
    mix true b true true false = refl
    mix true b true false false = refl
    mix true b false true false = refl
    mix true b false false false = refl
    mix false true c d true = refl
    mix false true true true false = refl
    mix false true true false false = refl
    mix false true false true false = refl
    mix false true false false false = refl
    mix false false true d true = refl
    mix false false true true false = refl
    mix false false true false false = refl
    mix false false false d n = refl

-- ---- an item that is filled

fills_digits : (fill n a : ℕ) → IsFill fill → filter is_ascii_digit (map (λ i. fill) (range_with_len a n)) ≡ []
fills_digits fill zero a f = refl
fills_digits fill (suc n) a (inl e) = rw e (fills_digits fill n (a + 1) (inl e))
fills_digits fill (suc n) a (inr e) = rw e (fills_digits fill n (a + 1) (inr e))

fills_point : (fill n a i : ℕ) → IsFill fill → position_from (nat_eq 46) i (map (λ k. fill) (range_with_len a n)) ≡ None
fills_point fill zero a i f = refl
fills_point fill (suc n) a i (inl e) = rw e (fills_point fill n (a + 1) (i + 1) (inl e))
fills_point fill (suc n) a i (inr e) = rw e (fills_point fill n (a + 1) (i + 1) (inr e))

fill_is : (marks : List ℕ) → IsFill (fill_of marks)
fill_is marks = go (is_among marks 42)
  where
    go : (b : Bool) → IsFill (if b then 42 else 32)
    go true = inr refl
    go false = inl refl

zero_sign : (negative : Bool) → signed_number negative 0 ≡ pos 0
zero_sign true = refl
zero_sign false = refl

-- where every place is filled, zero is read back
filled_back : (fill n d : ℕ) → IsFill fill → (negative : Bool) → signed_number negative (units_by d (map (λ i. fill) (range_with_len 0 n))) ≡ pos 0
filled_back fill n d f negative =
    let t = map (λ i. fill) (range_with_len 0 n) in
    let place : position (nat_eq 46) t ≡ None = position_from-zero (nat_eq 46) t ∙ fills_point fill n 0 0 f in
    let none : number_in t ≡ 0 = ap (λ l. digits_value 10 l) (fills_digits fill n 0 f) in
    let units : units_by d t ≡ 0 = ap (λ o. units_at d t o) place ∙ ap (λ k. k * 10 ^ (6 - d)) none ∙ omega arith in
    ap (λ u. signed_number negative u) units ∙ zero_sign negative

-- ---- all together

both_marks : (marks : List ℕ) (form : Form) (n : IsEdited marks form) → marks ≡ (n.before ++ (n.currency ++ n.body)) ++ (n.point ++ (replicate n.decimals 57 ++ n.after))
both_marks marks form n = n.parts ∙ sym (append_assoc n.before (n.currency ++ n.body) _ ∙ ap (λ r. n.before ++ r) (append_assoc n.currency n.body _))

left_plain : (marks : List ℕ) (form : Form) (n : IsEdited marks form) → AllAmong plain_marks (n.before ++ (n.currency ++ n.body))
left_plain marks form n = all_append plain_marks n.before _ (before_marks n.before n.before_is) (all_append plain_marks n.currency n.body (currency_marks n.currency n.currency_is) (body_marks n.body n.body_is))

shown_back : (marks : List ℕ) (form : Form) (units d : ℕ) (neg : Bool) (fill : ℕ) → IsFill fill → (n : IsEdited marks form) → n.decimals ≡ d → d ≤ 6 → units < 10 ^ count marks → units_by d (spread units neg fill [] 0 marks) ≡ units * 10 ^ (6 - d)
shown_back marks form units d neg fill f n e few small = go n.point_is
  where
    go : IsPoint n.point n.decimals → units_by d (spread units neg fill [] 0 marks) ≡ units * 10 ^ (6 - d)
    go (inl p) =
        let same : marks ≡ (n.before ++ (n.currency ++ n.body)) ++ 46 ∷ (replicate d 57 ++ n.after) = both_marks marks form n ∙ ap (λ x. (n.before ++ (n.currency ++ n.body)) ++ (x ++ (replicate n.decimals 57 ++ n.after))) p.0 ∙ ap (λ k. (n.before ++ (n.currency ++ n.body)) ++ 46 ∷ (replicate k 57 ++ n.after)) e in
        subst (λ m. units_by d (spread units neg fill [] 0 m) ≡ units * 10 ^ (6 - d)) (sym same)
        (pointed_units units d neg fill (n.before ++ (n.currency ++ n.body)) n.after f (left_plain marks form n) (after_marks n.after n.after_is) (after_digits n.after n.after_is) few (subst (λ m. units < 10 ^ count m) same small))
    go (inr p) =
        let none : d ≡ 0 = sym e ∙ p.1 in
        let same : marks ≡ (n.before ++ (n.currency ++ n.body)) ++ n.after = both_marks marks form n ∙ ap (λ x. (n.before ++ (n.currency ++ n.body)) ++ (x ++ (replicate n.decimals 57 ++ n.after))) p.0 ∙ ap (λ k. (n.before ++ (n.currency ++ n.body)) ++ (replicate k 57 ++ n.after)) p.1 in
        subst (λ m. units_by d (spread units neg fill [] 0 m) ≡ units * 10 ^ (6 - d)) (sym same)
        (plain_units units d neg fill (n.before ++ (n.currency ++ n.body)) n.after f (left_plain marks form n) (after_marks n.after n.after_is) none (subst (λ m. units < 10 ^ count m) same small))

zero_times : (n : ℕ) → 0 * n ≡ 0
zero_times n = omega arith

-- the bytes of an edited item, place by place, read back
marks_back : (p : PictureValue) (units : ℕ) (below : Bool) → IsEditedPicture p → units < 10 ^ p.digits
    → unedited p (edited_marks p.marks units (below && nat_lt 0 units)) ≡ signed_number (shows_sign p.marks && (below && nat_lt 0 units)) (units * 10 ^ (6 - p.decimals))
marks_back p units below e small = go (is_all_filled p.marks units) refl
  where
    go : (b : Bool) → is_all_filled p.marks units ≡ b
        → unedited p (map (λ i. if b then fill_of p.marks else byte_at p.marks units (below && nat_lt 0 units) i) (range_with_len 0 (length p.marks))) ≡ signed_number (shows_sign p.marks && (below && nat_lt 0 units)) (units * 10 ^ (6 - p.decimals))
    go true h =
        let null : units ≡ 0 = eqb-true units 0 (and_parts _ _ h).0 in
        let nothing : units * 10 ^ (6 - p.decimals) ≡ 0 = ap (λ u. u * 10 ^ (6 - p.decimals)) null ∙ zero_times (10 ^ (6 - p.decimals)) in
        filled_back (fill_of p.marks) (length p.marks) p.decimals (fill_is p.marks) (is_minus (map (λ i. fill_of p.marks) (range_with_len 0 (length p.marks))))
        ∙ sym (ap (λ u. signed_number (shows_sign p.marks && (below && nat_lt 0 units)) u) nothing ∙ zero_sign (shows_sign p.marks && (below && nat_lt 0 units)))
    go false h =
        let n = e.form in
        let places = places_are units (below && nat_lt 0 units) [] p.marks in
        let digits : p.digits ≡ count p.marks = ap (λ f. f.digits) n.is in
        let decimals : n.decimals ≡ p.decimals = sym (ap (λ f. f.decimals) n.is) in
        let fill = fill_of p.marks in
        ap (λ t. unedited p t) places
        ∙ ap (λ s. signed_number s (units_by p.decimals (spread units (below && nat_lt 0 units) fill [] 0 p.marks))) (sign_is units (below && nat_lt 0 units) fill p.marks (fill_is p.marks) (edited_among p.marks (form_of p p.size) n))
        ∙ ap (λ u. signed_number (shows_sign p.marks && (below && nat_lt 0 units)) u)
        (shown_back p.marks (form_of p p.size) units p.decimals (below && nat_lt 0 units) fill (fill_is p.marks) n decimals e.within.2 (subst (λ k. units < 10 ^ k) digits small))

pub reads_back : ReadsBack
reads_back p value kind is =
    let picture : IsEditedPicture p = subst (λ k. IsOfKind k p) kind is in
    let small : shown_units p value < 10 ^ p.digits = omega (arith, tens p.digits) in
    ap (λ k. unedited p (edited_as k p value)) kind ∙ marks_back p (shown_units p value) (int_lt value (pos 0)) picture small
