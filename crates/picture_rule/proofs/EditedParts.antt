-- Edited marks, part by part.
use Rattle.std.proofs.Common.{◌≡◌, ℕ, zero, suc, ◌+◌, ◌<◌, ◌≤◌, ◌⊎◌, inl, inr, true, false, List, [], ◌∷◌, ◌++◌, length, replicate, refl, sym, ap, subst, ◌∙◌, arith, append-nil, length-append, nat_eq, nat_lt}
use Rattle.std.specs.Prelude.{codes, count_by, ◌≢◌}
use Rattle.std.proofs.lemmas.List.{length-replicate}
use Rattle.std.proofs.lemmas.Bool.{and_parts, or_cases, eqb-true, lt-ltb}
use Rattle.picture_rule.specs.Picture.{Form, is_among, AllAmong, is_digit_mark, OneOf, endings, IsBody, IsEdited, IsNumeric}
use Rattle.picture_rule.specs.Text.{Writes}
use Rattle.picture_rule.specs.Reading.{counted}
use Rattle.picture_rule.specs.Outline.{Begins, AreEdited, IsOutline}
use Rattle.picture_rule.specs.Span.{IsSpan, Reads}
use Rattle.picture_rule.specs.declared.outline.Outline.{Outline}
use Rattle.picture_rule.specs.declared.kind.PictureKind.TheVariants.{Edited, Numeric}
use Rattle.picture_rule.proofs.Extends.{count-append}
use Rattle.picture_rule.proofs.Parts.{takes, one_of, all_one, replicate_among}
use Rattle.picture_rule.proofs.Numbers.{at_most_one}
use Rattle.picture_rule.proofs.Bodies.{capped, capped_sum, stretch_begins}

-- ---- what each part begins with

after_begins : (wanted after : List ℕ) → is_among wanted 43 ≡ false → is_among wanted 45 ≡ false → is_among wanted 67 ≡ false → is_among wanted 68 ≡ false → OneOf endings after → Begins wanted after
after_begins wanted after p m c d (inl e) = rw e tt
after_begins wanted after p m c d (inr (inl e)) = rw e p
after_begins wanted after p m c d (inr (inr (inl e))) = rw e m
after_begins wanted after p m c d (inr (inr (inr (inl e)))) = rw e c
after_begins wanted after p m c d (inr (inr (inr (inr (inl e))))) = rw e d
after_begins wanted after p m c d (inr (inr (inr (inr (inr h))))) = absurd h

abbrev IsPoint : List ℕ → ℕ → Type 0
IsPoint point decimals = ((point ≡ codes ".") × (0 < decimals)) ⊎ ((point ≡ []) × (decimals ≡ 0))

-- the marks after the body are no digits
point_begins : (point : List ℕ) (decimals : ℕ) (after : List ℕ) → IsPoint point decimals → OneOf endings after → Begins (codes "Z*9,") (point ++ (replicate decimals 57 ++ after))
point_begins point decimals after (inl e) h = rw e.0 refl
point_begins point decimals after (inr e) h = rw (e.0, e.1) (after_begins (codes "Z*9,") after refl refl refl refl h)

nines_begin : (decimals : ℕ) (after : List ℕ) → OneOf endings after → Begins (codes ".") (replicate decimals 57 ++ after)
nines_begin zero after h = after_begins (codes ".") after refl refl refl refl h
nines_begin (suc n) after h = refl

commas_begin : (wanted commas others : List ℕ) → is_among wanted 44 ≡ false → AllAmong (codes ",") commas → Begins wanted others → Begins wanted (commas ++ others)
commas_begin wanted [] others c a b = b
commas_begin wanted (x ∷ commas) others c a b = subst (λ y. is_among wanted y ≡ false) (sym (one_of 44 x (and_parts _ _ a).0)) c

-- a list whose marks begin with none wanted, and which is not empty, does so whatever follows
begins_more : (wanted marks others : List ℕ) → marks ≢ [] → Begins wanted marks → Begins wanted (marks ++ others)
begins_more wanted [] others not b = absurd (not refl)
begins_more wanted (x ∷ marks) others not b = b

body_begins : (wanted body others : List ℕ) → is_among wanted 44 ≡ false → is_among wanted 90 ≡ false → is_among wanted 42 ≡ false → is_among wanted 57 ≡ false → IsBody body → Begins wanted (body ++ others)
body_begins wanted body others c z t n b =
    begins_more wanted body others b.some (subst (λ m. Begins wanted m) (sym b.parts)
    (commas_begin wanted b.commas _ c b.commas_are (stretch_begins wanted b.fill b.suppressed b.shown (fill b.fill_is) (subst (λ m. Begins wanted m) (append-nil b.shown) (stretch_begins wanted 57 b.shown [] n tt b.shown_is)) b.suppressed_is)))
  where
    fill : (b.fill ≡ 90) ⊎ (b.fill ≡ 42) → is_among wanted b.fill ≡ false
    fill (inl e) = rw e z
    fill (inr e) = rw e t

currency_begins : (currency others : List ℕ) → OneOf ([] ∷ codes "$" ∷ []) currency → Begins (codes "+-") others → Begins (codes "+-") (currency ++ others)
currency_begins currency others (inl e) b = rw e b
currency_begins currency others (inr (inl e)) b = rw e refl
currency_begins currency others (inr (inr h)) b = absurd h

before_among : (before : List ℕ) → OneOf ([] ∷ codes "+" ∷ codes "-" ∷ []) before → AllAmong (codes "+-") before
before_among before (inl e) = rw e refl
before_among before (inr (inl e)) = rw e refl
before_among before (inr (inr (inl e))) = rw e refl
before_among before (inr (inr (inr h))) = absurd h

currency_among : (currency : List ℕ) → OneOf ([] ∷ codes "$" ∷ []) currency → AllAmong (codes "$") currency
currency_among currency (inl e) = rw e refl
currency_among currency (inr (inl e)) = rw e refl
currency_among currency (inr (inr h)) = absurd h

point_among : (point : List ℕ) (decimals : ℕ) → IsPoint point decimals → AllAmong (codes ".") point
point_among point decimals (inl e) = rw e.0 refl
point_among point decimals (inr e) = rw e.0 refl

-- ---- every edited picture of the text has the parts that are read

pub record Front (text before after_before currency after_currency : List ℕ) : Type 0 where
  pub before_is : IsSpan (codes "+-") text before after_before
  pub currency_is : IsSpan (codes "$") after_before currency after_currency

pub record IsFront (before currency after_currency : List ℕ) {all : List ℕ} {form : Form} (n : IsEdited all form) : Type 0 where
  pub same_before : before ≡ n.before
  pub same_currency : currency ≡ n.currency
  pub left : Writes after_currency (n.body ++ (n.point ++ (replicate n.decimals 57 ++ n.after)))

pub front_only : (text before after_before currency after_currency all : List ℕ) (form : Form) → Front text before after_before currency after_currency → Writes text all → (n : IsEdited all form) → IsFront before currency after_currency n
front_only text before after_before currency after_currency all form f w n =
    let a = takes (codes "+-") text before after_before n.before _ f.before_is (subst (λ m. Writes text m) n.parts w) (before_among n.before n.before_is)
    (currency_begins n.currency _ n.currency_is (body_begins (codes "+-") n.body _ refl refl refl refl n.body_is)) in
    let b = takes (codes "$") after_before currency after_currency n.currency _ f.currency_is a.left (currency_among n.currency n.currency_is) (body_begins (codes "$") n.body _ refl refl refl refl n.body_is) in
    record { same_before = a.same; same_currency = b.same; left = b.left }

pub tail_begins : {all : List ℕ} {form : Form} (n : IsEdited all form) → Begins (codes "Z*9,") (n.point ++ (replicate n.decimals 57 ++ n.after))
tail_begins n = point_begins n.point n.decimals n.after n.point_is n.after_is

pub record Tail (text point after_point decimals rest : List ℕ) : Type 0 where
  pub point_is : IsSpan (codes ".") text point after_point
  pub decimals_is : IsSpan (codes "9") after_point decimals rest

pub record IsTail (point decimals rest : List ℕ) {all : List ℕ} {form : Form} (n : IsEdited all form) : Type 0 where
  pub same_point : point ≡ n.point
  pub same_decimals : decimals ≡ replicate n.decimals 57
  pub left : Writes rest n.after

pub tail_only : (text point after_point decimals rest all : List ℕ) (form : Form) → Tail text point after_point decimals rest → (n : IsEdited all form) → Writes text (n.point ++ (replicate n.decimals 57 ++ n.after)) → IsTail point decimals rest n
tail_only text point after_point decimals rest all form t n w =
    let a = takes (codes ".") text point after_point n.point _ t.point_is w (point_among n.point n.decimals n.point_is) (nines_begin n.decimals n.after n.after_is) in
    let b = takes (codes "9") after_point decimals rest (replicate n.decimals 57) n.after t.decimals_is a.left (replicate_among n.decimals 57) (after_begins (codes "9") n.after refl refl refl refl n.after_is) in
    record { same_point = a.same; same_decimals = b.same; left = b.left }

-- ---- the numbers

digits_none : (marks : List ℕ) (options : List (List ℕ)) → OneOf options marks → ((one : List ℕ) → OneOf options one → count_by is_digit_mark one ≡ 0) → count_by is_digit_mark marks ≡ 0
digits_none marks options h all = all marks h

before_digits : (before : List ℕ) → OneOf ([] ∷ codes "+" ∷ codes "-" ∷ []) before → (count_by is_digit_mark before ≡ 0) × (length before ≤ 1)
before_digits before (inl e) = rw e (refl, omega arith)
before_digits before (inr (inl e)) = rw e (refl, omega arith)
before_digits before (inr (inr (inl e))) = rw e (refl, omega arith)
before_digits before (inr (inr (inr h))) = absurd h

currency_digits : (currency : List ℕ) → OneOf ([] ∷ codes "$" ∷ []) currency → (count_by is_digit_mark currency ≡ 0) × (length currency ≤ 1)
currency_digits currency (inl e) = rw e (refl, omega arith)
currency_digits currency (inr (inl e)) = rw e (refl, omega arith)
currency_digits currency (inr (inr h)) = absurd h

pub point_digits : (point : List ℕ) (decimals : ℕ) → IsPoint point decimals → (count_by is_digit_mark point ≡ 0) × (length point ≤ 1) × (nat_lt 0 (length point) ≡ nat_lt 0 decimals)
point_digits point decimals (inl e) = rw e.0 (refl, omega arith, sym (lt-ltb 0 decimals e.1))
point_digits point decimals (inr e) = rw (e.0, e.1) (refl, omega arith, refl)

pub after_digits : (after : List ℕ) → OneOf endings after → count_by is_digit_mark after ≡ 0
after_digits after (inl e) = rw e refl
after_digits after (inr (inl e)) = rw e refl
after_digits after (inr (inr (inl e))) = rw e refl
after_digits after (inr (inr (inr (inl e)))) = rw e refl
after_digits after (inr (inr (inr (inr (inl e))))) = rw e refl
after_digits after (inr (inr (inr (inr (inr h))))) = absurd h

pub nine_digits : (n : ℕ) → count_by is_digit_mark (replicate n 57) ≡ n
nine_digits zero = refl
nine_digits (suc n) = let more = nine_digits n in let both = count-append (57 ∷ []) (replicate n 57) in omega (arith, more, both)

-- the length and the digits of marks in these parts
pub record Measures (all before currency body point nines after : List ℕ) : Type 0 where
  pub length_is : length all ≡ length body + length nines + (length before + length after + (length currency + length point))
  pub digits_are : count_by is_digit_mark all ≡ count_by is_digit_mark body + length nines

measures : (before currency body point after : List ℕ) (decimals : ℕ) → OneOf ([] ∷ codes "+" ∷ codes "-" ∷ []) before → OneOf ([] ∷ codes "$" ∷ []) currency → IsPoint point decimals → OneOf endings after
    → Measures (before ++ (currency ++ (body ++ (point ++ (replicate decimals 57 ++ after))))) before currency body point (replicate decimals 57) after
measures before currency body point after decimals b c p a =
    let r4 = replicate decimals 57 ++ after in let r3 = point ++ r4 in let r2 = body ++ r3 in let r1 = currency ++ r2 in
    record {
      length_is = omega (arith, length-append before r1, length-append currency r2, length-append body r3, length-append point r4, length-append (replicate decimals 57) after);
      digits_are = omega (
        arith,
        count-append before r1,
        count-append currency r2,
        count-append body r3,
        count-append point r4,
        count-append (replicate decimals 57) after,
        (before_digits before b).0,
        (currency_digits currency c).0,
        (point_digits point decimals p).0,
        after_digits after a,
        nine_digits decimals,
        length-replicate {A = ℕ} decimals 57,
      );
    }

-- the counts of the parts
pub record EditedCounts (before currency body point nines after : List ℕ) (b c s p d a ds : ℕ) : Type 0 where
  pub of_before : b ≡ counted (length before)
  pub of_currency : c ≡ counted (length currency)
  pub of_body : s ≡ counted (length body)
  pub of_point : p ≡ counted (length point)
  pub of_nines : d ≡ counted (length nines)
  pub of_after : a ≡ length after
  pub of_digits : ds ≡ counted (count_by is_digit_mark body)

abbrev pub size_of : ℕ → ℕ → ℕ → ℕ → ℕ → ℕ → ℕ
size_of b c s p d a = capped (capped (s + d) + capped (capped (b + a) + capped (c + p)))

abbrev pub outline_of : ℕ → ℕ → ℕ → Outline
outline_of size digits decimals = record { kind = Edited; size = size; digits = digits; decimals = decimals; signed = false }

abbrev form_by : ℕ → ℕ → ℕ → Form
form_by size digits decimals = record { kind = Edited; size = size; digits = digits; decimals = decimals; signed = false }

size_counted : (b c s p d a lb lc ls lp ld la : ℕ) → b ≡ counted lb → c ≡ counted lc → s ≡ counted ls → p ≡ counted lp → d ≡ counted ld → a ≡ la → size_of b c s p d a ≡ counted (ls + ld + (lb + la + (lc + lp)))
size_counted b c s p d a lb lc ls lp ld la hb hc hs hp hd ha =
    let i : capped (s + d) ≡ capped (ls + ld) = rw (hs, hd) (capped_sum ls ld) in
    let j : capped (b + a) ≡ capped (lb + la) = rw (hb, ha) (capped_left lb la) in
    let k : capped (c + p) ≡ capped (lc + lp) = rw (hc, hp) (capped_sum lc lp) in
    let l : capped (capped (b + a) + capped (c + p)) ≡ capped (lb + la + (lc + lp)) = rw (j, k) (capped_sum (lb + la) (lc + lp)) in
    rw (i, l) (capped_sum (ls + ld) (lb + la + (lc + lp)))
  where
    capped_left : (x y : ℕ) → capped (capped x + y) ≡ capped (x + y)
    capped_left x y = omega arith

outline_is : (all before currency body point nines after : List ℕ) (b c s p d a ds : ℕ) → Measures all before currency body point nines after → EditedCounts before currency body point nines after b c s p d a ds
    → IsOutline (outline_of (size_of b c s p d a) (capped (ds + d)) d) (form_by (length all) (count_by is_digit_mark all) (length nines))
outline_is all before currency body point nines after b c s p d a ds m k = record {
  kind = refl;
  size = size_counted b c s p d a _ _ _ _ _ _ k.of_before k.of_currency k.of_body k.of_point k.of_nines k.of_after ∙ ap counted (sym m.length_is);
  digits = rw (k.of_digits, k.of_nines, m.digits_are) (capped_sum (count_by is_digit_mark body) (length nines));
  decimals = k.of_nines;
  signed = refl;
}

-- ---- an edited picture of the text fits what is read

pub record Fit (b c s p d a ds : ℕ) (form : Form) : Type 0 where
  pub are : AreEdited b c p d a
  pub some : 0 < capped (ds + d)
  pub outline : IsOutline (outline_of (size_of b c s p d a) (capped (ds + d)) d) form

pub edited_fit : (all before currency point nines : List ℕ) (form : Form) (b c s p d a ds : ℕ) (n : IsEdited all form) → before ≡ n.before → currency ≡ n.currency → point ≡ n.point → nines ≡ replicate n.decimals 57
    → b ≡ counted (length before) → c ≡ counted (length currency) → s ≡ counted (length n.body) → p ≡ counted (length point) → d ≡ counted (length nines) → a ≡ length n.after → ds ≡ counted (count_by is_digit_mark n.body)
    → Fit b c s p d a ds form
edited_fit all before currency point nines form b c s p d a ds n eb ec ep en hb hc hs hp hd ha hds =
    let k : EditedCounts n.before n.currency n.body n.point (replicate n.decimals 57) n.after b c s p d a ds = record {
      of_before = hb ∙ ap (λ x. counted (length x)) eb;
      of_currency = hc ∙ ap (λ x. counted (length x)) ec;
      of_body = hs;
      of_point = hp ∙ ap (λ x. counted (length x)) ep;
      of_nines = hd ∙ ap (λ x. counted (length x)) en;
      of_after = ha;
      of_digits = hds;
    } in
    let m : Measures all n.before n.currency n.body n.point (replicate n.decimals 57) n.after = subst (λ x. Measures x n.before n.currency n.body n.point (replicate n.decimals 57) n.after) (sym n.parts)
    (measures n.before n.currency n.body n.point n.after n.decimals n.before_is n.currency_is n.point_is n.after_is) in
    let pd = point_digits n.point n.decimals n.point_is in
    let o = outline_is all _ _ _ _ _ _ b c s p d a ds m k in
    let nines_length : length {A = ℕ} (replicate n.decimals 57) ≡ n.decimals = length-replicate {A = ℕ} n.decimals 57 in
    record {
      are = record {
        one_before = omega (arith, k.of_before, (before_digits n.before n.before_is).1);
        one_currency = omega (arith, k.of_currency, (currency_digits n.currency n.currency_is).1);
        one_point = omega (arith, k.of_point, pd.1);
        after_point = lt_counted p (length n.point) k.of_point ∙ pd.2 ∙ sym (lt_counted d n.decimals (k.of_nines ∙ ap counted nines_length));
        one_sign = sign n.one_sign k;
      };
      some = omega (arith, o.digits, n.some);
      outline = subst (λ f. IsOutline (outline_of (size_of b c s p d a) (capped (ds + d)) d) f) (ap (λ l. form_by (length all) (count_by is_digit_mark all) l) nines_length ∙ sym n.is) o;
    }
  where
    lt_counted : (x y : ℕ) → x ≡ counted y → nat_lt 0 x ≡ nat_lt 0 y
    lt_counted x zero e = rw e refl
    lt_counted x (suc y) e = let positive : 0 < x = omega (arith, e) in lt-ltb 0 x positive ∙ sym (lt-ltb 0 (suc y) (omega arith))

    sign : (n.before ≡ []) ⊎ (n.after ≡ []) → EditedCounts n.before n.currency n.body n.point (replicate n.decimals 57) n.after b c s p d a ds → (b ≡ 0) ⊎ (a ≡ 0)
    sign (inl e) k = inl (omega (arith, k.of_before, ap length e))
    sign (inr e) k = inr (omega (arith, k.of_after, ap length e))

-- ---- what is read is an edited picture

before_found : (before : List ℕ) → AllAmong (codes "+-") before → length before ≤ 1 → OneOf ([] ∷ codes "+" ∷ codes "-" ∷ []) before
before_found [] h le = inl refl
before_found (x ∷ []) h le = go (or_cases _ _ (and_parts _ _ h).0)
  where
    go : (nat_eq 43 x ≡ true) ⊎ (is_among (codes "-") x ≡ true) → OneOf ([] ∷ codes "+" ∷ codes "-" ∷ []) (x ∷ [])
    go (inl e) = inr (inl (ap (λ y. y ∷ []) (sym (eqb-true 43 x e))))
    go (inr e) = inr (inr (inl (ap (λ y. y ∷ []) (one_of 45 x e))))
before_found (x ∷ y ∷ before) h le = absurd (omega arith)

currency_found : (currency : List ℕ) → AllAmong (codes "$") currency → length currency ≤ 1 → OneOf ([] ∷ codes "$" ∷ []) currency
currency_found currency h le = elim (at_most_one 36 currency h le) [ inl e ↦ inr (inl e) | inr e ↦ inl e ]

point_found : (point nines : List ℕ) (p d : ℕ) → AllAmong (codes ".") point → p ≡ counted (length point) → d ≡ counted (length nines) → p ≤ 1 → nat_lt 0 p ≡ nat_lt 0 d → IsPoint point (length nines)
point_found point nines p d h hp hd le e = go point nines (at_most_one 46 point h (omega (arith, hp))) hp hd
  where
    go : (point nines : List ℕ) → (point ≡ codes ".") ⊎ (point ≡ []) → p ≡ counted (length point) → d ≡ counted (length nines) → IsPoint point (length nines)
    go point [] (inr f) hp hd = inr (f, refl)
    go point (x ∷ nines) (inl f) hp hd = inl (f, omega arith)
    go point [] (inl f) hp hd = absurd (
        let one : p ≡ 1 = hp ∙ ap (λ m. counted (length m)) f in let none : d ≡ 0 = hd in
        let t : nat_lt 0 1 ≡ nat_lt 0 0 = sym (ap (λ n. nat_lt 0 n) one) ∙ e ∙ ap (λ n. nat_lt 0 n) none in cc)
    go point (x ∷ nines) (inr f) hp hd = absurd (
        let none : p ≡ 0 = hp ∙ ap (λ m. counted (length m)) f in let some : 0 < d = omega (arith, hd) in
        let t : nat_lt 0 0 ≡ true = sym (ap (λ n. nat_lt 0 n) none) ∙ e ∙ lt-ltb 0 d some in cc)

sign_found : (before after : List ℕ) (b a : ℕ) → b ≡ counted (length before) → a ≡ length after → (b ≡ 0) ⊎ (a ≡ 0) → (before ≡ []) ⊎ (after ≡ [])
sign_found [] after b a hb ha h = inl refl
sign_found (x ∷ before) [] b a hb ha h = inr refl
sign_found (x ∷ before) (y ∷ after) b a hb ha (inl e) = absurd (omega (arith, hb))
sign_found (x ∷ before) (y ∷ after) b a hb ha (inr e) = absurd (omega (arith, ha))

-- marks of 9s alone are numeric
nines_numeric : (marks : List ℕ) → 0 < length marks → AllAmong (codes "9") marks → IsNumeric marks (record { kind = Numeric; size = length marks + 0; digits = length marks + 0; decimals = 0; signed = false })
nines_numeric marks h all = record {
  sign = [];
  whole = length marks;
  point = [];
  decimals = 0;
  parts = all_one 57 marks all ∙ sym (append-nil _);
  sign_is = inr (refl, refl);
  point_is = inr (refl, refl);
  some = omega arith;
  is = refl;
}

count_some : (marks : List ℕ) → 0 < count_by is_digit_mark marks → 0 < length marks
count_some [] h = absurd (omega (arith, h))
count_some (x ∷ marks) h = omega arith

-- The parts that were read, with their counts.
pub record Found (text before currency body point nines after : List ℕ) : Type 0 where
  pub written : Writes text (before ++ (currency ++ (body ++ (point ++ (nines ++ after)))))
  pub before_all : AllAmong (codes "+-") before
  pub currency_all : AllAmong (codes "$") currency
  pub body_is : IsBody body
  pub point_all : AllAmong (codes ".") point
  pub nines_all : AllAmong (codes "9") nines
  pub after_is : OneOf endings after

pub found_from : (text before after_before currency after_currency body after_body point after_point nines rest after : List ℕ) → Front text before after_before currency after_currency
    → Reads after_currency body after_body → ((more : List ℕ) → Writes after_body more → IsBody body) → Tail after_body point after_point nines rest → Writes rest after → OneOf endings after
    → Found text before currency body point nines after
found_from text before after_before currency after_currency body after_body point after_point nines rest after f r is t w h =
    let tail : Writes after_body (point ++ (nines ++ after)) = t.point_is.reads.back _ (t.decimals_is.reads.back after w) in
    record {
      written = f.before_is.reads.back _ (f.currency_is.reads.back _ (r.back _ tail));
      before_all = f.before_is.all;
      currency_all = f.currency_is.all;
      body_is = is _ tail;
      point_all = t.point_is.all;
      nines_all = t.decimals_is.all;
      after_is = h;
    }

pub edited_found : (text before currency body point nines after : List ℕ) (b c s p d a ds : ℕ) → Found text before currency body point nines after → EditedCounts before currency body point nines after b c s p d a ds
    → AreEdited b c p d a → 0 < capped (ds + d) → ((marks : List ℕ) (form : Form) → Writes text marks → IsNumeric marks form → ⊥)
    → (marks : List ℕ) × (form : Form) × Writes text marks × IsEdited marks form × IsOutline (outline_of (size_of b c s p d a) (capped (ds + d)) d) form
edited_found text before currency body point nines after b c s p d a ds f k are positive other =
    let n = length nines in
    let same : nines ≡ replicate n 57 = all_one 57 nines f.nines_all in
    let all = before ++ (currency ++ (body ++ (point ++ (replicate n 57 ++ after)))) in
    let w : Writes text all = subst (λ x. Writes text (before ++ (currency ++ (body ++ (point ++ (x ++ after)))))) same f.written in
    let before_is = before_found before f.before_all (omega (arith, k.of_before, are.one_before)) in
    let currency_is = currency_found currency f.currency_all (omega (arith, k.of_currency, are.one_currency)) in
    let point_is : IsPoint point n = point_found point nines p d f.point_all k.of_point k.of_nines are.one_point are.after_point in
    let m = measures before currency body point after n before_is currency_is point_is f.after_is in
    let k' : EditedCounts before currency body point (replicate n 57) after b c s p d a ds = subst (λ x. EditedCounts before currency body point x after b c s p d a ds) same k in
    let o = outline_is all before currency body point (replicate n 57) after b c s p d a ds m k' in
    let some : 0 < count_by is_digit_mark all = omega (arith, o.digits, positive) in
    let edited : IsEdited all (form_by (length all) (count_by is_digit_mark all) n) = record {
      before = before;
      currency = currency;
      body = body;
      point = point;
      decimals = n;
      after = after;
      parts = refl;
      before_is = before_is;
      currency_is = currency_is;
      body_is = f.body_is;
      point_is = point_is;
      after_is = f.after_is;
      one_sign = sign_found before after b a k.of_before k.of_after are.one_sign;
      some = some;
      not_numeric = λ nine. other all _ w (nines_numeric all (count_some all some) nine);
      is = refl;
    } in
    let nines_length : length {A = ℕ} (replicate n 57) ≡ n = length-replicate {A = ℕ} n 57 in (
      all,
      form_by (length all) (count_by is_digit_mark all) n,
      w,
      edited,
      subst (λ l. IsOutline (outline_of (size_of b c s p d a) (capped (ds + d)) d) (form_by (length all) (count_by is_digit_mark all) l)) nines_length o,
    )

-- the same with the numbers as they were added up
pub same_outline : (size size' digits digits' decimals : ℕ) (form : Form) → size' ≡ size → digits' ≡ digits → IsOutline (outline_of size digits decimals) form → IsOutline (outline_of size' digits' decimals) form
same_outline size size' digits digits' decimals form e f o = record { kind = o.kind; size = e ∙ o.size; digits = f ∙ o.digits; decimals = o.decimals; signed = o.signed }
