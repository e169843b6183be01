-- How a text's front extends the marks that were read.
use Rattle.std.proofs.Common.{◌≡◌, ℕ, zero, suc, ◌+◌, ◌<◌, ◌≤◌, Bool, true, false, cond, List, [], ◌∷◌, ◌++◌, length, Some, None, refl, sym, ap, subst, ◌∙◌, arith, append_assoc, append-nil, length-append, add-one}
use Rattle.std.specs.Prelude.{count_by, min, ◌^◌, ◌-◌, if◌then◌else◌}
use Rattle.std.proofs.lemmas.Bool.{cond-true, cond-false, cond_both, and_from}
use Rattle.std.proofs.lemmas.List.Folds.{list_all-append}
use Rattle.std.proofs.lemmas.List.Sums.{sum_by-append, sum_by-cons}
use Rattle.std.specs.List.{repeat}
use Rattle.picture_rule.specs.Picture.{is_among, AllAmong, is_digit_mark}
use Rattle.picture_rule.specs.Text.{Writes}
use Rattle.picture_rule.specs.Reading.{front, Front, marks_of, counted}
use Rattle.picture_rule.specs.Span.{Reads, StopsAt, IsWanted}
use Rattle.picture_rule.specs.declared.run.Symbol.{Symbol}
use Rattle.picture_rule.specs.declared.run.Symbol.TheVariants.{Mark, Credit, Debit}
use Rattle.picture_rule.proofs.Fronts.{Says, forth, back, front_less}

pub stops_none : (wanted text : List ℕ) → front text ≡ None → StopsAt wanted text
stops_none wanted text e mark more w =
    let said : Says None text (mark ∷ more) = rw e at (forth w) in absurd (let none : ◌≡◌ {A = List ℕ} (mark ∷ more) [] = said.1 in cc)

head_is : (n : ℕ) (m : ℕ) (ms rest more : List ℕ) (mark : ℕ) → 0 < n → mark ∷ more ≡ repeat n (m ∷ ms) ++ rest → mark ≡ m
head_is zero m ms rest more mark h e = absurd (omega arith)
head_is (suc n) m ms rest more mark h e = cc

pub stops_other : (wanted text : List ℕ) (f : Front) (m : ℕ) (ms : List ℕ) → front text ≡ Some f → marks_of f.symbol ≡ m ∷ ms → is_among wanted m ≡ false → StopsAt wanted text
stops_other wanted text f m ms e is other mark more w =
    let said : Says (Some f) text (mark ∷ more) = rw e at (forth w) in
    let same : mark ∷ more ≡ repeat f.times (m ∷ ms) ++ said.0 = said.1 ∙ ap (λ x. repeat f.times x ++ said.0) is in
    subst (λ x. is_among wanted x ≡ false) (sym (head_is f.times m ms said.0 more mark (front_less text f e).some same)) other

-- ---- one more run

pub reads_none : (text : List ℕ) → Reads text [] text
reads_none text = record { forth = λ all w. (all, refl, w); back = λ more w. w }

reads_more : (text marks rest : List ℕ) (f : Front) → Reads text marks rest → front rest ≡ Some f → Reads text (marks ++ repeat f.times (marks_of f.symbol)) f.rest
reads_more text marks rest f r e = record {
  forth = λ all w. (let first = r.forth all w in let said : Says (Some f) rest first.0 = rw e at (forth first.2) in
      (said.0, first.1 ∙ ap (λ x. marks ++ x) said.1 ∙ sym (append_assoc marks _ said.0), said.2));
  back = λ more w. rw append_assoc (r.back _ (back rest f e more w));
}

length_repeat : (n m : ℕ) → length (repeat n (m ∷ [])) ≡ n
length_repeat zero m = refl
length_repeat (suc n) m = omega (arith, length_repeat n m)

count_repeat : (n m : ℕ) → count_by is_digit_mark (repeat n (m ∷ [])) ≡ (if is_digit_mark m then n else 0)
count_repeat n m = cond_both (is_digit_mark m) n 0 (λ x. count_by is_digit_mark (repeat n (m ∷ [])) ≡ x) (λ e. counts n m e) (λ e. counts_none n m e)
  where
    counts : (n m : ℕ) → is_digit_mark m ≡ true → count_by is_digit_mark (repeat n (m ∷ [])) ≡ n
    counts zero m e = refl
    counts (suc n) m e = omega (arith, cond-true {A = ℕ} (is_digit_mark m) 1 0 e, counts n m e, sum_by-cons (λ x. cond (is_digit_mark x) 1 0) m (repeat n (m ∷ [])))

    counts_none : (n m : ℕ) → is_digit_mark m ≡ false → count_by is_digit_mark (repeat n (m ∷ [])) ≡ 0
    counts_none zero m e = refl
    counts_none (suc n) m e = omega (arith, cond-false {A = ℕ} (is_digit_mark m) 1 0 e, counts_none n m e, sum_by-cons (λ x. cond (is_digit_mark x) 1 0) m (repeat n (m ∷ [])))

counted_if : (b : Bool) (n : ℕ) → (if b then counted n else 0) ≡ counted (if b then n else 0)
counted_if true n = refl
counted_if false n = refl

pub count-append : (xs ys : List ℕ) → count_by is_digit_mark (xs ++ ys) ≡ count_by is_digit_mark xs + count_by is_digit_mark ys
count-append xs ys = sum_by-append (λ x. cond (is_digit_mark x) 1 0) xs ys

all_repeat : (wanted : List ℕ) (n m : ℕ) → is_among wanted m ≡ true → AllAmong wanted (repeat n (m ∷ []))
all_repeat wanted zero m h = refl
all_repeat wanted (suc n) m h = and_from _ _ h (all_repeat wanted n m h)

pub all_append : (wanted xs ys : List ℕ) → AllAmong wanted xs → AllAmong wanted ys → AllAmong wanted (xs ++ ys)
all_append wanted xs ys h i = list_all-append (is_among wanted) xs ys ∙ and_from _ _ h i

sum_counted : (digits : ℕ) (before : ℕ) (b : Bool) (n all : ℕ) → digits ≡ counted before → all ≡ before + (if b then n else 0) → min (digits + (if b then counted n else 0)) (2 ^ 64 - 1) ≡ counted all
sum_counted digits before b n all h i = omega (arith, counted_if b n)

-- The state of a span: so many marks, all of them wanted, of which so many stand for digits, and what is left.
abbrev pub Spanned : List ℕ → List ℕ → ℕ → ℕ → List ℕ → Type 0
Spanned wanted text size digits rest = (marks : List ℕ) × AllAmong wanted marks × Reads text marks rest × (size ≡ counted (length marks)) × (digits ≡ counted (count_by is_digit_mark marks))

pub spanned_more : (wanted text : List ℕ) (size digits : ℕ) (rest : List ℕ) (mark n : ℕ) (after : List ℕ) → Spanned wanted text size digits rest → IsWanted wanted rest mark n after
    → Spanned wanted text (min (size + counted n) (2 ^ 64 - 1)) (min (digits + (if is_digit_mark mark then counted n else 0)) (2 ^ 64 - 1)) after
spanned_more wanted text size digits rest mark n after s w =
    let more = repeat n (mark ∷ []) in (
      s.0 ++ more,
      all_append wanted s.0 more s.1 (all_repeat wanted n mark w.among),
      reads_more text s.0 rest _ s.2 w.is,
      omega (arith, length-append s.0 more, length_repeat n mark, s.3),
      sum_counted digits (count_by is_digit_mark s.0) (is_digit_mark mark) n _ s.4 (count-append s.0 more ∙ ap (λ k. count_by is_digit_mark s.0 + k) (count_repeat n mark)),
    )

-- ---- marks that are written out one run after another

-- the marks of a text, so far written out, go on with what the rest writes
abbrev pub GoesOn : List ℕ → List ℕ → List ℕ → Type 0
GoesOn text written rest = (marks : List ℕ) → Writes text marks → length marks < 2 ^ 64 → (more : List ℕ) × (marks ≡ written ++ more) × Writes rest more

repeats_length : (n : ℕ) (marks : List ℕ) → 0 < length marks → n ≤ length (repeat n marks)
repeats_length zero marks h = omega arith
repeats_length (suc n) marks h = omega (arith, repeats_length n marks h, length-append marks (repeat n marks))

marks_some : (s : Symbol) → 0 < length (marks_of s)
marks_some (Mark m) = omega arith
marks_some Credit = omega arith
marks_some Debit = omega arith

pub goes_on : (text written rest : List ℕ) (s : Symbol) (n times : ℕ) (after : List ℕ) (next : List ℕ) → GoesOn text written rest → times ≡ counted n → front rest ≡ Some (record { symbol = s; times = n; rest = after })
    → next ≡ written ++ repeat times (marks_of s) → GoesOn text next after
goes_on text written rest s n times after next h e f is marks w small =
    let first = h marks w small in
    let said : Says (Some (record { symbol = s; times = n; rest = after })) rest first.0 = rw f at (forth first.2) in
    let counts : n ≤ length (repeat n (marks_of s)) = repeats_length n (marks_of s) (marks_some s) in
    let few : n < 2 ^ 64 = omega (arith, counts, small, ap length first.1, length-append written first.0, ap length said.1, length-append (repeat n (marks_of s)) said.0) in
    let same : times ≡ n = omega (arith, e, few) in
    (said.0, first.1 ∙ ap (λ x. written ++ x) said.1 ∙ sym (append_assoc written (repeat n (marks_of s)) said.0) ∙ ap (λ x. x ++ said.0) (ap (λ t. written ++ repeat t (marks_of s)) (sym same) ∙ sym is), said.2)

pub all_out : (text written rest : List ℕ) → GoesOn text written rest → front rest ≡ None → (marks : List ℕ) → Writes text marks → length marks < 2 ^ 64 → written ≡ marks
all_out text written rest h f marks w small =
    let last = h marks w small in
    let said : Says None rest last.0 = rw f at (forth last.2) in
    sym (last.1 ∙ ap (λ x. written ++ x) said.1 ∙ append-nil written)

repeat_more : (n : ℕ) (xs : List ℕ) → repeat (n + 1) xs ≡ repeat n xs ++ xs
repeat_more zero xs = append-nil xs
repeat_more (suc n) xs = rw (add-one (suc n)) (ap (λ r. xs ++ r) (sym (ap (λ k. repeat k xs) (add-one n)) ∙ repeat_more n xs) ∙ sym (append_assoc xs (repeat n xs) xs))

pub pushed : (before written next xs : List ℕ) (n : ℕ) → written ≡ before ++ repeat n xs → next ≡ written ++ xs → next ≡ before ++ repeat (n + 1) xs
pushed before written next xs n e f = f ∙ ap (λ w. w ++ xs) e ∙ append_assoc before (repeat n xs) xs ∙ ap (λ r. before ++ r) (sym (repeat_more n xs))
