-- A text writes marks exactly as its front, again and again, says.
use Rattle.std.proofs.Common.{◌≡◌, ℕ, ◌+◌, ◌*◌, ◌<◌, ◌≤◌, ◌⊎◌, inl, inr, true, false, List, [], ◌∷◌, ◌++◌, length, Option, Some, None, refl, sym, ap, subst, ◌∙◌, arith, nat_eq, nat_lt, append-nil, length-append}
use Rattle.std.specs.Prelude.{codes, ◌&&◌, ◌==◌}
use Rattle.std.specs.List.{repeat}
use Rattle.std.specs.Char.{to_ascii_uppercase, is_ascii_digit, digit_value}
use Rattle.std.specs.Str.Parse.{digits_value, digits_value_after, AllDigits, IsNumeral}
use Rattle.std.proofs.lemmas.Bool.{cases_Bool, cond-true, cond-false, eqb-true, and_parts, ltb-true, lt-ltb}
use Rattle.std.specs.Int.{IsInRange}
use Rattle.std.proofs.lemmas.Str.Parse.{digit_from_value}
use Rattle.std.proofs.lemmas.Str.{digit_value_digit}
use Rattle.std.proofs.lemmas.Bool.Decides.{nat_tests}
use Rattle.picture_rule.specs.Picture.{is_among}
use Rattle.picture_rule.specs.Text.{IsSymbol, Writes}
use Rattle.picture_rule.specs.Text.IsSymbol.{single, credit, debit}
use Rattle.picture_rule.specs.Text.Writes.{nothing, once, repeated}
use Rattle.picture_rule.specs.Reading.{marks_of, pair_at, symbol_at, digits_from, closed_at, times_at, front, front_from, front_by, Front}
use Rattle.picture_rule.specs.declared.run.Symbol.{Symbol}
use Rattle.picture_rule.specs.declared.run.Symbol.TheVariants.{Mark, Credit, Debit}

-- what the front says of the marks that a text writes
abbrev pub Says : Option Front → List ℕ → List ℕ → Type 0
Says None text marks = (text ≡ []) × (marks ≡ [])
Says (Some f) text marks = (more : List ℕ) × (marks ≡ repeat f.times (marks_of f.symbol) ++ more) × Writes f.rest more

-- a parenthesis begins no symbol
no_paren_mark : (c : ℕ) → is_among (codes "XAS9V+-$Z*,.") (to_ascii_uppercase c) ≡ true → nat_eq c 40 ≡ false
no_paren_mark c h = elim (cases_Bool (nat_eq c 40)) [ inl e ↦ absurd (let f : is_among (codes "XAS9V+-$Z*,.") (to_ascii_uppercase 40) ≡ true = subst (λ n. is_among (codes "XAS9V+-$Z*,.") (to_ascii_uppercase n) ≡ true) (eqb-true c 40 e) h in cc) | inr e ↦ e ]

no_paren_letter : (c v : ℕ) → to_ascii_uppercase c ≡ v → nat_eq v 40 ≡ false → nat_eq c 40 ≡ false
no_paren_letter c v h other = elim (cases_Bool (nat_eq c 40)) [ inl e ↦ absurd (let f : to_ascii_uppercase 40 ≡ v = subst (λ n. to_ascii_uppercase n ≡ v) (eqb-true c 40 e) h in let g : nat_eq 40 40 ≡ false = subst (λ n. nat_eq n 40 ≡ false) (sym f) other in cc) | inr e ↦ e ]

alone : (c : ℕ) (text : List ℕ) → nat_eq c 40 ≡ false → times_at (c ∷ text) ≡ Some (1, c ∷ text)
unfolding times_at
alone c text e = cond-false _ _ _ e

-- a text that writes marks begins with no parenthesis
starts_alone : {written mark : List ℕ} → IsSymbol written mark → (text : List ℕ) → times_at (written ++ text) ≡ Some (1, written ++ text)
starts_alone (single {c} h) text = alone c text (no_paren_mark c h)
starts_alone (credit {c} {d} h i) text = alone c (d ∷ text) (no_paren_letter c 67 h refl)
starts_alone (debit {c} {d} h i) text = alone c (d ∷ text) (no_paren_letter c 68 h refl)

writes_alone : {text marks : List ℕ} → Writes text marks → times_at text ≡ Some (1, text)
unfolding times_at
writes_alone nothing = refl
writes_alone (once written mark text marks s w) = starts_alone s text
writes_alone (repeated written mark number text marks s n z w) = starts_alone s _

-- the symbol at the front of a written symbol
abbrev symbol_of : {written mark : List ℕ} → IsSymbol written mark → Symbol
symbol_of (single {c} h) = Mark (to_ascii_uppercase c)
symbol_of (credit h i) = Credit
symbol_of (debit h i) = Debit

marks_of_is : {written mark : List ℕ} (s : IsSymbol written mark) → marks_of (symbol_of s) ≡ mark
marks_of_is (single h) = refl
marks_of_is (credit h i) = refl
marks_of_is (debit h i) = refl

symbol_at_is : {written mark : List ℕ} (s : IsSymbol written mark) (text : List ℕ) → symbol_at (written ++ text) ≡ Some (symbol_of s, text)
unfolding symbol_at pair_at
symbol_at_is (single {c} h) text = cond-true _ _ _ h
symbol_at_is (credit {c} {d} h i) text = rw (h, i) refl
symbol_at_is (debit {c} {d} h i) text = rw (h, i) refl

is_digit : (c : ℕ) → digit_value c < 10 → is_ascii_digit c ≡ true
is_digit c h = let r : IsInRange 48 57 c = digit_from_value c h in grind (arith, nat_tests, r.0, r.1)

digit_is : (c : ℕ) → is_ascii_digit c ≡ true → digit_value c < 10
digit_is c h = let low : 48 ≤ c = grind (arith, nat_tests, h) in let high : c ≤ 57 = grind (arith, nat_tests, h) in omega (arith, digit_value_digit c (low, high))

digits_run : (number : List ℕ) (text : List ℕ) (n : ℕ) → AllDigits 10 number → digits_from n (number ++ 41 ∷ text) ≡ (digits_value_after 10 n number, 41 ∷ text)
digits_run [] text n h = refl
digits_run (c ∷ number) text n h = rw (cond-true (is_ascii_digit c) _ _ (is_digit c h.0)) (digits_run number text (n * 10 + digit_value c) h.1)

times_run : (number : List ℕ) (text : List ℕ) → IsNumeral 10 number → 0 < digits_value 10 number → times_at (40 ∷ (number ++ 41 ∷ text)) ≡ Some (digits_value 10 number, text)
unfolding times_at closed_at
times_run number text h positive = rw (digits_run number text 0 h.1, lt-ltb 0 (digits_value 10 number) positive) refl

front_is : (text : List ℕ) (s : Symbol) (rest : List ℕ) (n : ℕ) (after : List ℕ) → symbol_at text ≡ Some (s, rest) → times_at rest ≡ Some (n, after) → front text ≡ Some (record { symbol = s; times = n; rest = after })
unfolding front
front_is text s rest n after e f = rw (e, f) refl

pub forth : {text marks : List ℕ} → Writes text marks → Says (front text) text marks
unfolding front symbol_at
forth nothing = (refl, refl)
forth (once written mark text marks s w) =
    rw (front_is (written ++ text) (symbol_of s) text 1 text (symbol_at_is s text) (writes_alone w)) (marks, ap (λ m. m ++ marks) (sym (marks_of_is s) ∙ sym (append-nil _)), w)
forth (repeated written mark number text marks s n z w) =
    rw (front_is _ (symbol_of s) _ (digits_value 10 number) text (symbol_at_is s _) (times_run number text n z)) (marks, ap (λ m. repeat (digits_value 10 number) m ++ marks) (sym (marks_of_is s)), w)

-- a text writes its marks in one way
pub writes_once : {text a b : List ℕ} → Writes text a → Writes text b → a ≡ b
unfolding front symbol_at
writes_once {b = b} nothing h = let said : Says (front []) [] b = forth h in sym said.1
writes_once {b = b} (once written mark text marks s w) h =
    let f = front_is (written ++ text) (symbol_of s) text 1 text (symbol_at_is s text) (writes_alone w) in
    let said : Says (Some (record { symbol = symbol_of s; times = 1; rest = text })) (written ++ text) b = rw f at (forth h) in
    ap (λ m. mark ++ m) (writes_once w said.2) ∙ ap (λ m. m ++ said.0) (sym (marks_of_is s) ∙ sym (append-nil _)) ∙ sym said.1
writes_once {b = b} (repeated written mark number text marks s n z w) h =
    let f = front_is (written ++ 40 ∷ (number ++ 41 ∷ text)) (symbol_of s) (40 ∷ (number ++ 41 ∷ text)) (digits_value 10 number) text (symbol_at_is s _) (times_run number text n z) in
    let said : Says (Some (record { symbol = symbol_of s; times = digits_value 10 number; rest = text })) (written ++ 40 ∷ (number ++ 41 ∷ text)) b = rw f at (forth h) in
    ap (λ m. repeat (digits_value 10 number) mark ++ m) (writes_once w said.2) ∙ ap (λ m. repeat (digits_value 10 number) m ++ said.0) (sym (marks_of_is s)) ∙ sym said.1

-- ---- and back

some_pair : {A B : Type 0} {a c : A} {b d : B} → ◌≡◌ {A = Option (A × B)} (Some (a, b)) (Some (c, d)) → (a ≡ c) × (b ≡ d)
some_pair {A} {B} {a} {c} {b} {d} e = let pair : ◌≡◌ {A = A × B} (a, b) (c, d) = cc in (ap (λ x. x.0) pair, ap (λ x. x.1) pair)

-- a symbol was written at the front
abbrev Written : List ℕ → Symbol → List ℕ → Type 0
Written text s rest = (written : List ℕ) × IsSymbol written (marks_of s) × (text ≡ written ++ rest)

pair_written : (c : ℕ) (d : ℕ) (text : List ℕ) (s : Symbol) (rest : List ℕ) → pair_at (to_ascii_uppercase c) (d ∷ text) ≡ Some (s, rest) → Written (c ∷ d ∷ text) s rest
unfolding pair_at
pair_written c d text s rest e =
    elim (cases_Bool ((to_ascii_uppercase c == 67) && (to_ascii_uppercase d == 82))) [
      | inl t ↦ (let both : (nat_eq (to_ascii_uppercase c) 67 ≡ true) × (nat_eq (to_ascii_uppercase d) 82 ≡ true) = and_parts _ _ t in
          let is : (Credit ≡ s) × (text ≡ rest) = some_pair (sym (cond-true _ _ _ t) ∙ e) in
          (c ∷ d ∷ [], subst (λ s. IsSymbol (c ∷ d ∷ []) (marks_of s)) is.0 (credit (eqb-true _ _ both.0) (eqb-true _ _ both.1)), ap (λ r. c ∷ d ∷ r) is.1))
      | inr f ↦ elim (cases_Bool ((to_ascii_uppercase c == 68) && (to_ascii_uppercase d == 66))) [
        | inl t ↦ (let both : (nat_eq (to_ascii_uppercase c) 68 ≡ true) × (nat_eq (to_ascii_uppercase d) 66 ≡ true) = and_parts _ _ t in
            let is : (Debit ≡ s) × (text ≡ rest) = some_pair (sym (cond-false _ _ _ f ∙ cond-true _ _ _ t) ∙ e) in
            (c ∷ d ∷ [], subst (λ s. IsSymbol (c ∷ d ∷ []) (marks_of s)) is.0 (debit (eqb-true _ _ both.0) (eqb-true _ _ both.1)), ap (λ r. c ∷ d ∷ r) is.1))
        | inr g ↦ absurd (let none : ◌≡◌ {A = Option (Symbol × List ℕ)} None (Some (s, rest)) = sym (cond-false _ _ _ f ∙ cond-false _ _ _ g) ∙ e in cc)
      ]
    ]

symbol_written : (text : List ℕ) (s : Symbol) (rest : List ℕ) → symbol_at text ≡ Some (s, rest) → Written text s rest
unfolding symbol_at pair_at
symbol_written [] s rest e = absurd (cc)
symbol_written (c ∷ []) s rest e =
    elim (cases_Bool (is_among (codes "XAS9V+-$Z*,.") (to_ascii_uppercase c))) [
      | inl t ↦ (let is : (Mark (to_ascii_uppercase c) ≡ s) × ([] ≡ rest) = some_pair (sym (cond-true _ _ _ t) ∙ e) in
          (c ∷ [], subst (λ s. IsSymbol (c ∷ []) (marks_of s)) is.0 (single t), ap (λ r. c ∷ r) is.1))
      | inr f ↦ absurd (let none : ◌≡◌ {A = Option (Symbol × List ℕ)} None (Some (s, rest)) = sym (cond-false _ _ _ f) ∙ e in cc)
    ]
symbol_written (c ∷ d ∷ text) s rest e =
    elim (cases_Bool (is_among (codes "XAS9V+-$Z*,.") (to_ascii_uppercase c))) [
      | inl t ↦ (let is : (Mark (to_ascii_uppercase c) ≡ s) × (d ∷ text ≡ rest) = some_pair (sym (cond-true _ _ _ t) ∙ e) in
          (c ∷ [], subst (λ s. IsSymbol (c ∷ []) (marks_of s)) is.0 (single t), ap (λ r. c ∷ r) is.1))
      | inr f ↦ pair_written c d text s rest (sym (cond-false _ _ _ f) ∙ e)
    ]

abbrev Split : ℕ → List ℕ → ℕ × List ℕ → Type 0
Split n text found = (digits : List ℕ) × AllDigits 10 digits × (text ≡ digits ++ found.1) × (found.0 ≡ digits_value_after 10 n digits)

digits_split : (text : List ℕ) (n : ℕ) → Split n text (digits_from n text)
digits_split [] n = ([], tt, refl, refl)
digits_split (c ∷ text) n = elim (cases_Bool (is_ascii_digit c)) [
  | inl e ↦ rw (cond-true (is_ascii_digit c) (digits_from (n * 10 + digit_value c) text) (n, c ∷ text) e)
      (let more = digits_split text (n * 10 + digit_value c) in (c ∷ more.0, (digit_is c e, more.1), ap (λ r. c ∷ r) more.2, more.3))
  | inr e ↦ rw (cond-false (is_ascii_digit c) (digits_from (n * 10 + digit_value c) text) (n, c ∷ text) e) ([], tt, refl, refl)
]

-- how a symbol's number of repetitions was written
abbrev Repeats : List ℕ → ℕ → List ℕ → Type 0
Repeats rest n after = ((n ≡ 1) × (rest ≡ after)) ⊎ ((number : List ℕ) × IsNumeral 10 number × (0 < digits_value 10 number) × (n ≡ digits_value 10 number) × (rest ≡ 40 ∷ (number ++ 41 ∷ after)))

some_length : (ds : List ℕ) → 0 < digits_value_after 10 0 ds → 0 < length ds
some_length [] h = absurd (omega arith)
some_length (c ∷ ds) h = omega arith

closed_from : (n : ℕ) (text : List ℕ) (m : ℕ) (after : List ℕ) → closed_at n text ≡ Some (m, after) → (n ≡ m) × (0 < n) × (text ≡ 41 ∷ after)
unfolding closed_at
closed_from n [] m after e = absurd (cc)
closed_from n (c ∷ text) m after e = elim (cases_Bool ((c == 41) && nat_lt 0 n)) [
  | inl t ↦ (let both : (nat_eq c 41 ≡ true) × (nat_lt 0 n ≡ true) = and_parts _ _ t in
      let is : (n ≡ m) × (text ≡ after) = some_pair (sym (cond-true _ _ _ t) ∙ e) in
      (is.0, ltb-true 0 n both.1, ap (λ r. c ∷ r) is.1 ∙ ap (λ c. c ∷ after) (eqb-true c 41 both.0)))
  | inr f ↦ absurd (let none : ◌≡◌ {A = Option (ℕ × List ℕ)} None (Some (m, after)) = sym (cond-false _ _ _ f) ∙ e in cc)
]

times_written : (rest : List ℕ) (n : ℕ) (after : List ℕ) → times_at rest ≡ Some (n, after) → Repeats rest n after
unfolding times_at
times_written [] n after e = let is : (1 ≡ n) × ([] ≡ after) = some_pair e in inl (sym is.0, is.1)
times_written (c ∷ rest) n after e = elim (cases_Bool (c == 40)) [
  | inl t ↦ (let split = digits_split rest 0 in
      let is : ((digits_from 0 rest).0 ≡ n) × (0 < (digits_from 0 rest).0) × ((digits_from 0 rest).1 ≡ 41 ∷ after) = closed_from _ _ n after (sym (cond-true _ _ _ t) ∙ e) in
      let positive : 0 < digits_value_after 10 0 split.0 = rw (← split.3) is.1 in
      inr (split.0, (some_length split.0 positive, split.1), positive, sym is.0 ∙ split.3, ap (λ c. c ∷ rest) (eqb-true c 40 t) ∙ ap (λ r. 40 ∷ r) (split.2 ∙ ap (λ r. split.0 ++ r) is.2)))
  | inr f ↦ (let is : (1 ≡ n) × (c ∷ rest ≡ after) = some_pair (sym (cond-false _ _ _ f) ∙ e) in inl (sym is.0, is.1))
]

-- What a front says of some rest, a text with it writes.
abbrev pub Continues : Front → List ℕ → Type 0
Continues f text = (more : List ℕ) → Writes f.rest more → Writes text (repeat f.times (marks_of f.symbol) ++ more)

continues : (text : List ℕ) (s : Symbol) (rest : List ℕ) (n : ℕ) (after : List ℕ) → Written text s rest → Repeats rest n after → Continues (record { symbol = s; times = n; rest = after }) text
continues text s rest n after w (inl r) more h =
    rw (w.2, r.1, r.0) (rw (append-nil (marks_of s)) (once w.0 (marks_of s) after more w.1 h))
continues text s rest n after w (inr r) more h =
    rw (w.2, r.4, r.3) (repeated w.0 (marks_of s) r.0 after more w.1 r.1 r.2 h)

front_parts : (text : List ℕ) (f : Front) (o : Option (Symbol × List ℕ)) → symbol_at text ≡ o → front_by o ≡ Some f → Continues f text
front_parts text f None e h = absurd (cc)
front_parts text f (Some x) e h = go (times_at x.1) refl h
  where
    go : (t : Option (ℕ × List ℕ)) → times_at x.1 ≡ t → front_from x.0 t ≡ Some f → Continues f text
    go None i j = absurd (cc)
    go (Some y) i j =
        let is : ◌≡◌ {A = Front} (record { symbol = x.0; times = y.0; rest = y.1 }) f = cc in
        subst (λ f. Continues f text) is (continues text x.0 x.1 y.0 y.1 (symbol_written text x.0 x.1 e) (times_written x.1 y.0 y.1 i))

pub back : (text : List ℕ) (f : Front) → front text ≡ Some f → Continues f text
unfolding front
back text f e = front_parts text f (symbol_at text) refl e

-- ---- what follows a front is shorter, and a symbol counts at least once

pub record IsLess (f : Front) (text : List ℕ) : Type 0 where
  pub shorter : length f.rest < length text
  pub some : 0 < f.times

written_some : {written mark : List ℕ} → IsSymbol written mark → 0 < length written
written_some (single h) = omega arith
written_some (credit h i) = omega arith
written_some (debit h i) = omega arith

less : (text : List ℕ) (s : Symbol) (rest : List ℕ) (n : ℕ) (after : List ℕ) → Written text s rest → Repeats rest n after → IsLess (record { symbol = s; times = n; rest = after }) text
less text s rest n after w (inl r) = record { shorter = omega (arith, written_some w.1, ap length w.2, length-append w.0 rest, ap length r.1); some = omega (arith, r.0) }
less text s rest n after w (inr r) = record { shorter = omega (arith, written_some w.1, ap length w.2, length-append w.0 rest, ap length r.4, length-append r.0 (41 ∷ after)); some = omega (arith, r.2, r.3) }

less_parts : (text : List ℕ) (f : Front) (o : Option (Symbol × List ℕ)) → symbol_at text ≡ o → front_by o ≡ Some f → IsLess f text
less_parts text f None e h = absurd (cc)
less_parts text f (Some x) e h = go (times_at x.1) refl h
  where
    go : (t : Option (ℕ × List ℕ)) → times_at x.1 ≡ t → front_from x.0 t ≡ Some f → IsLess f text
    go None i j = absurd (cc)
    go (Some y) i j =
        let is : ◌≡◌ {A = Front} (record { symbol = x.0; times = y.0; rest = y.1 }) f = cc in
        subst (λ f. IsLess f text) is (less text x.0 x.1 y.0 y.1 (symbol_written text x.0 x.1 e) (times_written x.1 y.0 y.1 i))

pub front_less : (text : List ℕ) (f : Front) → front text ≡ Some f → IsLess f text
unfolding front
front_less text f e = less_parts text f (symbol_at text) refl e

-- the symbol of a front is one
pub front_symbol : (text : List ℕ) (f : Front) → front text ≡ Some f → (written : List ℕ) × IsSymbol written (marks_of f.symbol)
unfolding front
front_symbol text f e = parts (symbol_at text) refl e
  where
    go : (x : Symbol × List ℕ) → symbol_at text ≡ Some x → (t : Option (ℕ × List ℕ)) → front_from x.0 t ≡ Some f → (written : List ℕ) × IsSymbol written (marks_of f.symbol)
    go x i None j = absurd (cc)
    go x i (Some y) j =
        let is : ◌≡◌ {A = Front} (record { symbol = x.0; times = y.0; rest = y.1 }) f = cc in
        let w = symbol_written text x.0 x.1 i in
        subst (λ f. (written : List ℕ) × IsSymbol written (marks_of f.symbol)) is (w.0, w.1)

    parts : (o : Option (Symbol × List ℕ)) → symbol_at text ≡ o → front_by o ≡ Some f → (written : List ℕ) × IsSymbol written (marks_of f.symbol)
    parts None i j = absurd (cc)
    parts (Some x) i j = go x i (times_at x.1) j

pub front_shorter : (text : List ℕ) (s : Symbol) (n : ℕ) (rest : List ℕ) → front text ≡ Some (record { symbol = s; times = n; rest = rest }) → length rest < length text
front_shorter text s n rest e = (front_less text _ e).shorter
