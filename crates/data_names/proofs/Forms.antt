-- A text is one picture at most.
use Rattle.std.proofs.Common.{◌≡◌, ℕ, zero, suc, ◌+◌, ◌<◌, ◌⊎◌, inl, inr, Bool, true, false, List, [], ◌∷◌, ◌++◌, length, append-nil, replicate, refl, sym, ◌∙◌, ap, subst, arith}
use Rattle.std.specs.Prelude.{◌==◌, codes, count_by, nat_eq, if◌then◌else◌}
use Rattle.std.proofs.lemmas.Bool.{and_parts, false≢true}
use Rattle.picture_rule.proofs.Extends.{count-append}
use Rattle.picture_rule.specs.Picture.{Form, HasForm, PictureValue, is_among, AllAmong, is_digit_mark, OneOf, endings, IsNumeric, IsEdited}
use Rattle.picture_rule.specs.Text.{Spells, IsWhole, picture_of}
use Rattle.picture_rule.specs.declared.kind.PictureKind.TheVariants.{Numeric, Edited}
use Rattle.picture_rule.proofs.Fronts.{writes_once}
use Rattle.picture_rule.proofs.Results.{zero_is}
use Rattle.picture_rule.proofs.EditedParts.{nine_digits, after_digits}
use Rattle.picture_rule.proofs.Apart.{Among, among, plain_marks, before_marks, currency_marks, body_marks, after_marks, letters_numeric, letters_edited, numeric_edited}

-- the digits behind the first point of this sort
places : ℕ → List ℕ → ℕ
places point [] = 0
places point (x ∷ xs) = if nat_eq x point then count_by is_digit_mark xs else places point xs

-- whether S comes first
begins-S : List ℕ → Bool
begins-S [] = false
begins-S (x ∷ xs) = nat_eq x 83

-- marks among which the point is not are passed over
passed : (wanted : List ℕ) (point : ℕ) → ((x : ℕ) → is_among wanted x ≡ true → nat_eq x point ≡ false) → (front rest : List ℕ) → AllAmong wanted front
    → places point (front ++ rest) ≡ places point rest
unfolding places
passed wanted point other [] rest all = refl
passed wanted point other (x ∷ front) rest all =
    let parts = and_parts _ _ all in rw (other x parts.0) (passed wanted point other front rest parts.1)

-- ---- numeric marks

abbrev numeric_form : List ℕ → Form
numeric_form marks =
    record { kind = Numeric; size = count_by is_digit_mark marks; digits = count_by is_digit_mark marks; decimals = places 86 marks; signed = begins-S marks }

through-nines : (n : ℕ) (rest : List ℕ) → places 86 (replicate n 57 ++ rest) ≡ places 86 rest
unfolding places
through-nines zero rest = refl
through-nines (suc n) rest = through-nines n rest

count-tail : (whole decimals : ℕ) (point : List ℕ) → (point ≡ codes "V") ⊎ ((point ≡ []) × (decimals ≡ 0))
    → count_by is_digit_mark (replicate whole 57 ++ (point ++ replicate decimals 57)) ≡ whole + decimals
count-tail whole decimals point p =
    omega (arith, count-append (replicate whole 57) (point ++ replicate decimals 57), count-append point (replicate decimals 57), nine_digits whole, nine_digits decimals, none p)
  where
    none : (point ≡ codes "V") ⊎ ((point ≡ []) × (decimals ≡ 0)) → count_by is_digit_mark point ≡ 0
    none (inl e) = rw e refl
    none (inr e) = rw e.0 refl

first-of : (whole decimals : ℕ) (point : List ℕ) → (point ≡ codes "V") ⊎ ((point ≡ []) × (decimals ≡ 0)) → begins-S (replicate whole 57 ++ (point ++ replicate decimals 57)) ≡ false
unfolding begins-S
first-of zero decimals point (inl e) = rw e refl
first-of zero decimals point (inr e) = rw (e.0, e.1) refl
first-of (suc whole) decimals point p = refl

after-point : (decimals : ℕ) → places 86 (86 ∷ replicate decimals 57) ≡ decimals
unfolding places
after-point decimals = nine_digits decimals

no-places : places 86 [] ≡ 0
unfolding places
no-places = refl

places-tail : (whole decimals : ℕ) (point : List ℕ) → (point ≡ codes "V") ⊎ ((point ≡ []) × (decimals ≡ 0)) → places 86 (replicate whole 57 ++ (point ++ replicate decimals 57)) ≡ decimals
places-tail whole decimals point (inl e) = rw e (through-nines whole (86 ∷ replicate decimals 57) ∙ after-point decimals)
places-tail whole decimals point (inr e) = rw (e.0, e.1) (through-nines whole [] ∙ no-places)

behind-S : (marks : List ℕ) → places 86 (83 ∷ marks) ≡ places 86 marks
unfolding places
behind-S marks = refl

first-S : (marks : List ℕ) → begins-S (83 ∷ marks) ≡ true
unfolding begins-S
first-S marks = refl

numeric-parts : (sign point : List ℕ) (whole decimals : ℕ) (signed : Bool) → ((sign ≡ codes "S") × (signed ≡ true)) ⊎ ((sign ≡ []) × (signed ≡ false))
    → (point ≡ codes "V") ⊎ ((point ≡ []) × (decimals ≡ 0))
    → record { kind = Numeric; size = whole + decimals; digits = whole + decimals; decimals = decimals; signed = signed } ≡ numeric_form (sign ++ (replicate whole 57 ++ (point ++ replicate decimals 57)))
numeric-parts sign point whole decimals signed (inl s) p =
    let tail = replicate whole 57 ++ (point ++ replicate decimals 57) in
    let size : count_by is_digit_mark (83 ∷ tail) ≡ whole + decimals = omega (arith, count-append (83 ∷ []) tail, count-tail whole decimals point p) in
    let after : places 86 (83 ∷ tail) ≡ decimals = behind-S tail ∙ places-tail whole decimals point p in
    rw (s.0, s.1) (sym (rw (size, after, first-S tail) refl))
numeric-parts sign point whole decimals signed (inr s) p =
    rw (s.0, s.1) (sym (rw (count-tail whole decimals point p, places-tail whole decimals point p, first-of whole decimals point p) refl))

numeric-is : (marks : List ℕ) (form : Form) → IsNumeric marks form → form ≡ numeric_form marks
numeric-is marks form n = n.is ∙ numeric-parts n.sign n.point n.whole n.decimals form.signed n.sign_is n.point_is ∙ sym (ap numeric_form n.parts)

-- ---- edited marks

abbrev edited_form : List ℕ → Form
edited_form marks = record { kind = Edited; size = length marks; digits = count_by is_digit_mark marks; decimals = places 46 marks; signed = false }

no-point : (x : ℕ) → is_among plain_marks x ≡ true → nat_eq x 46 ≡ false
no-point x h = go (among plain_marks x h)
  where
    go : Among plain_marks x → nat_eq x 46 ≡ false
    go (inl e) = subst (λ z. nat_eq z 46 ≡ false) e refl
    go (inr (inl e)) = subst (λ z. nat_eq z 46 ≡ false) e refl
    go (inr (inr (inl e))) = subst (λ z. nat_eq z 46 ≡ false) e refl
    go (inr (inr (inr (inl e)))) = subst (λ z. nat_eq z 46 ≡ false) e refl
    go (inr (inr (inr (inr (inl e))))) = subst (λ z. nat_eq z 46 ≡ false) e refl
    go (inr (inr (inr (inr (inr (inl e)))))) = subst (λ z. nat_eq z 46 ≡ false) e refl
    go (inr (inr (inr (inr (inr (inr (inl e))))))) = subst (λ z. nat_eq z 46 ≡ false) e refl
    go (inr (inr (inr (inr (inr (inr (inr (inl e)))))))) = subst (λ z. nat_eq z 46 ≡ false) e refl
    go (inr (inr (inr (inr (inr (inr (inr (inr (inl e))))))))) = subst (λ z. nat_eq z 46 ≡ false) e refl
    go (inr (inr (inr (inr (inr (inr (inr (inr (inr (inl e)))))))))) = subst (λ z. nat_eq z 46 ≡ false) e refl
    go (inr (inr (inr (inr (inr (inr (inr (inr (inr (inr (inl e))))))))))) = subst (λ z. nat_eq z 46 ≡ false) e refl
    go (inr (inr (inr (inr (inr (inr (inr (inr (inr (inr (inr e))))))))))) = absurd e

edited-tail : (decimals : ℕ) (point after : List ℕ) → ((point ≡ codes ".") × (0 < decimals)) ⊎ ((point ≡ []) × (decimals ≡ 0)) → OneOf endings after
    → places 46 (point ++ (replicate decimals 57 ++ after)) ≡ decimals
unfolding places
edited-tail decimals point after (inl e) a =
    let digits : count_by is_digit_mark (replicate decimals 57 ++ after) ≡ decimals =
    omega (arith, count-append (replicate decimals 57) after, nine_digits decimals, after_digits after a) in
    let read : places 46 (46 ∷ (replicate decimals 57 ++ after)) ≡ count_by is_digit_mark (replicate decimals 57 ++ after) = refl in
    rw e.0 (read ∙ digits)
edited-tail decimals point after (inr e) a =
    let none : places 46 (after ++ []) ≡ 0 = passed plain_marks 46 no-point after [] (after_marks after a) in
    let whole : after ++ [] ≡ after = append-nil after in rw (e.0, e.1) (ap (places 46) (sym whole) ∙ none)

edited-is : (marks : List ℕ) (form : Form) → IsEdited marks form → form ≡ edited_form marks
edited-is marks form n =
    let tail = edited-tail n.decimals n.point n.after n.point_is n.after_is in
    let through : places 46 (n.before ++ (n.currency ++ (n.body ++ (n.point ++ (replicate n.decimals 57 ++ n.after))))) ≡ n.decimals =
    passed plain_marks 46 no-point n.before _ (before_marks n.before n.before_is) ∙ passed plain_marks 46 no-point n.currency _ (currency_marks n.currency n.currency_is)
    ∙ passed plain_marks 46 no-point n.body _ (body_marks n.body n.body_is) ∙ tail in
    let decimals : n.decimals ≡ places 46 marks = sym (ap (places 46) n.parts ∙ through) in
    n.is ∙ ap (λ d. record { kind = Edited; size = length marks; digits = count_by is_digit_mark marks; decimals = d; signed = false }) decimals

-- ---- one form

form-once : (marks : List ℕ) (form other : Form) → HasForm marks form → HasForm marks other → form ≡ other
form-once marks form other (inl f) (inl g) = f.is ∙ sym g.is
form-once marks form other (inl f) (inr (inl g)) = absurd (letters_numeric marks form other f g)
form-once marks form other (inl f) (inr (inr g)) = absurd (letters_edited marks form other f g)
form-once marks form other (inr (inl f)) (inl g) = absurd (letters_numeric marks other form g f)
form-once marks form other (inr (inl f)) (inr (inl g)) = numeric-is marks form f ∙ sym (numeric-is marks other g)
form-once marks form other (inr (inl f)) (inr (inr g)) = absurd (numeric_edited marks form other f g)
form-once marks form other (inr (inr f)) (inl g) = absurd (letters_edited marks other form g f)
form-once marks form other (inr (inr f)) (inr (inl g)) = absurd (numeric_edited marks other form g f)
form-once marks form other (inr (inr f)) (inr (inr g)) = edited-is marks form f ∙ sym (edited-is marks other g)

pub spells_once : (text marks other : List ℕ) (form second : Form) → Spells text marks form → Spells text other second → (marks ≡ other) × (form ≡ second)
spells_once text marks other form second one two =
    let same : marks ≡ other = writes_once one.0 two.0 in
    (same, form-once other form second (subst (λ m. HasForm m form) same one.1) two.1)

-- ---- whether there are decimals

-- those of a picture are those of the text that it was read from
pub whole_read : (text : List ℕ) (p : PictureValue) (marks : List ℕ) (form : Form) → Spells text marks form → p ≡ picture_of marks form → IsWhole text (p.decimals == 0)
whole_read text p marks form s e = (
  λ zero. (marks, form, s, sym (ap (λ q. q.decimals) e) ∙ zero_is p.decimals zero),
  λ spelled. (let same : form ≡ spelled.1 = (spells_once text marks spelled.0 form spelled.1 s spelled.2).1 in
      let none : p.decimals ≡ 0 = ap (λ q. q.decimals) e ∙ ap (λ f. f.decimals) same ∙ spelled.3 in rw none refl),
)

-- a text that spells nothing has none
pub whole_unread : (text : List ℕ) → ((marks : List ℕ) (form : Form) → Spells text marks form → ⊥) → IsWhole text false
whole_unread text none = (λ h. absurd (false≢true h), λ spelled. absurd (none spelled.0 spelled.1 spelled.2))
