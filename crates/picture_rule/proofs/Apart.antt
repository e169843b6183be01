-- The three categories have no marks in common.
use Rattle.std.proofs.Common.{◌≡◌, ℕ, ◌<◌, ◌⊎◌, inl, inr, Bool, true, false, List, [], ◌∷◌, replicate, refl, sym, subst}
use Rattle.std.specs.Prelude.{codes, ◌≢◌}
use Rattle.std.proofs.lemmas.Bool.{and_parts, and_from, or_cases, eqb-true, false≢true}
use Rattle.picture_rule.specs.Picture.{Form, is_among, AllAmong, OneOf, endings, IsStretch, IsBody, IsAlphanumeric, IsNumeric, IsEdited}
use Rattle.picture_rule.proofs.Extends.{all_append}
use Rattle.picture_rule.proofs.Parts.{replicate_among}
use Rattle.picture_rule.proofs.Bodies.{stretch_among}

-- one of the marks, told apart
abbrev pub Among : List ℕ → ℕ → Type 0
Among [] x = ⊥
Among (one ∷ others) x = (one ≡ x) ⊎ Among others x

pub among : (marks : List ℕ) (x : ℕ) → is_among marks x ≡ true → Among marks x
among [] x h = false≢true h
among (one ∷ others) x h = elim (or_cases _ _ h) [ inl e ↦ inl (eqb-true one x e) | inr e ↦ inr (among others x e) ]

pub widen : (a b xs : List ℕ) → ((x : ℕ) → is_among a x ≡ true → is_among b x ≡ true) → AllAmong a xs → AllAmong b xs
widen a b [] f h = refl
widen a b (x ∷ xs) f h = let parts = and_parts _ _ h in and_from _ _ (f x parts.0) (widen a b xs f parts.1)

meet : (a b d xs : List ℕ) → ((x : ℕ) → is_among a x ≡ true → is_among b x ≡ true → is_among d x ≡ true) → AllAmong a xs → AllAmong b xs → AllAmong d xs
meet a b d [] f h i = refl
meet a b d (x ∷ xs) f h i = let p = and_parts _ _ h in let q = and_parts _ _ i in and_from _ _ (f x p.0 q.0) (meet a b d xs f p.1 q.1)

none : (xs : List ℕ) → xs ≢ [] → AllAmong [] xs → ⊥
none [] not h = not refl
none (x ∷ xs) not h = false≢true h

abbrev pub number_marks : List ℕ
number_marks = codes "S9V"

abbrev pub edited_marks : List ℕ
edited_marks = codes "+-$Z*9,.CRDB"

sign_marks : (sign : List ℕ) (signed : Bool) → ((sign ≡ codes "S") × (signed ≡ true)) ⊎ ((sign ≡ []) × (signed ≡ false)) → AllAmong number_marks sign
sign_marks sign signed (inl e) = rw e.0 refl
sign_marks sign signed (inr e) = rw e.0 refl

point_marks : (point : List ℕ) (decimals : ℕ) → (point ≡ codes "V") ⊎ ((point ≡ []) × (decimals ≡ 0)) → AllAmong number_marks point
point_marks point decimals (inl e) = rw e refl
point_marks point decimals (inr e) = rw e.0 refl

nine : (b : List ℕ) → is_among b 57 ≡ true → (y : ℕ) → is_among (codes "9") y ≡ true → is_among b y ≡ true
nine b h y i = go (among (codes "9") y i)
  where
    go : Among (codes "9") y → is_among b y ≡ true
    go (inl e) = subst (λ z. is_among b z ≡ true) e h
    go (inr e) = absurd e

pub nines_among : (b : List ℕ) (n : ℕ) → is_among b 57 ≡ true → AllAmong b (replicate n 57)
nines_among b n h = widen (codes "9") b (replicate n 57) (nine b h) (replicate_among n 57)

pub numeric_among : (marks : List ℕ) (form : Form) → IsNumeric marks form → AllAmong number_marks marks
numeric_among marks form n = subst (λ m. AllAmong number_marks m) (sym n.parts)
    (all_append number_marks n.sign _ (sign_marks n.sign form.signed n.sign_is) (all_append number_marks (replicate n.whole 57) _ (nines_among number_marks n.whole refl)
    (all_append number_marks n.point _ (point_marks n.point n.decimals n.point_is) (nines_among number_marks n.decimals refl))))

-- the marks of an edited picture but the point
abbrev pub plain_marks : List ℕ
plain_marks = codes "+-$Z*9,CRDB"

pub before_marks : (before : List ℕ) → OneOf ([] ∷ codes "+" ∷ codes "-" ∷ []) before → AllAmong plain_marks before
before_marks before (inl e) = rw e refl
before_marks before (inr (inl e)) = rw e refl
before_marks before (inr (inr (inl e))) = rw e refl
before_marks before (inr (inr (inr h))) = absurd h

pub currency_marks : (currency : List ℕ) → OneOf ([] ∷ codes "$" ∷ []) currency → AllAmong plain_marks currency
currency_marks currency (inl e) = rw e refl
currency_marks currency (inr (inl e)) = rw e refl
currency_marks currency (inr (inr h)) = absurd h

pub after_marks : (after : List ℕ) → OneOf endings after → AllAmong plain_marks after
after_marks after (inl e) = rw e refl
after_marks after (inr (inl e)) = rw e refl
after_marks after (inr (inr (inl e))) = rw e refl
after_marks after (inr (inr (inr (inl e)))) = rw e refl
after_marks after (inr (inr (inr (inr (inl e))))) = rw e refl
after_marks after (inr (inr (inr (inr (inr h))))) = absurd h

dot_marks : (point : List ℕ) (decimals : ℕ) → ((point ≡ codes ".") × (0 < decimals)) ⊎ ((point ≡ []) × (decimals ≡ 0)) → AllAmong edited_marks point
dot_marks point decimals (inl e) = rw e.0 refl
dot_marks point decimals (inr e) = rw e.0 refl

-- a stretch of a symbol that edited pictures have
stretch_marks : (symbol : ℕ) (marks : List ℕ) → is_among plain_marks symbol ≡ true → IsStretch symbol marks → AllAmong plain_marks marks
stretch_marks symbol marks h s = widen (symbol ∷ codes ",") plain_marks marks (λ x i. go x (among (symbol ∷ codes ",") x i)) (stretch_among symbol marks s)
  where
    go : (x : ℕ) → Among (symbol ∷ codes ",") x → is_among plain_marks x ≡ true
    go x (inl e) = subst (λ z. is_among plain_marks z ≡ true) e h
    go x (inr (inl e)) = subst (λ z. is_among plain_marks z ≡ true) e refl
    go x (inr (inr e)) = absurd e

pub body_marks : (body : List ℕ) → IsBody body → AllAmong plain_marks body
body_marks body b = subst (λ m. AllAmong plain_marks m) (sym b.parts)
    (all_append plain_marks b.commas _ (widen (codes ",") plain_marks b.commas (λ x i. comma x (among (codes ",") x i)) b.commas_are)
    (all_append plain_marks b.suppressed _ (stretch_marks b.fill b.suppressed (fill b.fill_is) b.suppressed_is) (stretch_marks 57 b.shown refl b.shown_is)))
  where
    comma : (x : ℕ) → Among (codes ",") x → is_among plain_marks x ≡ true
    comma x (inl e) = subst (λ z. is_among plain_marks z ≡ true) e refl
    comma x (inr e) = absurd e

    fill : (b.fill ≡ 90) ⊎ (b.fill ≡ 42) → is_among plain_marks b.fill ≡ true
    fill (inl e) = rw e refl
    fill (inr e) = rw e refl

plain_edited : (y : ℕ) → is_among plain_marks y ≡ true → is_among edited_marks y ≡ true
plain_edited y h = go (among plain_marks y h)
  where
    go : Among plain_marks y → is_among edited_marks y ≡ true
    go (inl e) = subst (λ z. is_among edited_marks z ≡ true) e refl
    go (inr (inl e)) = subst (λ z. is_among edited_marks z ≡ true) e refl
    go (inr (inr (inl e))) = subst (λ z. is_among edited_marks z ≡ true) e refl
    go (inr (inr (inr (inl e)))) = subst (λ z. is_among edited_marks z ≡ true) e refl
    go (inr (inr (inr (inr (inl e))))) = subst (λ z. is_among edited_marks z ≡ true) e refl
    go (inr (inr (inr (inr (inr (inl e)))))) = subst (λ z. is_among edited_marks z ≡ true) e refl
    go (inr (inr (inr (inr (inr (inr (inl e))))))) = subst (λ z. is_among edited_marks z ≡ true) e refl
    go (inr (inr (inr (inr (inr (inr (inr (inl e)))))))) = subst (λ z. is_among edited_marks z ≡ true) e refl
    go (inr (inr (inr (inr (inr (inr (inr (inr (inl e))))))))) = subst (λ z. is_among edited_marks z ≡ true) e refl
    go (inr (inr (inr (inr (inr (inr (inr (inr (inr (inl e)))))))))) = subst (λ z. is_among edited_marks z ≡ true) e refl
    go (inr (inr (inr (inr (inr (inr (inr (inr (inr (inr (inl e))))))))))) = subst (λ z. is_among edited_marks z ≡ true) e refl
    go (inr (inr (inr (inr (inr (inr (inr (inr (inr (inr (inr e))))))))))) = absurd e

pub plain_all : (marks : List ℕ) → AllAmong plain_marks marks → AllAmong edited_marks marks
plain_all marks h = widen plain_marks edited_marks marks plain_edited h

pub edited_among : (marks : List ℕ) (form : Form) → IsEdited marks form → AllAmong edited_marks marks
edited_among marks form n = subst (λ m. AllAmong edited_marks m) (sym n.parts)
    (all_append edited_marks n.before _ (plain_all n.before (before_marks n.before n.before_is)) (all_append edited_marks n.currency _ (plain_all n.currency (currency_marks n.currency n.currency_is))
    (all_append edited_marks n.body _ (plain_all n.body (body_marks n.body n.body_is)) (all_append edited_marks n.point _ (dot_marks n.point n.decimals n.point_is)
    (all_append edited_marks (replicate n.decimals 57) _ (nines_among edited_marks n.decimals refl) (plain_all n.after (after_marks n.after n.after_is)))))))

-- ---- no marks are of two categories

pub letters_numeric : (marks : List ℕ) (f g : Form) → IsAlphanumeric marks f → IsNumeric marks g → ⊥
letters_numeric marks f g a n = none marks a.some (meet (codes "XA") number_marks [] marks (λ x h i. go x (among (codes "XA") x h) i) a.letters (numeric_among marks g n))
  where
    go : (x : ℕ) → Among (codes "XA") x → is_among number_marks x ≡ true → is_among [] x ≡ true
    go x (inl e) i = subst (λ z. is_among number_marks z ≡ true) (sym e) i
    go x (inr (inl e)) i = subst (λ z. is_among number_marks z ≡ true) (sym e) i
    go x (inr (inr e)) i = absurd e

pub letters_edited : (marks : List ℕ) (f g : Form) → IsAlphanumeric marks f → IsEdited marks g → ⊥
letters_edited marks f g a n = none marks a.some (meet (codes "XA") edited_marks [] marks (λ x h i. go x (among (codes "XA") x h) i) a.letters (edited_among marks g n))
  where
    go : (x : ℕ) → Among (codes "XA") x → is_among edited_marks x ≡ true → is_among [] x ≡ true
    go x (inl e) i = subst (λ z. is_among edited_marks z ≡ true) (sym e) i
    go x (inr (inl e)) i = subst (λ z. is_among edited_marks z ≡ true) (sym e) i
    go x (inr (inr e)) i = absurd e

pub numeric_edited : (marks : List ℕ) (f g : Form) → IsNumeric marks f → IsEdited marks g → ⊥
numeric_edited marks f g n e = e.not_numeric (meet number_marks edited_marks (codes "9") marks (λ x h i. go x (among number_marks x h) i) (numeric_among marks f n) (edited_among marks g e))
  where
    go : (x : ℕ) → Among number_marks x → is_among edited_marks x ≡ true → is_among (codes "9") x ≡ true
    go x (inl e) i = absurd (false≢true (subst (λ z. is_among edited_marks z ≡ true) (sym e) i))
    go x (inr (inl e)) i = subst (λ z. is_among (codes "9") z ≡ true) e refl
    go x (inr (inr (inl e))) i = absurd (false≢true (subst (λ z. is_among edited_marks z ≡ true) (sym e) i))
    go x (inr (inr (inr e))) i = absurd e
