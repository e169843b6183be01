-- Reading a form gives what it spells, and nothing else: once for all forms.
use Rattle.std.proofs.Common.{nat_eq, ◌≡◌, ℕ, zero, suc, ◌≤◌, ◌<◌, ◌⊎◌, inl, inr, Bool, true, false, cond, List, [], ◌∷◌, length, Option, Some, None, Ok, Err, refl, sym, ap, ◌∙◌, arith}
use Rattle.std.specs.Prelude.{◌||◌, ◌&&◌}
use Rattle.std.proofs.lemmas.Bool.Decides.{nat_tests}
use Rattle.cob_base.specs.declared.parse_fault.Misfit.TheVariants.{Nesting, NoFit}
use Rattle.cob_base.specs.declared.tokens.Token.{Token}
use Rattle.cob_base.specs.Form.{Form, Words, is_there, at_word, Follows, ended, passes_mark, again, starts, opens, IsWord, from_first, IsMore, IsSome, IsOptional, IsDeepMore, Spells, Deep}
use Rattle.phrase_parser.specs.Reading.{Outcome, ◌>>=◌, read_as, read_word, read_more, read_some, read_optional, read}

-- ---- what is spelled takes words

abbrev Takes : Bool → Words → Words → Type 0
Takes true w rest = length rest < length w
Takes false w rest = length rest ≤ length w

Takes-some : (b : Bool) (w rest : Words) → Takes b w rest → length rest ≤ length w
Takes-some true w rest h = omega arith
Takes-some false w rest h = h

Takes-both : (b c : Bool) (w mid rest : Words) → Takes b w mid → Takes c mid rest → Takes (b || c) w rest
Takes-both true true w mid rest h i = omega arith
Takes-both true false w mid rest h i = omega arith
Takes-both false true w mid rest h i = omega arith
Takes-both false false w mid rest h i = omega arith

Takes-first : (b c : Bool) (w rest : Words) → Takes b w rest → Takes (b && c) w rest
Takes-first true true w rest h = h
Takes-first true false w rest h = omega arith
Takes-first false c w rest h = h

Takes-second : (b c : Bool) (w rest : Words) → Takes c w rest → Takes (b && c) w rest
Takes-second true c w rest h = h
Takes-second false true w rest h = omega arith
Takes-second false false w rest h = h

same : (w rest : Words) → w ≡ rest → length rest ≤ length w
same w rest e = omega (arith, ap length e)

takes_word : {A : Type 0} (p : Token → Option A) (w : Words) (x : A) (rest : Words) → IsWord p w x rest → length rest < length w
takes_word p [] x rest h = absurd h
takes_word p (v ∷ w) x rest h = omega (arith, ap length h.1)

module _ {A : Type 0} (opened : Words → Bool) (Is : Words → A → Words → Type 0) (takes_one : (w : Words) (x : A) (rest : Words) → Is w x rest → length rest < length w) where
  takes_more : (w : Words) (xs : List A) (rest : Words) → IsMore opened Is w xs rest → length rest ≤ length w
  takes_more w [] rest h = same w rest h.1
  takes_more w (x ∷ xs) rest h = omega (arith, takes_one w x h.1 h.2, takes_more h.1 xs rest h.3)

  takes_some : (w : Words) (xs : List A) (rest : Words) → IsSome opened Is w xs rest → length rest < length w
  takes_some w [] rest h = absurd h
  takes_some w (x ∷ xs) rest h = omega (arith, takes_one w x h.0 h.1, takes_more h.0 xs rest h.2)

takes_optional : {A : Type 0} (opened : Words → Bool) (Is : Words → A → Words → Type 0) (takes_one : (w : Words) (x : A) (rest : Words) → Is w x rest → length rest ≤ length w)
    → (w : Words) (x : Option A) (rest : Words) → IsOptional opened Is w x rest → length rest ≤ length w
takes_optional opened Is takes_one w (Some x) rest h = takes_one w x rest h.1
takes_optional opened Is takes_one w None rest h = same w rest h.1

no_longer : (b : Bool) (v : Token) (w more : Words) → length more ≤ length w → length (cond b (v ∷ w) more) ≤ length (v ∷ w)
no_longer true v w more h = omega arith
no_longer false v w more h = omega (arith, h)

from_first_takes : (p : Token → Bool) (w : Words) → length (from_first p w) ≤ length w
from_first_takes p [] = omega arith
from_first_takes p (v ∷ w) = no_longer (p v) v w (from_first p w) (from_first_takes p w)

takes_up_to : (p : Token → Bool) (w rest : Words) → from_first p w ≡ rest → length rest ≤ length w
takes_up_to p w rest e = omega (arith, from_first_takes p w, ap length e)

pub takes : {b : Bool} {A : Type 0} (f : Form b A) (w : Words) (x : A) (rest : Words) → Spells f w x rest → Takes b w rest
takes (Form.word p) w x rest h = takes_word p w x rest h
takes (Form.mark p) w x rest h = takes_word p w x rest h
takes (Form.part f) w x rest h = takes f w x rest h
takes (Form.opened_by p f) w x rest h = takes f w x rest h
takes Form.nothing w x rest h = same w rest h
takes (Form.up_to p) w x rest h = takes_up_to p w rest h
takes (Form.both {b = b} {c = c} f g) w x rest h = Takes-both b c w h.0 rest (takes f w x.0 h.0 h.1) (takes g h.0 x.1 rest h.2)
takes (Form.after {b = b} {c = c} f g) w y rest h = Takes-both b c w h.1 rest (takes f w h.0 h.1 h.2) (takes g h.1 y rest h.3)
takes (Form.made h f) w y rest s = takes f w s.0 rest s.1
takes (Form.either {b = b} {c = c} f g) w x rest (inl s) = Takes-first b c w rest (takes f w x rest s.1)
takes (Form.either {b = b} {c = c} f g) w x rest (inr s) = Takes-second b c w rest (takes g w x rest s.1)
takes (Form.optional {b = b} f) w x rest h = takes_optional (opens f) (Spells f) (λ v y r s. Takes-some b v r (takes f v y r s)) w x rest h
takes (Form.some f) w x rest h = takes_some (opens f) (Spells f) (takes f) w x rest h
takes (Form.too_deep f) w x rest h = absurd h

-- ---- what is spelled is read, and what nests too deep is found to

reads_word : {A : Type 0} (p : Token → Option A) (w : Words) (x : A) (rest : Words) → IsWord p w x rest → read_word p w ≡ Ok (x, rest)
reads_word p [] x rest h = absurd h
reads_word p (v ∷ w) x rest h = rw (h.0, h.1) refl

-- what is to be known of the parts of a list or of an optional part
record Reads {A : Type 0} (Is : Words → A → Words → Type 0) (Deeper : Words → Type 0) (one : Words → Outcome A) : Type 0 where
  pub spelled : (w : Words) (x : A) (rest : Words) → Is w x rest → one w ≡ Ok (x, rest)
  pub deeper : (w : Words) → Deeper w → one w ≡ Err Nesting

module _ {A : Type 0} (opened : Words → Bool) (Is : Words → A → Words → Type 0) (Deeper : Words → Type 0) (one : Words → Outcome A)
    (takes_one : (w : Words) (x : A) (rest : Words) → Is w x rest → length rest < length w) (part : Reads Is Deeper one) where
  reads_more : (w : Words) (xs : List A) (rest : Words) (n : ℕ) → length w ≤ n → IsMore opened Is w xs rest → read_more opened one n w ≡ Ok (xs, rest)
  unfolding read_more
  reads_more w [] rest zero le h = rw h.1 refl
  reads_more w [] rest (suc n) le h = rw (h.0, h.1) refl
  reads_more w (x ∷ xs) rest zero le h = absurd (omega (arith, takes_one w x h.1 h.2))
  reads_more w (x ∷ xs) rest (suc n) le h = rw (h.0, part.spelled w x h.1 h.2, reads_more h.1 xs rest n (omega (arith, takes_one w x h.1 h.2)) h.3) refl

  reads_some : (w : Words) (xs : List A) (rest : Words) → IsSome opened Is w xs rest → read_some opened one w ≡ Ok (xs, rest)
  unfolding read_some
  reads_some w [] rest h = absurd h
  reads_some w (x ∷ xs) rest h = rw (part.spelled w x h.0 h.1, reads_more h.0 xs rest (length h.0) (omega arith) h.2) refl

  reads_deep_more : (opens_words : (w : Words) → opened w ≡ true → 0 < length w) {w : Words} → IsDeepMore opened Is Deeper w → (n : ℕ) → length w ≤ n → read_more opened one n w ≡ Err Nesting
  unfolding read_more
  reads_deep_more opens_words (IsDeepMore.next {w = w} e d) zero le = absurd (omega (arith, opens_words w e))
  reads_deep_more opens_words (IsDeepMore.next {w = w} e d) (suc n) le = rw (e, part.deeper w d) refl
  reads_deep_more opens_words (IsDeepMore.later {x = x} {w = w} {mid = mid} e s d) zero le = absurd (omega (arith, opens_words w e))
  reads_deep_more opens_words (IsDeepMore.later {x = x} {w = w} {mid = mid} e s d) (suc n) le = rw (e, part.spelled w x mid s, reads_deep_more opens_words d n (omega (arith, takes_one w x mid s))) refl

reads_optional : {A : Type 0} (opened : Words → Bool) (Is : Words → A → Words → Type 0) (one : Words → Outcome A)
    → ((w : Words) (x : A) (rest : Words) → Is w x rest → one w ≡ Ok (x, rest))
    → (w : Words) (x : Option A) (rest : Words) → IsOptional opened Is w x rest → read_optional (opened w) (one w) w ≡ Ok (x, rest)
reads_optional opened Is one part w (Some x) rest h = rw (h.0, part w x rest h.1) refl
reads_optional opened Is one part w None rest h = rw (h.0, h.1) refl

or_true : (a b : Bool) → (a || b) ≡ true → (a ≡ true) ⊎ (b ≡ true)
or_true true b e = inl refl
or_true false b e = inr e

mark_words : {A : Type 0} (p : Token → Option A) (next : Follows) (w : Words) → passes_mark p next w ≡ true → 0 < length w
mark_words p next [] e = absurd cc
mark_words p next (v ∷ w) e = omega arith

rule_words : (p : Token → Words → Bool) (w : Words) → at_word p w ≡ true → 0 < length w
rule_words p [] e = absurd cc
rule_words p (v ∷ w) e = omega arith

-- it needs a word, unless a needed mark was passed
abbrev Looks : Follows → Type 0
Looks next = (w : Words) → next false w ≡ true → 0 < length w

looks_again : (go : Follows → Follows) → ((next : Follows) → Looks next → Looks (go next)) → (next : Follows) → Looks next → (n : ℕ) → Looks (again go next n)
looks_again go keeps next h zero w e = h w e
looks_again go keeps next h (suc n) w e = elim (or_true (next false w) (go (again go next n) false w) e) [ inl l ↦ h w l | inr r ↦ keeps (again go next n) (looks_again go keeps next h n) w r ]

looks : {b : Bool} {A : Type 0} (f : Form b A) (next : Follows) → Looks next → Looks (starts f next)
looks (Form.word p) next h w e = rule_words (λ v after. is_there (p v)) w e
looks (Form.mark p) next h w e = mark_words p next w e
looks (Form.part f) next h w e = looks f ended (λ v n. absurd cc) w e
looks (Form.opened_by p f) next h w e = rule_words p w e
looks Form.nothing next h w e = h w e
looks (Form.up_to p) next h w e = h w e
looks (Form.both f g) next h w e = looks f (starts g next) (looks g next h) w e
looks (Form.after f g) next h w e = looks f (starts g next) (looks g next h) w e
looks (Form.made m f) next h w e = looks f next h w e
looks (Form.either f g) next h w e = elim (or_true (starts f next false w) (starts g next false w) e) [ inl l ↦ looks f next h w l | inr r ↦ looks g next h w r ]
looks (Form.optional f) next h w e = elim (or_true (next false w) (starts f (λ inside. next false) false w) e) [ inl l ↦ h w l | inr r ↦ looks f (λ inside. next false) h w r ]
looks (Form.some f) next h w e = looks f (again (starts f) next (length w)) (looks_again (starts f) (looks f) next h (length w)) w e
looks (Form.too_deep f) next h w e = looks f next h w e

pub opens_words : {b : Bool} {A : Type 0} (f : Form b A) (w : Words) → opens f w ≡ true → 0 < length w
opens_words f w e = looks f ended (λ v n. absurd cc) w e

pub reads : {b : Bool} {A : Type 0} (f : Form b A) (w : Words) (x : A) (rest : Words) → Spells f w x rest → read f w ≡ Ok (x, rest)
reads (Form.word p) w x rest h = reads_word p w x rest h
reads (Form.mark p) w x rest h = reads_word p w x rest h
reads (Form.part f) w x rest h = reads f w x rest h
reads (Form.opened_by p f) w x rest h = reads f w x rest h
reads Form.nothing w x rest h = rw h refl
reads (Form.up_to p) w x rest h = rw h refl
reads (Form.both f g) w x rest h = rw (reads f w x.0 h.0 h.1, reads g h.0 x.1 rest h.2) refl
reads (Form.after f g) w y rest h = rw (reads f w h.0 h.1 h.2, reads g h.1 y rest h.3) refl
reads (Form.made h f) w y rest s = rw (reads f w s.0 rest s.1, s.2) refl
reads (Form.either f g) w x rest (inl s) = rw (s.0, reads f w x rest s.1) refl
reads (Form.either f g) w x rest (inr s) = rw (s.0, reads g w x rest s.1) refl
reads (Form.optional f) w x rest h = reads_optional (opens f) (Spells f) (read f) (reads f) w x rest h
reads (Form.some f) w x rest h = reads_some (opens f) (Spells f) (λ v. ⊥) (read f) (takes f) (record { spelled = reads f; deeper = λ v d. absurd d }) w x rest h
reads (Form.too_deep f) w x rest h = absurd h

deep_first : {A : Type 0} (opened : Words → Bool) (one : Words → Outcome A) (w : Words) → one w ≡ Err Nesting → read_some opened one w ≡ Err Nesting
unfolding read_some
deep_first opened one w e = rw e refl

deep_later : {A : Type 0} (opened : Words → Bool) (Is : Words → A → Words → Type 0) (Deeper : Words → Type 0) (one : Words → Outcome A)
    → ((w : Words) (x : A) (rest : Words) → Is w x rest → length rest < length w) → Reads Is Deeper one → ((w : Words) → opened w ≡ true → 0 < length w)
    → (w : Words) (x : A) (mid : Words) → Is w x mid → IsDeepMore opened Is Deeper mid → read_some opened one w ≡ Err Nesting
unfolding read_some
deep_later opened Is Deeper one takes_one part long w x mid s d = rw (part.spelled w x mid s, reads_deep_more opened Is Deeper one takes_one part long d (length mid) (omega arith)) refl

pub finds_deep : {b : Bool} {A : Type 0} (f : Form b A) (w : Words) → Deep f w → read f w ≡ Err Nesting
finds_deep (Form.word p) w d = absurd d
finds_deep (Form.mark p) w d = absurd d
finds_deep (Form.part f) w d = finds_deep f w d
finds_deep (Form.opened_by p f) w d = finds_deep f w d
finds_deep Form.nothing w d = absurd d
finds_deep (Form.up_to p) w d = absurd d
finds_deep (Form.both f g) w (inl d) = rw (finds_deep f w d) refl
finds_deep (Form.both f g) w (inr d) = rw (reads f w d.0 d.1 d.2, finds_deep g d.1 d.3) refl
finds_deep (Form.after f g) w (inl d) = rw (finds_deep f w d) refl
finds_deep (Form.after f g) w (inr d) = rw (reads f w d.0 d.1 d.2, finds_deep g d.1 d.3) refl
finds_deep (Form.made h f) w d = rw (finds_deep f w d) refl
finds_deep (Form.either f g) w (inl d) = rw (d.0, finds_deep f w d.1) refl
finds_deep (Form.either f g) w (inr d) = rw (d.0, finds_deep g w d.1) refl
finds_deep (Form.optional f) w d = rw (d.0, finds_deep f w d.1) refl
finds_deep (Form.some f) w (inl d) = deep_first (opens f) (read f) w (finds_deep f w d)
finds_deep (Form.some f) w (inr d) = deep_later (opens f) (Spells f) (Deep f) (read f) (takes f) (record { spelled = reads f; deeper = finds_deep f }) (opens_words f) w d.0 d.1 d.2 d.3
finds_deep (Form.too_deep f) w d = rw d refl

-- ---- what is read is spelled, and what is found to nest too deep does

abbrev pub Sound : {A : Type 0} → (A → Words → Type 0) → Type 0 → Outcome A → Type 0
Sound Is Deeper (Ok x) = Is x.0 x.1
Sound Is Deeper (Err Nesting) = Deeper
Sound Is Deeper (Err NoFit) = Unit {0}

after : {A B : Type 0} (Is : A → Words → Type 0) (Deeper : Type 0) (Is' : B → Words → Type 0) (Deeper' : Type 0) (r : Outcome A) (f : A × Words → Outcome B)
    → Sound Is Deeper r → (Deeper → Deeper') → ((x : A) (rest : Words) → Is x rest → Sound Is' Deeper' (f (x, rest))) → Sound Is' Deeper' (r >>= f)
after Is Deeper Is' Deeper' (Ok x) f h deep go = go x.0 x.1 h
after Is Deeper Is' Deeper' (Err Nesting) f h deep go = deep h
after Is Deeper Is' Deeper' (Err NoFit) f h deep go = tt

by_test : {A : Type 0} (Is : A → Words → Type 0) (Deeper : Type 0) (b : Bool) (x y : Outcome A)
    → (b ≡ true → Sound Is Deeper x) → (b ≡ false → Sound Is Deeper y) → Sound Is Deeper (cond b x y)
by_test Is Deeper true x y f g = f refl
by_test Is Deeper false x y f g = g refl

-- the same facts, told otherwise
convert : {A : Type 0} (Is Is' : A → Words → Type 0) (Deeper Deeper' : Type 0) (r : Outcome A) → Sound Is Deeper r → (Deeper → Deeper') → ((x : A) (rest : Words) → Is x rest → Is' x rest) → Sound Is' Deeper' r
convert Is Is' Deeper Deeper' (Ok x) h deep go = go x.0 x.1 h
convert Is Is' Deeper Deeper' (Err Nesting) h deep go = deep h
convert Is Is' Deeper Deeper' (Err NoFit) h deep go = tt

sound_word : {A : Type 0} (p : Token → Option A) (w : Words) → Sound (IsWord p w) ⊥ (read_word p w)
sound_word p [] = tt
sound_word p (v ∷ w) = go (p v) refl
  where
    go : (o : Option _) → p v ≡ o → Sound (IsWord p (v ∷ w)) ⊥ (read_as o w)
    go (Some x) e = (e, refl)
    go None e = tt

module _ {A : Type 0} (opened : Words → Bool) (Is : Words → A → Words → Type 0) (Deeper : Words → Type 0) (one : Words → Outcome A)
    (takes_one : (w : Words) (x : A) (rest : Words) → Is w x rest → length rest < length w)
    (opens_long : (w : Words) → opened w ≡ true → 0 < length w)
    (part : (w : Words) → Sound (Is w) (Deeper w) (one w)) where
  sound_more : (n : ℕ) (w : Words) → length w ≤ n → Sound (IsMore opened Is w) (IsDeepMore opened Is Deeper w) (read_more opened one n w)
  unfolding read_more
  sound_more zero w le = (closed (opened w) refl, refl)
    where
      closed : (b : Bool) → opened w ≡ b → opened w ≡ false
      closed true e = absurd (omega (arith, opens_long w e))
      closed false e = e
  sound_more (suc n) w le =
      by_test _ _ (opened w) _ _
      (λ e.
      after _ _ _ _ (one w) _ (part w) (IsDeepMore.next e) λ x mid p.
      after _ _ _ _ (read_more opened one n mid) _ (sound_more n mid (omega (arith, takes_one w x mid p))) (IsDeepMore.later e p) λ xs rest q.
      (e, mid, p, q))
      (λ e. (e, refl))

  sound_some : (w : Words) → Sound (IsSome opened Is w) (Deeper w ⊎ ((x : A) × (mid : Words) × Is w x mid × IsDeepMore opened Is Deeper mid)) (read_some opened one w)
  unfolding read_some
  sound_some w =
      after _ _ _ _ (one w) _ (part w) (λ d. inl d) λ x mid p.
      after _ _ _ _ (read_more opened one (length mid) mid) _ (sound_more (length mid) mid (omega arith)) (λ d. inr (x, mid, p, d)) λ xs rest q.
      (mid, p, q)

pub sound : {b : Bool} {A : Type 0} (f : Form b A) (w : Words) → Sound (Spells f w) (Deep f w) (read f w)
sound (Form.word p) w = sound_word p w
sound (Form.mark p) w = sound_word p w
sound (Form.part f) w = sound f w
sound (Form.opened_by p f) w = sound f w
sound Form.nothing w = refl
sound (Form.up_to p) w = refl
sound (Form.both f g) w =
    after _ _ _ _ (read f w) _ (sound f w) (λ d. inl d) λ x mid p.
    after _ _ _ _ (read g mid) _ (sound g mid) (λ d. inr (x, mid, p, d)) λ y rest q.
    (mid, p, q)
sound (Form.after f g) w =
    after _ _ _ _ (read f w) _ (sound f w) (λ d. inl d) λ x mid p.
    convert _ _ _ _ (read g mid) (sound g mid) (λ d. inr (x, mid, p, d)) (λ y rest q. (x, mid, p, q))
sound (Form.made h f) w =
    after _ _ _ _ (read f w) _ (sound f w) (λ d. d) λ x rest p.
    (x, p, refl)
sound (Form.either f g) w =
    by_test _ _ (opens f w) _ _
    (λ e. convert _ _ _ _ (read f w) (sound f w) (λ d. inl (e, d)) (λ x rest p. inl (e, p)))
    (λ e. convert _ _ _ _ (read g w) (sound g w) (λ d. inr (e, d)) (λ x rest p. inr (e, p)))
sound (Form.optional f) w =
    by_test _ _ (opens f w) _ _
    (λ e. after _ _ _ _ (read f w) _ (sound f w) (λ d. (e, d)) λ x rest p. (e, p))
    (λ e. (e, refl))
sound (Form.some f) w = sound_some (opens f) (Spells f) (Deep f) (read f) (takes f) (opens_words f) (sound f) w
sound (Form.too_deep f) w = by_test _ _ (opens f w) _ _ (λ e. e) (λ e. tt)

-- ---- so words spell one thing at most, and never where they nest too deep

pub first_is : {A : Type 0} (a b : A) (v w : Words) (r : Outcome A) → r ≡ Ok (a, v) → r ≡ Ok (b, w) → (a ≡ b) × (v ≡ w)
first_is a b v w r e f =
    let pair : ◌≡◌ {A = _ × Words} (a, v) (b, w) = cc in
    (ap (λ x. x.0) pair, ap (λ x. x.1) pair)

pub one_tree : {b : Bool} {A : Type 0} (f : Form b A) (w : Words) (x y : A) (v u : Words) → Spells f w x v → Spells f w y u → (x ≡ y) × (v ≡ u)
one_tree f w x y v u p q = first_is x y v u (read f w) (reads f w x v p) (reads f w y u q)

pub never_both : {b : Bool} {A : Type 0} (f : Form b A) (w : Words) (x : A) (rest : Words) → Spells f w x rest → ¬ (Deep f w)
never_both f w x rest p d = let e = sym (reads f w x rest p) ∙ finds_deep f w d in cc

no_words : (w : Words) → length w ≡ 0 → w ≡ []
no_words [] e = refl
no_words (v ∷ w) e = absurd (omega (arith, e))

pub none_left : (w : Words) → nat_eq (length w) 0 ≡ true → w ≡ []
none_left w e = no_words w (grind (arith, nat_tests))

pub some_left : (w : Words) → nat_eq (length w) 0 ≡ false → ¬ (w ≡ [])
some_left w e = λ f. let l : length w ≡ 0 = rw f refl in absurd (grind (arith, nat_tests))
