-- The digits of an edited picture before its point, part by part.
use Rattle.std.proofs.Common.{◌≡◌, ℕ, ◌+◌, ◌<◌, ◌⊎◌, inl, inr, true, false, List, [], ◌∷◌, ◌++◌, length, refl, sym, ap, subst, ◌∙◌, arith, append_assoc, length-append, nat_eq}
use Rattle.std.specs.Prelude.{codes, count_by, min, ◌^◌, ◌-◌, ◌≢◌}
use Rattle.std.proofs.lemmas.Bool.{both_ways, and_parts, and_from, or_parts, or_cases, or_left, or_from, eq-eqb, eqb-true}
use Rattle.picture_rule.specs.Picture.{is_among, AllAmong, is_digit_mark, IsStretch, IsBody}
use Rattle.picture_rule.specs.Text.{Writes}
use Rattle.picture_rule.specs.Reading.{counted}
use Rattle.picture_rule.specs.Outline.{Begins}
use Rattle.picture_rule.specs.Span.{IsSpan, Reads}
use Rattle.picture_rule.proofs.Extends.{count-append}
use Rattle.picture_rule.proofs.Parts.{takes, begins, one_of}

-- the four stretches that a text begins with
pub record BodySpans (text commas zs stars shown rest : List ℕ) : Type 0 where
  pub after_commas : List ℕ
  pub after_zs : List ℕ
  pub after_stars : List ℕ
  pub commas_is : IsSpan (codes ",") text commas after_commas
  pub zs_is : IsSpan (codes "Z,") after_commas zs after_zs
  pub stars_is : IsSpan (codes "*,") after_zs stars after_stars
  pub shown_is : IsSpan (codes "9,") after_stars shown rest

pub stretch_among : (symbol : ℕ) (marks : List ℕ) → IsStretch symbol marks → AllAmong (symbol ∷ codes ",") marks
stretch_among symbol [] h = refl
stretch_among symbol (mark ∷ marks) h = and_from _ _ (or_left _ _ (eq-eqb symbol mark (sym h.0))) h.1

pub stretch_begins : (wanted : List ℕ) (symbol : ℕ) (marks others : List ℕ) → is_among wanted symbol ≡ false → Begins wanted others → IsStretch symbol marks → Begins wanted (marks ++ others)
stretch_begins wanted symbol [] others other b h = b
stretch_begins wanted symbol (mark ∷ marks) others other b h = subst (λ x. is_among wanted x ≡ false) (sym h.0) other

-- what begins with none of Z * 9 and comma
pub record BeginsNone (others : List ℕ) : Type 0 where
  pub comma : Begins (codes ",") others
  pub z : Begins (codes "Z,") others
  pub star : Begins (codes "*,") others
  pub nine : Begins (codes "9,") others

begins_none : (others : List ℕ) → Begins (codes "Z*9,") others → BeginsNone others
begins_none [] h = record { comma = tt; z = tt; star = tt; nine = tt }
begins_none (x ∷ others) h =
    let a = or_parts _ _ h in let b = or_parts _ _ a.1 in let c = or_parts _ _ b.1 in
    record { comma = c.1; z = or_from _ _ a.0 c.1; star = or_from _ _ b.0 c.1; nine = or_from _ _ c.0 c.1 }

-- The spans are the parts of the body: its suppressed digits are the Zs or the stars, and the other of these is empty.
pub record AreBody (commas zs stars shown rest others : List ℕ) {body : List ℕ} (b : IsBody body) : Type 0 where
  pub same_commas : commas ≡ b.commas
  pub same_suppressed : ((zs ≡ b.suppressed) × (stars ≡ [])) ⊎ ((zs ≡ []) × (stars ≡ b.suppressed))
  pub same_shown : shown ≡ b.shown
  pub left : Writes rest others

pub body_only : (text commas zs stars shown rest body others : List ℕ) → BodySpans text commas zs stars shown rest → Writes text (body ++ others) → (b : IsBody body) → Begins (codes "Z*9,") others
    → AreBody commas zs stars shown rest others b
body_only text commas zs stars shown rest body others s w b o =
    let none = begins_none others o in
    let grouped : body ++ others ≡ b.commas ++ (b.suppressed ++ (b.shown ++ others)) =
    ap (λ m. m ++ others) b.parts ∙ append_assoc b.commas (b.suppressed ++ b.shown) others ∙ ap (λ m. b.commas ++ m) (append_assoc b.suppressed b.shown others) in
    let begun : Begins (codes ",") (b.suppressed ++ (b.shown ++ others)) =
    stretch_begins (codes ",") b.fill b.suppressed _ (no_comma b.fill b.fill_is) (stretch_begins (codes ",") 57 b.shown others refl none.comma b.shown_is) b.suppressed_is in
    let first = takes _ text commas s.after_commas b.commas _ s.commas_is (subst (λ m. Writes text m) grouped w) b.commas_are begun in
    go none first.same first.left b.fill_is
  where
    no_comma : (fill : ℕ) → (fill ≡ 90) ⊎ (fill ≡ 42) → is_among (codes ",") fill ≡ false
    no_comma fill (inl e) = rw e refl
    no_comma fill (inr e) = rw e refl

    stretch_of : (symbol : ℕ) → b.fill ≡ symbol → IsStretch symbol b.suppressed
    stretch_of symbol e = subst (λ x. IsStretch x b.suppressed) e b.suppressed_is

    go : BeginsNone others → commas ≡ b.commas → Writes s.after_commas (b.suppressed ++ (b.shown ++ others)) → (b.fill ≡ 90) ⊎ (b.fill ≡ 42) → AreBody commas zs stars shown rest others b
    go none c left (inl e) =
        let z = takes (codes "Z,") s.after_commas zs s.after_zs b.suppressed (b.shown ++ others) s.zs_is left (stretch_among 90 b.suppressed (stretch_of 90 e)) (stretch_begins (codes "Z,") 57 b.shown others refl none.z b.shown_is) in
        let t = takes (codes "*,") s.after_zs stars s.after_stars [] (b.shown ++ others) s.stars_is z.left refl (stretch_begins (codes "*,") 57 b.shown others refl none.star b.shown_is) in
        let n = takes (codes "9,") s.after_stars shown rest b.shown others s.shown_is t.left (stretch_among 57 b.shown b.shown_is) none.nine in
        record { same_commas = c; same_suppressed = inl (z.same, t.same); same_shown = n.same; left = n.left }
    go none c left (inr e) =
        let z = takes (codes "Z,") s.after_commas zs s.after_zs [] (b.suppressed ++ (b.shown ++ others)) s.zs_is left refl
        (stretch_begins (codes "Z,") 42 b.suppressed _ refl (stretch_begins (codes "Z,") 57 b.shown others refl none.z b.shown_is) (stretch_of 42 e)) in
        let t = takes (codes "*,") s.after_zs stars s.after_stars b.suppressed (b.shown ++ others) s.stars_is z.left (stretch_among 42 b.suppressed (stretch_of 42 e)) (stretch_begins (codes "*,") 57 b.shown others refl none.star b.shown_is) in
        let n = takes (codes "9,") s.after_stars shown rest b.shown others s.shown_is t.left (stretch_among 57 b.shown b.shown_is) none.nine in
        record { same_commas = c; same_suppressed = inr (z.same, t.same); same_shown = n.same; left = n.left }

-- ---- the counts

no_digit : (marks : List ℕ) → AllAmong (codes ",") marks → count_by is_digit_mark marks ≡ 0
no_digit [] h = refl
no_digit (mark ∷ marks) h = let parts = and_parts _ _ h in
    let head : count_by is_digit_mark (mark ∷ []) ≡ 0 = ap (λ m. count_by is_digit_mark (m ∷ [])) (one_of 44 mark parts.0) in
    let tails : count_by is_digit_mark marks ≡ 0 = no_digit marks parts.1 in
    omega (arith, count-append (mark ∷ []) marks)

-- the lengths and digits of the four spans, as they were counted
pub record BodyCounts (commas zs stars shown : List ℕ) (c z t n dz dt dn : ℕ) : Type 0 where
  pub of_commas : c ≡ counted (length commas)
  pub of_zs : z ≡ counted (length zs)
  pub of_stars : t ≡ counted (length stars)
  pub of_shown : n ≡ counted (length shown)
  pub digits_zs : dz ≡ counted (count_by is_digit_mark zs)
  pub digits_stars : dt ≡ counted (count_by is_digit_mark stars)
  pub digits_shown : dn ≡ counted (count_by is_digit_mark shown)

abbrev pub capped : ℕ → ℕ
capped n = min n (2 ^ 64 - 1)

-- what is answered of them
abbrev pub length_of : ℕ → ℕ → ℕ → ℕ → ℕ
length_of c z t n = capped (c + capped (capped (z + t) + n))

abbrev pub digits_of : ℕ → ℕ → ℕ → ℕ
digits_of dz dt dn = capped (capped (dz + dt) + dn)

pub capped_sum : (a b : ℕ) → capped (capped a + capped b) ≡ capped (a + b)
capped_sum a b = omega arith

pub length_is : (commas zs stars shown : List ℕ) (c z t n dz dt dn : ℕ) → BodyCounts commas zs stars shown c z t n dz dt dn
    → length_of c z t n ≡ counted (length (commas ++ (zs ++ (stars ++ shown))))
length_is commas zs stars shown c z t n dz dt dn h =
    let inner : capped (z + t) ≡ capped (length zs + length stars) = rw (h.of_zs, h.of_stars) (capped_sum (length zs) (length stars)) in
    let more : capped (capped (z + t) + n) ≡ capped (length zs + length stars + length shown) = rw (inner, h.of_shown) (capped_sum (length zs + length stars) (length shown)) in
    let whole : length_of c z t n ≡ capped (length commas + (length zs + length stars + length shown)) = rw (more, h.of_commas) (capped_sum (length commas) (length zs + length stars + length shown)) in
    let sum : length commas + (length zs + length stars + length shown) ≡ length (commas ++ (zs ++ (stars ++ shown))) =
    omega (arith, length-append commas (zs ++ (stars ++ shown)), length-append zs (stars ++ shown), length-append stars shown) in
    whole ∙ ap capped sum

pub digits_is : (commas zs stars shown : List ℕ) (c z t n dz dt dn : ℕ) → AllAmong (codes ",") commas → BodyCounts commas zs stars shown c z t n dz dt dn
    → digits_of dz dt dn ≡ counted (count_by is_digit_mark (commas ++ (zs ++ (stars ++ shown))))
digits_is commas zs stars shown c z t n dz dt dn all h =
    let none = no_digit commas all in
    let cs = count-append commas (zs ++ (stars ++ shown)) in let zt = count-append zs (stars ++ shown) in let ts = count-append stars shown in
    let a = count_by is_digit_mark zs in let b = count_by is_digit_mark stars in let d = count_by is_digit_mark shown in
    let inner : capped (dz + dt) ≡ capped (a + b) = rw (h.digits_zs, h.digits_stars) (capped_sum a b) in
    let whole : digits_of dz dt dn ≡ capped (a + b + d) = rw (inner, h.digits_shown) (capped_sum (a + b) d) in
    let sum : a + b + d ≡ count_by is_digit_mark (commas ++ (zs ++ (stars ++ shown))) = omega (arith, none, cs, zt, ts) in
    whole ∙ ap capped sum

-- ---- what the spans give

pub reads_then : (text a middle b rest : List ℕ) → Reads text a middle → Reads middle b rest → Reads text (a ++ b) rest
reads_then text a middle b rest r s = record {
  forth = λ all w. (let first = r.forth all w in let second = s.forth first.0 first.2 in
      (second.0, first.1 ∙ ap (λ m. a ++ m) second.1 ∙ sym (append_assoc a b second.0), second.2));
  back = λ more w. subst (λ m. Writes text m) (sym (append_assoc a b more)) (r.back (b ++ more) (s.back more w));
}

pub body_reads : (text commas zs stars shown rest : List ℕ) → BodySpans text commas zs stars shown rest → Reads text (commas ++ (zs ++ (stars ++ shown))) rest
body_reads text commas zs stars shown rest s =
    reads_then _ commas s.after_commas _ _ s.commas_is.reads (reads_then _ zs s.after_zs _ _ s.zs_is.reads (reads_then _ stars s.after_stars shown rest s.stars_is.reads s.shown_is.reads))

-- marks among a symbol and commas that do not begin with a comma are a stretch of the symbol
stretch_from : (symbol : ℕ) (marks : List ℕ) → AllAmong (symbol ∷ codes ",") marks → Begins (codes ",") marks → IsStretch symbol marks
stretch_from symbol [] a b = tt
stretch_from symbol (mark ∷ marks) a b = let parts = and_parts _ _ a in
    (go (or_cases _ _ parts.0), parts.1)
  where
    go : (nat_eq symbol mark ≡ true) ⊎ (is_among (codes ",") mark ≡ true) → mark ≡ symbol
    go (inl e) = sym (eqb-true symbol mark e)
    go (inr e) = absurd (both_ways _ b e)

begins_front : (wanted marks more : List ℕ) → Begins wanted (marks ++ more) → Begins wanted marks
begins_front wanted [] more b = tt
begins_front wanted (mark ∷ marks) more b = b

-- the marks that the four spans read are a body, where not both Z and * occur
pub body_found : (text commas zs stars shown rest more : List ℕ) → BodySpans text commas zs stars shown rest → Writes rest more → (zs ≡ []) ⊎ (stars ≡ []) → 0 < length (commas ++ (zs ++ (stars ++ shown)))
    → IsBody (commas ++ (zs ++ (stars ++ shown)))
body_found text commas zs stars shown rest more s w one positive =
    let w3 : Writes s.after_stars (shown ++ more) = s.shown_is.reads.back more w in
    let w2 : Writes s.after_zs (stars ++ (shown ++ more)) = s.stars_is.reads.back _ w3 in
    let w1 : Writes s.after_commas (zs ++ (stars ++ (shown ++ more))) = s.zs_is.reads.back _ w2 in
    let no_z : Begins (codes ",") zs = begins_front (codes ",") zs _ (begins (codes ",") s.after_commas _ s.commas_is.stops w1) in
    let no_star : Begins (codes ",") stars = comma_of 90 stars (begins_front (codes "Z,") stars _ (begins (codes "Z,") s.after_zs _ s.zs_is.stops w2)) in
    let no_nine : Begins (codes ",") shown = comma_of 42 shown (begins_front (codes "*,") shown _ (begins (codes "*,") s.after_stars _ s.stars_is.stops w3)) in
    go no_z no_star no_nine one
  where
    comma_of : (symbol : ℕ) (marks : List ℕ) → Begins (symbol ∷ codes ",") marks → Begins (codes ",") marks
    comma_of symbol [] b = tt
    comma_of symbol (mark ∷ marks) b = (or_parts _ _ b).1

    not_empty : (marks : List ℕ) → 0 < length marks → marks ≢ []
    not_empty marks h e = omega (arith, ap length e)

    go : Begins (codes ",") zs → Begins (codes ",") stars → Begins (codes ",") shown → (zs ≡ []) ⊎ (stars ≡ []) → IsBody (commas ++ (zs ++ (stars ++ shown)))
    go a b d (inl e) = record {
      commas = commas;
      fill = 42;
      suppressed = stars;
      shown = shown;
      parts = ap (λ m. commas ++ (m ++ (stars ++ shown))) e;
      commas_are = s.commas_is.all;
      fill_is = inr refl;
      suppressed_is = stretch_from 42 stars s.stars_is.all b;
      shown_is = stretch_from 57 shown s.shown_is.all d;
      some = not_empty _ positive;
    }
    go a b d (inr e) = record {
      commas = commas;
      fill = 90;
      suppressed = zs;
      shown = shown;
      parts = ap (λ m. commas ++ (zs ++ (m ++ shown))) e;
      commas_are = s.commas_is.all;
      fill_is = inl refl;
      suppressed_is = stretch_from 90 zs s.zs_is.all a;
      shown_is = stretch_from 57 shown s.shown_is.all d;
      some = not_empty _ positive;
    }

-- ---- what the answers of the function take

pub record IsRead (commas zs stars shown rest body others : List ℕ) (c z t n dz dt dn : ℕ) : Type 0 where
  pub left : Writes rest others
  pub length_same : length_of c z t n ≡ counted (length body)
  pub digits_same : digits_of dz dt dn ≡ counted (count_by is_digit_mark body)
  pub not_both : (0 < z) → (0 < t) → ⊥
  pub some : 0 < length_of c z t n

pub body_read : (text commas zs stars shown rest body others : List ℕ) (c z t n dz dt dn : ℕ) → BodySpans text commas zs stars shown rest → BodyCounts commas zs stars shown c z t n dz dt dn
    → Writes text (body ++ others) → IsBody body → Begins (codes "Z*9,") others → IsRead commas zs stars shown rest body others c z t n dz dt dn
body_read text commas zs stars shown rest body others c z t n dz dt dn s k w b o =
    let are = body_only text commas zs stars shown rest body others s w b o in
    let whole : commas ++ (zs ++ (stars ++ shown)) ≡ body = same are are.same_suppressed in
    let len : length_of c z t n ≡ counted (length body) = length_is commas zs stars shown c z t n dz dt dn k ∙ ap (λ m. counted (length m)) whole in
    record {
      left = are.left;
      length_same = len;
      digits_same = digits_is commas zs stars shown c z t n dz dt dn s.commas_is.all k ∙ ap (λ m. counted (count_by is_digit_mark m)) whole;
      not_both = one are.same_suppressed;
      some = some_length body len b.some;
    }
  where
    same : AreBody commas zs stars shown rest others b → ((zs ≡ b.suppressed) × (stars ≡ [])) ⊎ ((zs ≡ []) × (stars ≡ b.suppressed)) → commas ++ (zs ++ (stars ++ shown)) ≡ body
    same are (inl e) = rw (e.0, e.1, are.same_commas, are.same_shown) (sym b.parts)
    same are (inr e) = rw (e.0, e.1, are.same_commas, are.same_shown) (sym b.parts)

    one : ((zs ≡ b.suppressed) × (stars ≡ [])) ⊎ ((zs ≡ []) × (stars ≡ b.suppressed)) → (0 < z) → (0 < t) → ⊥
    one (inl e) h i = omega (arith, k.of_stars, ap length e.1)
    one (inr e) h i = omega (arith, k.of_zs, ap length e.0)

    some_length : (body : List ℕ) → length_of c z t n ≡ counted (length body) → body ≢ [] → 0 < length_of c z t n
    some_length [] e not = absurd (not refl)
    some_length (x ∷ body) e not = rw e (omega arith)

-- one of two spans that do not both count is empty
pub one_empty : (zs stars : List ℕ) (z t : ℕ) → z ≡ counted (length zs) → t ≡ counted (length stars) → ((0 < z) → (0 < t) → ⊥) → (zs ≡ []) ⊎ (stars ≡ [])
one_empty [] stars z t a b h = inl refl
one_empty (x ∷ zs) [] z t a b h = inr refl
one_empty (x ∷ zs) (y ∷ stars) z t a b h = absurd (h (omega (arith, a)) (omega (arith, b)))
