-- Reading a form of entries gives what they read as, and stops where they stop: once for all forms.
use Rattle.std.proofs.Common.{◌≡◌, ℕ, zero, suc, ◌≤◌, ◌<◌, ◌⊎◌, inl, inr, Bool, true, false, cond, List, [], ◌∷◌, length, Option, Some, None, Ok, Err, ◌++◌, append_assoc, refl, sym, ap, subst, ◌∙◌, arith}
use Rattle.std.specs.Prelude.{not, ◌||◌, ◌&&◌}
use Rattle.cob_base.specs.declared.parse_fault.Misfit.{Misfit}
use Rattle.cob_base.specs.declared.parse_fault.Misfit.TheVariants.{Nesting, NoFit}
use Rattle.cob_base.specs.declared.line.Line.{Line}
use Rattle.cob_base.specs.declared.tokens.SeenEntry.{SeenEntry}
use Rattle.cob_base.specs.Form.{Form, Spells, Deep}
use Rattle.cob_base.specs.EntryForm.{EntryForm, Entries, opens_entry, begins, Fits, AreMore, AreSome, AreOptional, StopsMore, Reads, Misfits, Stops}
use Rattle.phrase_parser.specs.Reading.{Outcome, ◌>>=◌, read_more, read_some, read_optional, read}
use Rattle.phrase_parser.specs.EntryReading.{Stop, EntryOutcome, read_whole, read_entry, read_entries}
use Rattle.phrase_parser.specs.Laws.{line_at, AreLast, IsExact, IsDefinite}
use Rattle.phrase_parser.proofs.FormLaws as words

-- ---- what is read takes entries

abbrev Takes : Bool → Entries → Entries → Type 0
Takes true es rest = length rest < length es
Takes false es rest = length rest ≤ length es

Takes-some : (b : Bool) (es rest : Entries) → Takes b es rest → length rest ≤ length es
Takes-some true es rest h = omega arith
Takes-some false es rest h = h

Takes-both : (b c : Bool) (es mid rest : Entries) → Takes b es mid → Takes c mid rest → Takes (b || c) es rest
Takes-both true true es mid rest h i = omega arith
Takes-both true false es mid rest h i = omega arith
Takes-both false true es mid rest h i = omega arith
Takes-both false false es mid rest h i = omega arith

same : (es rest : Entries) → es ≡ rest → length rest ≤ length es
same es rest e = omega (arith, ap length e)

takes_entry : {A : Type 0} (f : Line → Form true A) (es : Entries) (x : A) (rest : Entries) → Fits f es x rest → length rest < length es
takes_entry f [] x rest h = absurd h
takes_entry f (e ∷ es) x rest h = omega (arith, ap length h.1)

module _ {A : Type 0} (begun : Entries → Bool) (Is : Entries → A → Entries → Type 0) (takes_one : (es : Entries) (x : A) (rest : Entries) → Is es x rest → length rest < length es) where
  takes_more : (es : Entries) (xs : List A) (rest : Entries) → AreMore begun Is es xs rest → length rest ≤ length es
  takes_more es [] rest h = same es rest h.1
  takes_more es (x ∷ xs) rest h = omega (arith, takes_one es x h.1 h.2, takes_more h.1 xs rest h.3)

  takes_some : (es : Entries) (xs : List A) (rest : Entries) → AreSome begun Is es xs rest → length rest < length es
  takes_some es [] rest h = absurd h
  takes_some es (x ∷ xs) rest h = omega (arith, takes_one es x h.0 h.1, takes_more h.0 xs rest h.2)

takes_optional : {A : Type 0} (begun : Entries → Bool) (Is : Entries → A → Entries → Type 0) (takes_one : (es : Entries) (x : A) (rest : Entries) → Is es x rest → length rest ≤ length es)
    → (es : Entries) (x : Option A) (rest : Entries) → AreOptional begun Is es x rest → length rest ≤ length es
takes_optional begun Is takes_one es (Some x) rest h = takes_one es x rest h.1
takes_optional begun Is takes_one es None rest h = same es rest h.1

pub takes : {b : Bool} {A : Type 0} (f : EntryForm b A) (es : Entries) (x : A) (rest : Entries) → Reads f es x rest → Takes b es rest
takes (EntryForm.entry f) es x rest h = takes_entry f es x rest h
takes (EntryForm.both {b = b} {c = c} f g) es x rest h = Takes-both b c es h.0 rest (takes f es x.0 h.0 h.1) (takes g h.0 x.1 rest h.2)
takes (EntryForm.after {b = b} {c = c} f g) es y rest h = Takes-both b c es h.1 rest (takes f es h.0 h.1 h.2) (takes g h.1 y rest h.3)
takes (EntryForm.made h f) es y rest s = takes f es s.0 rest s.1
takes (EntryForm.optional {b = b} f) es x rest h = takes_optional (begins f) (Reads f) (λ v y r s. Takes-some b v r (takes f v y r s)) es x rest h
takes (EntryForm.some f) es x rest h = takes_some (begins f) (Reads f) (takes f) es x rest h

-- ---- what begins has an entry

or_true : (a b : Bool) → (a || b) ≡ true → (a ≡ true) ⊎ (b ≡ true)
or_true true b e = inl refl
or_true false b e = inr e

and_second : (a b : Bool) → (a && b) ≡ true → b ≡ true
and_second true b e = e
and_second false b e = absurd cc

some_entry : {A : Type 0} (f : Line → Form true A) (es : Entries) → opens_entry f es ≡ true → 0 < length es
some_entry f [] e = absurd cc
some_entry f (v ∷ es) e = omega arith

pub begins_entries : {b : Bool} {A : Type 0} (f : EntryForm b A) (es : Entries) → begins f es ≡ true → 0 < length es
begins_entries (EntryForm.entry f) es e = some_entry f es e
begins_entries (EntryForm.both {b = b} f g) es e = elim (or_true (not b && begins g es) (begins f es) e) [ inl l ↦ begins_entries g es (and_second (not b) (begins g es) l) | inr r ↦ begins_entries f es r ]
begins_entries (EntryForm.after {b = b} f g) es e = elim (or_true (not b && begins g es) (begins f es) e) [ inl l ↦ begins_entries g es (and_second (not b) (begins g es) l) | inr r ↦ begins_entries f es r ]
begins_entries (EntryForm.made h f) es e = begins_entries f es e
begins_entries (EntryForm.optional f) es e = begins_entries f es e
begins_entries (EntryForm.some f) es e = begins_entries f es e

-- ---- what is to be read is read

reads_entry : {A : Type 0} (f : Line → Form true A) (es : Entries) (x : A) (rest : Entries) → Fits f es x rest → read_entry (λ line. read (f line)) es ≡ Ok (x, rest)
reads_entry f [] x rest h = absurd h
reads_entry f (e ∷ es) x rest h = rw (words.reads (f e.line) e.tokens x [] h.0, h.1) refl

module _ {A : Type 0} (begun : Entries → Bool) (Is : Entries → A → Entries → Type 0) (one : Entries → EntryOutcome A)
    (takes_one : (es : Entries) (x : A) (rest : Entries) → Is es x rest → length rest < length es)
    (reads_one : (es : Entries) (x : A) (rest : Entries) → Is es x rest → one es ≡ Ok (x, rest)) where
  reads_more : (es : Entries) (xs : List A) (rest : Entries) (n : ℕ) → length es ≤ n → AreMore begun Is es xs rest → read_more begun one n es ≡ Ok (xs, rest)
  unfolding read_more
  reads_more es [] rest zero le h = rw h.1 refl
  reads_more es [] rest (suc n) le h = rw (h.0, h.1) refl
  reads_more es (x ∷ xs) rest zero le h = absurd (omega (arith, takes_one es x h.1 h.2))
  reads_more es (x ∷ xs) rest (suc n) le h = rw (h.0, reads_one es x h.1 h.2, reads_more h.1 xs rest n (omega (arith, takes_one es x h.1 h.2)) h.3) refl

  reads_some : (es : Entries) (xs : List A) (rest : Entries) → AreSome begun Is es xs rest → read_some begun one es ≡ Ok (xs, rest)
  unfolding read_some
  reads_some es [] rest h = absurd h
  reads_some es (x ∷ xs) rest h = rw (reads_one es x h.0 h.1, reads_more h.0 xs rest (length h.0) (omega arith) h.2) refl

reads_optional : {A : Type 0} (begun : Entries → Bool) (Is : Entries → A → Entries → Type 0) (one : Entries → EntryOutcome A)
    → ((es : Entries) (x : A) (rest : Entries) → Is es x rest → one es ≡ Ok (x, rest))
    → (es : Entries) (x : Option A) (rest : Entries) → AreOptional begun Is es x rest → read_optional (begun es) (one es) es ≡ Ok (x, rest)
reads_optional begun Is one part es (Some x) rest h = rw (h.0, part es x rest h.1) refl
reads_optional begun Is one part es None rest h = rw (h.0, h.1) refl

pub reads : {b : Bool} {A : Type 0} (f : EntryForm b A) (es : Entries) (x : A) (rest : Entries) → Reads f es x rest → read_entries f es ≡ Ok (x, rest)
reads (EntryForm.entry f) es x rest h = reads_entry f es x rest h
reads (EntryForm.both f g) es x rest h = rw (reads f es x.0 h.0 h.1, reads g h.0 x.1 rest h.2) refl
reads (EntryForm.after f g) es y rest h = rw (reads f es h.0 h.1 h.2, reads g h.1 y rest h.3) refl
reads (EntryForm.made h f) es y rest s = rw (reads f es s.0 rest s.1, s.2) refl
reads (EntryForm.optional f) es x rest h = reads_optional (begins f) (Reads f) (read_entries f) (reads f) es x rest h
reads (EntryForm.some f) es x rest h = reads_some (begins f) (Reads f) (read_entries f) (takes f) (reads f) es x rest h

-- ---- what is read is to be read, and where reading stops the entries do

abbrev pub StopsHere : (Misfit → Entries → Type 0) → Stop → Type 0
StopsHere Halts stop = (at : Entries) × Halts stop.0 at × (line_at at ≡ stop.1)

abbrev pub Sound : {A : Type 0} → (A → Entries → Type 0) → (Misfit → Entries → Type 0) → EntryOutcome A → Type 0
Sound Is Halts (Ok x) = Is x.0 x.1
Sound Is Halts (Err stop) = StopsHere Halts stop

then : {A B : Type 0} (Is : A → Entries → Type 0) (Halts : Misfit → Entries → Type 0) (Is' : B → Entries → Type 0) (Halts' : Misfit → Entries → Type 0) (r : EntryOutcome A) (f : A × Entries → EntryOutcome B)
    → Sound Is Halts r → ((reason : Misfit) (at : Entries) → Halts reason at → Halts' reason at) → ((x : A) (rest : Entries) → Is x rest → Sound Is' Halts' (f (x, rest))) → Sound Is' Halts' (r >>= f)
then Is Halts Is' Halts' (Ok x) f h stops go = go x.0 x.1 h
then Is Halts Is' Halts' (Err stop) f h stops go = (h.0, stops stop.0 h.0 h.1, h.2)

by_test : {A : Type 0} (Is : A → Entries → Type 0) (Halts : Misfit → Entries → Type 0) (b : Bool) (x y : EntryOutcome A)
    → (b ≡ true → Sound Is Halts x) → (b ≡ false → Sound Is Halts y) → Sound Is Halts (cond b x y)
by_test Is Halts true x y f g = f refl
by_test Is Halts false x y f g = g refl

-- the same facts, told otherwise
convert : {A : Type 0} (Is Is' : A → Entries → Type 0) (Halts Halts' : Misfit → Entries → Type 0) (r : EntryOutcome A) → Sound Is Halts r
    → ((reason : Misfit) (at : Entries) → Halts reason at → Halts' reason at) → ((x : A) (rest : Entries) → Is x rest → Is' x rest) → Sound Is' Halts' r
convert Is Is' Halts Halts' (Ok x) h stops go = go x.0 x.1 h
convert Is Is' Halts Halts' (Err stop) h stops go = (h.0, stops stop.0 h.0 h.1, h.2)

not_spelled : {A : Type 0} (f : Line → Form true A) (e : SeenEntry) (es : Entries) (r : Outcome A) → read (f e.line) e.tokens ≡ r → words.Sound (Spells (f e.line) e.tokens) (Deep (f e.line) e.tokens) r
    → Sound (Fits f (e ∷ es)) (λ reason at. Misfits f reason (e ∷ es) × ((e ∷ es) ≡ at)) (read_whole e.line es r)
not_spelled f e es (Ok (x, [])) is h = (h, refl)
not_spelled f e es (Ok (x, v ∷ w)) is h =
    (e ∷ es, ((λ y s. let none : v ∷ w ≡ [] = (words.first_is x y (v ∷ w) [] (read (f e.line) e.tokens) is (words.reads (f e.line) e.tokens y [] s)).1 in cc, λ d. let two : ◌≡◌ {A = Outcome _} (Ok (x, v ∷ w)) (Err Nesting) = sym is ∙ words.finds_deep (f e.line) e.tokens d in cc), refl), refl)
not_spelled f e es (Err Nesting) is h = (e ∷ es, (h, refl), refl)
not_spelled f e es (Err NoFit) is h =
    (e ∷ es, ((λ y s. let two : ◌≡◌ {A = Outcome _} (Err NoFit) (Ok (y, [])) = sym is ∙ words.reads (f e.line) e.tokens y [] s in cc, λ d. let two : ◌≡◌ {A = Outcome _} (Err NoFit) (Err Nesting) = sym is ∙ words.finds_deep (f e.line) e.tokens d in cc), refl), refl)

sound_entry : {A : Type 0} (f : Line → Form true A) (es : Entries) → Sound (Fits f es) (λ reason at. Misfits f reason es × (es ≡ at)) (read_entry (λ line. read (f line)) es)
sound_entry f [] = ([], (tt, refl), refl)
sound_entry f (e ∷ es) = not_spelled f e es (read (f e.line) e.tokens) refl (words.sound (f e.line) e.tokens)

module _ {A : Type 0} (begun : Entries → Bool) (Is : Entries → A → Entries → Type 0) (Halts : Entries → Misfit → Entries → Type 0) (one : Entries → EntryOutcome A)
    (takes_one : (es : Entries) (x : A) (rest : Entries) → Is es x rest → length rest < length es)
    (begun_long : (es : Entries) → begun es ≡ true → 0 < length es)
    (part : (es : Entries) → Sound (Is es) (Halts es) (one es)) where
  sound_more : (n : ℕ) (es : Entries) → length es ≤ n → Sound (AreMore begun Is es) (λ reason at. StopsMore begun Is (λ v. Halts v reason at) es) (read_more begun one n es)
  unfolding read_more
  sound_more zero es le = (closed (begun es) refl, refl)
    where
      closed : (b : Bool) → begun es ≡ b → begun es ≡ false
      closed true e = absurd (omega (arith, begun_long es e))
      closed false e = e
  sound_more (suc n) es le =
      by_test _ _ (begun es) _ _
      (λ e.
      then _ _ _ _ (one es) _ (part es) (λ reason at. StopsMore.next e) λ x mid p.
      then _ _ _ _ (read_more begun one n mid) _ (sound_more n mid (omega (arith, takes_one es x mid p))) (λ reason at. StopsMore.later e p) λ xs rest q.
      (e, mid, p, q))
      (λ e. (e, refl))

  sound_some : (es : Entries) → Sound (AreSome begun Is es) (λ reason at. Halts es reason at ⊎ ((x : A) × (mid : Entries) × Is es x mid × StopsMore begun Is (λ v. Halts v reason at) mid)) (read_some begun one es)
  unfolding read_some
  sound_some es =
      then _ _ _ _ (one es) _ (part es) (λ reason at d. inl d) λ x mid p.
      then _ _ _ _ (read_more begun one (length mid) mid) _ (sound_more (length mid) mid (omega arith)) (λ reason at d. inr (x, mid, p, d)) λ xs rest q.
      (mid, p, q)

pub sound : {b : Bool} {A : Type 0} (f : EntryForm b A) (es : Entries) → Sound (Reads f es) (λ reason at. Stops f reason at es) (read_entries f es)
sound (EntryForm.entry f) es = sound_entry f es
sound (EntryForm.both f g) es =
    then _ _ _ _ (read_entries f es) _ (sound f es) (λ reason at d. inl d) λ x mid p.
    then _ _ _ _ (read_entries g mid) _ (sound g mid) (λ reason at d. inr (x, mid, p, d)) λ y rest q.
    (mid, p, q)
sound (EntryForm.after f g) es =
    then _ _ _ _ (read_entries f es) _ (sound f es) (λ reason at d. inl d) λ x mid p.
    convert _ _ _ _ (read_entries g mid) (sound g mid) (λ reason at d. inr (x, mid, p, d)) (λ y rest q. (x, mid, p, q))
sound (EntryForm.made h f) es =
    then _ _ _ _ (read_entries f es) _ (sound f es) (λ reason at d. d) λ x rest p.
    (x, p, refl)
sound (EntryForm.optional f) es =
    by_test _ _ (begins f es) _ _
    (λ e. then _ _ _ _ (read_entries f es) _ (sound f es) (λ reason at d. (e, d)) λ x rest p. (e, p))
    (λ e. (e, refl))
sound (EntryForm.some f) es = sound_some (begins f) (Reads f) (λ v reason at. Stops f reason at v) (read_entries f) (takes f) (begins_entries f) (sound f) es

-- ---- where the entries stop, reading does

finds_misfit : {A : Type 0} (f : Line → Form true A) (e : SeenEntry) (es : Entries) (r : Outcome A) → read (f e.line) e.tokens ≡ r → words.Sound (Spells (f e.line) e.tokens) (Deep (f e.line) e.tokens) r
    → Misfits f NoFit (e ∷ es) → read_whole e.line es r ≡ Err (NoFit, Some e.line)
finds_misfit f e es (Ok (x, [])) is h m = absurd (m.0 x h)
finds_misfit f e es (Ok (x, v ∷ w)) is h m = refl
finds_misfit f e es (Err Nesting) is h m = absurd (m.1 h)
finds_misfit f e es (Err NoFit) is h m = refl

finds_entry : {A : Type 0} (f : Line → Form true A) (reason : Misfit) (es : Entries) → Misfits f reason es → read_entry (λ line. read (f line)) es ≡ Err (reason, line_at es)
finds_entry f Nesting [] m = absurd m
finds_entry f Nesting (e ∷ es) m = rw (words.finds_deep (f e.line) e.tokens m) refl
finds_entry f NoFit [] m = refl
finds_entry f NoFit (e ∷ es) m = finds_misfit f e es (read (f e.line) e.tokens) refl (words.sound (f e.line) e.tokens) m

module _ {A : Type 0} (begun : Entries → Bool) (Is : Entries → A → Entries → Type 0) (StopsOne : Entries → Type 0) (one : Entries → EntryOutcome A) (stop : Stop)
    (takes_one : (es : Entries) (x : A) (rest : Entries) → Is es x rest → length rest < length es)
    (reads_one : (es : Entries) (x : A) (rest : Entries) → Is es x rest → one es ≡ Ok (x, rest))
    (stops_one : (es : Entries) → StopsOne es → one es ≡ Err stop)
    (begun_long : (es : Entries) → begun es ≡ true → 0 < length es) where
  finds_more : {es : Entries} → StopsMore begun Is StopsOne es → (n : ℕ) → length es ≤ n → read_more begun one n es ≡ Err stop
  unfolding read_more
  finds_more (StopsMore.next {es = es} e d) zero le = absurd (omega (arith, begun_long es e))
  finds_more (StopsMore.next {es = es} e d) (suc n) le = rw (e, stops_one es d) refl
  finds_more (StopsMore.later {x = x} {es = es} {mid = mid} e s d) zero le = absurd (omega (arith, begun_long es e))
  finds_more (StopsMore.later {x = x} {es = es} {mid = mid} e s d) (suc n) le = rw (e, reads_one es x mid s, finds_more d n (omega (arith, takes_one es x mid s))) refl

  finds_first : (es : Entries) → StopsOne es → read_some begun one es ≡ Err stop
  unfolding read_some
  finds_first es d = rw (stops_one es d) refl

  finds_later : (es : Entries) (x : A) (mid : Entries) → Is es x mid → StopsMore begun Is StopsOne mid → read_some begun one es ≡ Err stop
  unfolding read_some
  finds_later es x mid s d = rw (reads_one es x mid s, finds_more d (length mid) (omega arith)) refl

pub finds : {b : Bool} {A : Type 0} (f : EntryForm b A) (reason : Misfit) (at es : Entries) → Stops f reason at es → read_entries f es ≡ Err (reason, line_at at)
finds (EntryForm.entry f) reason at es d = let e : es ≡ at = d.1 in rw (← e) (finds_entry f reason es d.0)
finds (EntryForm.both f g) reason at es (inl d) = rw (finds f reason at es d) refl
finds (EntryForm.both f g) reason at es (inr d) = rw (reads f es d.0 d.1 d.2, finds g reason at d.1 d.3) refl
finds (EntryForm.after f g) reason at es (inl d) = rw (finds f reason at es d) refl
finds (EntryForm.after f g) reason at es (inr d) = rw (reads f es d.0 d.1 d.2, finds g reason at d.1 d.3) refl
finds (EntryForm.made h f) reason at es d = rw (finds f reason at es d) refl
finds (EntryForm.optional f) reason at es d = rw (d.0, finds f reason at es d.1) refl
finds (EntryForm.some f) reason at es (inl d) = finds_first (begins f) (Reads f) (Stops f reason at) (read_entries f) (reason, line_at at) (takes f) (reads f) (finds f reason at) (begins_entries f) es d
finds (EntryForm.some f) reason at es (inr d) =
    finds_later (begins f) (Reads f) (Stops f reason at) (read_entries f) (reason, line_at at) (takes f) (reads f) (finds f reason at) (begins_entries f) es d.0 d.1 d.2 d.3

-- ---- so entries read as one thing at most, or stop at one place for one reason at most, and never both

first_is : {A : Type 0} (a b : A) (v w : Entries) (r : EntryOutcome A) → r ≡ Ok (a, v) → r ≡ Ok (b, w) → (a ≡ b) × (v ≡ w)
first_is a b v w r e f =
    let pair : ◌≡◌ {A = _ × Entries} (a, v) (b, w) = cc in
    (ap (λ x. x.0) pair, ap (λ x. x.1) pair)

pub one_tree : {b : Bool} {A : Type 0} (f : EntryForm b A) (es : Entries) (x y : A) (v u : Entries) → Reads f es x v → Reads f es y u → (x ≡ y) × (v ≡ u)
one_tree f es x y v u p q = first_is x y v u (read_entries f es) (reads f es x v p) (reads f es y u q)

pub never_both : {b : Bool} {A : Type 0} (f : EntryForm b A) (es : Entries) (x : A) (rest : Entries) (reason : Misfit) (at : Entries) → Reads f es x rest → ¬ (Stops f reason at es)
never_both f es x rest reason at p d =
    let two : ◌≡◌ {A = EntryOutcome _} (Ok (x, rest)) (Err (reason, line_at at)) = sym (reads f es x rest p) ∙ finds f reason at es d in cc

-- two stops of one list of entries: both are where the part before fits, and what stands there does not
module _ {A : Type 0} (begun : Entries → Bool) (Is : Entries → A → Entries → Type 0) (StopsOne StopsOther : Entries → Type 0) (at place : Entries)
    (one_rest : (es : Entries) (x y : A) (v u : Entries) → Is es x v → Is es y u → (x ≡ y) × (v ≡ u))
    (never_one : (es : Entries) (x : A) (rest : Entries) → Is es x rest → ¬ (StopsOne es))
    (never_other : (es : Entries) (x : A) (rest : Entries) → Is es x rest → ¬ (StopsOther es))
    (part : (es : Entries) → StopsOne es → StopsOther es → at ≡ place) where
  place_more : {es : Entries} → StopsMore begun Is StopsOne es → StopsMore begun Is StopsOther es → at ≡ place
  place_more (StopsMore.next {es = es} e d) (StopsMore.next b c) = part es d c
  place_more (StopsMore.next {es = es} e d) (StopsMore.later {x = y} {mid = far} b t c) = absurd (never_one es y far t d)
  place_more (StopsMore.later {x = x} {es = es} {mid = mid} e s d) (StopsMore.next b c) = absurd (never_other es x mid s c)
  place_more (StopsMore.later {x = x} {es = es} {mid = mid} e s d) (StopsMore.later {x = y} {mid = far} b t c) =
      place_more d (subst (λ v. StopsMore begun Is StopsOther v) (sym (one_rest es x y mid far s t).1) c)

one_place : {b : Bool} {A : Type 0} (f : EntryForm b A) (es : Entries) (reason other : Misfit) (at place : Entries) → Stops f reason at es → Stops f other place es → at ≡ place
one_place (EntryForm.entry f) es reason other at place p q = sym p.1 ∙ q.1
one_place (EntryForm.both f g) es reason other at place (inl p) (inl q) = one_place f es reason other at place p q
one_place (EntryForm.both f g) es reason other at place (inl p) (inr q) = absurd (never_both f es q.0 q.1 reason at q.2 p)
one_place (EntryForm.both f g) es reason other at place (inr p) (inl q) = absurd (never_both f es p.0 p.1 other place p.2 q)
one_place (EntryForm.both f g) es reason other at place (inr p) (inr q) =
    one_place g p.1 reason other at place p.3 (subst (Stops g other place) (sym (one_tree f es p.0 q.0 p.1 q.1 p.2 q.2).1) q.3)
one_place (EntryForm.after f g) es reason other at place (inl p) (inl q) = one_place f es reason other at place p q
one_place (EntryForm.after f g) es reason other at place (inl p) (inr q) = absurd (never_both f es q.0 q.1 reason at q.2 p)
one_place (EntryForm.after f g) es reason other at place (inr p) (inl q) = absurd (never_both f es p.0 p.1 other place p.2 q)
one_place (EntryForm.after f g) es reason other at place (inr p) (inr q) =
    one_place g p.1 reason other at place p.3 (subst (Stops g other place) (sym (one_tree f es p.0 q.0 p.1 q.1 p.2 q.2).1) q.3)
one_place (EntryForm.made h f) es reason other at place p q = one_place f es reason other at place p q
one_place (EntryForm.optional f) es reason other at place p q = one_place f es reason other at place p.1 q.1
one_place (EntryForm.some f) es reason other at place (inl p) (inl q) = one_place f es reason other at place p q
one_place (EntryForm.some f) es reason other at place (inl p) (inr q) = absurd (never_both f es q.0 q.1 reason at q.2 p)
one_place (EntryForm.some f) es reason other at place (inr p) (inl q) = absurd (never_both f es p.0 p.1 other place p.2 q)
one_place (EntryForm.some f) es reason other at place (inr p) (inr q) =
    place_more (begins f) (Reads f) (Stops f reason at) (Stops f other place) at place (one_tree f) (λ v x rest s d. never_both f v x rest reason at s d) (λ v x rest s d. never_both f v x rest other place s d)
    (λ v c d. one_place f v reason other at place c d)
    p.3 (subst (StopsMore (begins f) (Reads f) (Stops f other place)) (sym (one_tree f es p.0 q.0 p.1 q.1 p.2 q.2).1) q.3)

stop_is : {A : Type 0} (s t : Stop) (r : EntryOutcome A) → r ≡ Err s → r ≡ Err t → s ≡ t
stop_is s t r e f = cc

pub one_stop : {b : Bool} {A : Type 0} (f : EntryForm b A) (es : Entries) (reason other : Misfit) (at place : Entries) → Stops f reason at es → Stops f other place es
    → (reason ≡ other) × (at ≡ place)
one_stop f es reason other at place p q =
    let same_stop : ◌≡◌ {A = Stop} (reason, line_at at) (other, line_at place) = stop_is _ _ (read_entries f es) (finds f reason at es p) (finds f other place es q) in
    (ap (λ x. x.0) same_stop, one_place f es reason other at place p q)

-- ---- the rest are the last of the entries

ends_whole : (es rest : Entries) → es ≡ rest → AreLast rest es
ends_whole es rest e = ([], e)

ends_then : (es mid rest : Entries) → AreLast mid es → AreLast rest mid → AreLast rest es
ends_then es mid rest a b = (a.0 ++ b.0, rw append_assoc (a.1 ∙ ap (λ v. a.0 ++ v) b.1))

ends_entry : {A : Type 0} (f : Line → Form true A) (es : Entries) (x : A) (rest : Entries) → Fits f es x rest → AreLast rest es
ends_entry f [] x rest h = absurd h
ends_entry f (e ∷ es) x rest h = (e ∷ [], ap (λ v. e ∷ v) h.1)

module _ {A : Type 0} (begun : Entries → Bool) (Is : Entries → A → Entries → Type 0) (ends_one : (es : Entries) (x : A) (rest : Entries) → Is es x rest → AreLast rest es) where
  ends_more : (es : Entries) (xs : List A) (rest : Entries) → AreMore begun Is es xs rest → AreLast rest es
  ends_more es [] rest h = ends_whole es rest h.1
  ends_more es (x ∷ xs) rest h = ends_then es h.1 rest (ends_one es x h.1 h.2) (ends_more h.1 xs rest h.3)

  ends_some : (es : Entries) (xs : List A) (rest : Entries) → AreSome begun Is es xs rest → AreLast rest es
  ends_some es [] rest h = absurd h
  ends_some es (x ∷ xs) rest h = ends_then es h.0 rest (ends_one es x h.0 h.1) (ends_more h.0 xs rest h.2)

  ends_optional : (es : Entries) (x : Option A) (rest : Entries) → AreOptional begun Is es x rest → AreLast rest es
  ends_optional es (Some x) rest h = ends_one es x rest h.1
  ends_optional es None rest h = ends_whole es rest h.1

pub ends : {b : Bool} {A : Type 0} (f : EntryForm b A) (es : Entries) (x : A) (rest : Entries) → Reads f es x rest → AreLast rest es
ends (EntryForm.entry f) es x rest h = ends_entry f es x rest h
ends (EntryForm.both f g) es x rest h = ends_then es h.0 rest (ends f es x.0 h.0 h.1) (ends g h.0 x.1 rest h.2)
ends (EntryForm.after f g) es y rest h = ends_then es h.1 rest (ends f es h.0 h.1 h.2) (ends g h.1 y rest h.3)
ends (EntryForm.made h f) es y rest s = ends f es s.0 rest s.1
ends (EntryForm.optional f) es x rest h = ends_optional (begins f) (Reads f) (ends f) es x rest h
ends (EntryForm.some f) es x rest h = ends_some (begins f) (Reads f) (ends f) es x rest h

-- ---- the laws, for every form

stops_at : {b : Bool} {A : Type 0} (f : EntryForm b A) (es : Entries) (reason : Misfit) (line : Option Line) → read_entries f es ≡ Err (reason, line)
    → (at : Entries) × Stops f reason at es × (line ≡ line_at at)
stops_at f es reason line h =
    let s : StopsHere (λ r at. Stops f r at es) (reason, line) = subst (Sound (Reads f es) (λ r at. Stops f r at es)) h (sound f es) in
    (s.0, s.1, sym s.2)

pub is_exact : {b : Bool} {A : Type 0} (f : EntryForm b A) → IsExact f
is_exact f = record {
  reads = λ es x rest h. subst (Sound (Reads f es) (λ r at. Stops f r at es)) h (sound f es);
  is_read = reads f;
  stops = stops_at f;
  is_stopped = λ es at reason d. finds f reason at es d;
  rest_is_last = ends f;
}

pub is_definite : {b : Bool} {A : Type 0} (f : EntryForm b A) → IsDefinite f
is_definite f = record {
  one_reading = λ es rest more first second p q. one_tree f es first second rest more p q;
  one_stop = λ es at place first second p q. one_stop f es first second at place p q;
  never_both = λ es rest at read reason p. never_both f es read rest reason at p;
}
