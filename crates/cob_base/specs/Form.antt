-- Forms of words, and what it means that words are spelled in one.
use Rattle.std.specs.Prelude.{◌≡◌, ◌⊎◌, ℕ, zero, suc, Bool, true, false, if◌then◌else◌, ◌||◌, ◌&&◌, List, [], ◌∷◌, length, Option, Some, None}
use Rattle.cob_base.specs.declared.tokens.Token.{Token}

abbrev pub Words : Type 0
Words = List Token

-- A form of words that stand for an A. The Bool says that it takes a word at least.
pub data Form : Bool → Type 0 → Type 1 where
  -- one word that is a name, a number, a literal or a picture, of which the function says what it stands for
  word : {A : Type 0} → (Token → Option A) → Form true A
  -- one reserved word or mark
  mark : {A : Type 0} → (Token → Option A) → Form true A
  -- a smaller production: words, marks and forms of its own
  part : {b : Bool} {A : Type 0} → Form b A → Form b A
  -- a smaller production that a rule of its own opens: the test sees the next word and those after it
  opened_by : {b : Bool} {A : Type 0} → (Token → Words → Bool) → Form b A → Form b A
  -- no word at all
  nothing : Form false (Unit {0})
  -- all words before the first that passes the test
  up_to : (Token → Bool) → Form false (Unit {0})
  -- one after the other
  both : {b c : Bool} {A B : Type 0} → Form b A → Form c B → Form (b || c) (A × B)
  -- the same, where only the second counts
  after : {b c : Bool} {A B : Type 0} → Form b A → Form c B → Form (b || c) B
  -- what stands for x stands for f x
  made : {b : Bool} {A B : Type 0} → (A → B) → Form b A → Form b B
  -- the first exactly where the next words open it, and otherwise the second
  either : {b c : Bool} {A : Type 0} → Form b A → Form c A → Form (b && c) A
  -- there exactly where the next words open it
  optional : {b : Bool} {A : Type 0} → Form b A → Form false (Option A)
  -- one or more, which go on exactly where the next words open one more
  some : {A : Type 0} → Form true A → Form true (List A)
  -- where this form would open, it would be nested too deep
  too_deep : {b : Bool} {A B : Type 0} → Form b A → Form true B

-- the first part, before the second
abbrev pub before : {b c : Bool} {A B : Type 0} → Form b A → Form c B → Form (b || c) A
before f g = Form.made (λ x. x.0) (Form.both f g)

abbrev pub or_none : {A : Type 0} → Option (List A) → List A
or_none (Some xs) = xs
or_none None = []

-- any number, which go on exactly where the next words open one more
abbrev pub many : {A : Type 0} → Form true A → Form false (List A)
many f = Form.made or_none (Form.optional (Form.some f))

-- ---- whether the next words open a form: the rule of opening words
--
-- Words are read from left to right, and the next words decide. A name, a number, a literal and a smaller production are called
-- the four: `word`, `part` and `opened_by`.
--   1. The opening words of a part are its reserved words and marks up to the first of the four in it. Those that may be absent
--      count with or without.
--      `starts` goes through the form from left to right. A `mark` must be there, and the next form must start after it; at one
--      of the four the walk ends. At an `optional` form it goes on with it and without it, and at an `either` with one of the two.
--   2. A part that begins with one of the four opens where such a one can begin.
--      At one of the four, where no needed mark was passed, the next words must begin it: a `word` must pass, a `part` must open.
--   3. Where all words and marks before the first of the four may be absent, the part opens only where such a one can begin
--      after them.
--      `needed` says that a mark was passed that cannot be absent. Then the four need not begin; else they must, at the words
--      after the marks that were passed. Behind an `optional` form `needed` is what it was before it.
--   4. A part that may be absent is read exactly where the words there open it. So is one more member of a list.
--      `Spells` of `optional` and of `some` say so by `opens`.
--   5. Of several alternatives a shorter one is read only where what a longer one adds to it does not open there.
--      `Spells` of `either` says so: the longer one is written first. Where they have one of the four in common, as in
--      DIVIDE a INTO b and DIVIDE a INTO b GIVING c, the common front stands before an `either` of what the longer one adds
--      and what the shorter one has in its place.
--
-- Two things the rule leaves open. A group that may be absent and has a needed mark of its own counts, once that mark is passed,
-- as there: the four in it need not begin. A part all of whose words may be absent, with none of the four in it, opens nowhere.
-- And let no `part` that may be empty stand before other forms: the walk ends at it.

abbrev pub is_there : {A : Type 0} → Option A → Bool
is_there (Some x) = true
is_there None = false

abbrev pub at_word : (Token → Words → Bool) → Words → Bool
at_word p [] = false
at_word p (v ∷ w) = p v w

-- what may follow a form in a part: it sees whether a needed mark was passed, and the words that are left
abbrev pub Follows : Type 0
Follows = Bool → Words → Bool

-- the end of the part
abbrev pub ended : Follows
ended needed w = needed

-- a word that passes comes next, and then what follows
abbrev pub passes_mark : {A : Type 0} → (Token → Option A) → Follows → Words → Bool
passes_mark p next [] = false
passes_mark p next (v ∷ w) = is_there (p v) && next true w

-- the end, or up to n more members of a list, each of which go passes
abbrev pub again : (Follows → Follows) → Follows → ℕ → Follows
again go next zero needed w = next needed w
again go next (suc n) needed w = next needed w || go (again go next n) needed w

-- whether the words start with the opening words of a form and then with what follows it; of an optional form what it is without it
-- comes first, so that it computes where a needed mark was passed
abbrev pub starts : {b : Bool} {A : Type 0} → Form b A → Follows → Follows
starts (Form.word p) next needed w = needed || at_word (λ v after. is_there (p v)) w
starts (Form.mark p) next needed w = passes_mark p next w
starts (Form.part f) next needed w = needed || starts f ended false w
starts (Form.opened_by p f) next needed w = needed || at_word p w
starts Form.nothing next needed w = next needed w
starts (Form.up_to p) next needed w = next needed w
starts (Form.both f g) next needed w = starts f (starts g next) needed w
starts (Form.after f g) next needed w = starts f (starts g next) needed w
starts (Form.made h f) next needed w = starts f next needed w
starts (Form.either f g) next needed w = starts f next needed w || starts g next needed w
starts (Form.optional f) next needed w = next needed w || starts f (λ inside. next needed) needed w
starts (Form.some f) next needed w = starts f (again (starts f) next (length w)) needed w
starts (Form.too_deep f) next needed w = starts f next needed w

abbrev pub opens : {b : Bool} {A : Type 0} → Form b A → Words → Bool
opens f w = starts f ended false w

-- ---- the words w stand for x in a form, up to the rest

abbrev pub IsWord : {A : Type 0} → (Token → Option A) → Words → A → Words → Type 0
IsWord p [] x rest = ⊥
IsWord p (v ∷ w) x rest = (p v ≡ Some x) × (w ≡ rest)

-- the words from the first that passes the test
abbrev pub from_first : (Token → Bool) → Words → Words
from_first p [] = []
from_first p (v ∷ w) = if p v then v ∷ w else from_first p w

module _ {A : Type 0} (opened : Words → Bool) (Is : Words → A → Words → Type 0) where
  -- these, and no more open
  abbrev pub IsMore : Words → List A → Words → Type 0
  IsMore w [] rest = (opened w ≡ false) × (w ≡ rest)
  IsMore w (x ∷ xs) rest = (opened w ≡ true) × (mid : Words) × Is w x mid × IsMore mid xs rest

  abbrev pub IsSome : Words → List A → Words → Type 0
  IsSome w [] rest = ⊥
  IsSome w (x ∷ xs) rest = (mid : Words) × Is w x mid × IsMore mid xs rest

  abbrev pub IsOptional : Words → Option A → Words → Type 0
  IsOptional w (Some x) rest = (opened w ≡ true) × Is w x rest
  IsOptional w None rest = (opened w ≡ false) × (w ≡ rest)

  -- some more, and then one that is nested too deep
  pub data IsDeepMore (Deeper : Words → Type 0) : Words → Type 0 where
    next : {w : Words} → opened w ≡ true → Deeper w → IsDeepMore Deeper w
    later : {x : A} {w mid : Words} → opened w ≡ true → Is w x mid → IsDeepMore Deeper mid → IsDeepMore Deeper w

abbrev pub Spells : {b : Bool} {A : Type 0} → Form b A → Words → A → Words → Type 0
Spells (Form.word p) w x rest = IsWord p w x rest
Spells (Form.mark p) w x rest = IsWord p w x rest
Spells (Form.part f) w x rest = Spells f w x rest
Spells (Form.opened_by p f) w x rest = Spells f w x rest
Spells Form.nothing w x rest = w ≡ rest
Spells (Form.up_to p) w x rest = from_first p w ≡ rest
Spells (Form.both f g) w x rest = (mid : Words) × Spells f w x.0 mid × Spells g mid x.1 rest
Spells (Form.after {A = A} f g) w y rest = (x : A) × (mid : Words) × Spells f w x mid × Spells g mid y rest
Spells (Form.made {A = A} h f) w y rest = (x : A) × Spells f w x rest × (h x ≡ y)
Spells (Form.either f g) w x rest = ((opens f w ≡ true) × Spells f w x rest) ⊎ ((opens f w ≡ false) × Spells g w x rest)
Spells (Form.optional f) w x rest = IsOptional (opens f) (Spells f) w x rest
Spells (Form.some f) w x rest = IsSome (opens f) (Spells f) w x rest
Spells (Form.too_deep f) w x rest = ⊥

-- some parts are spelled in order, and then a form would open that is nested too deep
abbrev pub Deep : {b : Bool} {A : Type 0} → Form b A → Words → Type 0
Deep (Form.word p) w = ⊥
Deep (Form.mark p) w = ⊥
Deep (Form.part f) w = Deep f w
Deep (Form.opened_by p f) w = Deep f w
Deep Form.nothing w = ⊥
Deep (Form.up_to p) w = ⊥
Deep (Form.both {A = A} f g) w = Deep f w ⊎ ((x : A) × (mid : Words) × Spells f w x mid × Deep g mid)
Deep (Form.after {A = A} f g) w = Deep f w ⊎ ((x : A) × (mid : Words) × Spells f w x mid × Deep g mid)
Deep (Form.made h f) w = Deep f w
Deep (Form.either f g) w = ((opens f w ≡ true) × Deep f w) ⊎ ((opens f w ≡ false) × Deep g w)
Deep (Form.optional f) w = (opens f w ≡ true) × Deep f w
Deep (Form.some {A = A} f) w = Deep f w ⊎ ((x : A) × (mid : Words) × Spells f w x mid × IsDeepMore (opens f) (Spells f) (Deep f) mid)
Deep (Form.too_deep f) w = opens f w ≡ true
