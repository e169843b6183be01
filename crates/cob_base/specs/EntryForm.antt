-- Forms of entries: in which order entries stand, and what it means that entries read as one.
--
-- A stage is a place between two entries of a form, or before its first. Which entries may come at a stage, the next entry decides
-- by its opening words. It fits where all its words spell what it opens. The entries read as what the form says where each fits at
-- its stage; else the first that does not fit is the place where they stop.
use Rattle.std.specs.Prelude.{◌≡◌, ◌⊎◌, Bool, true, false, not, ◌||◌, ◌&&◌, List, [], ◌∷◌, Option, Some, None}
use Rattle.cob_base.specs.declared.line.Line.{Line}
use Rattle.cob_base.specs.declared.tokens.SeenEntry.{SeenEntry}
use Rattle.cob_base.specs.declared.parse_fault.Misfit.{Misfit}
use Rattle.cob_base.specs.declared.parse_fault.Misfit.TheVariants.{Nesting, NoFit}
use Rattle.cob_base.specs.Form.{Form, or_none, opens, Spells, Deep}

abbrev pub Entries : Type 0
Entries = List SeenEntry

-- A form of entries that stand for an A. The Bool says that it takes an entry at least.
pub data EntryForm : Bool → Type 0 → Type 1 where
  -- one entry, all of whose words are spelled in a form of words, which may name the line of its first word
  entry : {A : Type 0} → (Line → Form true A) → EntryForm true A
  -- one after the other
  both : {b c : Bool} {A B : Type 0} → EntryForm b A → EntryForm c B → EntryForm (b || c) (A × B)
  -- the same, where only the second counts
  after : {b c : Bool} {A B : Type 0} → EntryForm b A → EntryForm c B → EntryForm (b || c) B
  -- what stands for x stands for f x
  made : {b : Bool} {A B : Type 0} → (A → B) → EntryForm b A → EntryForm b B
  -- there exactly where the next entry begins it
  optional : {b : Bool} {A : Type 0} → EntryForm b A → EntryForm false (Option A)
  -- one or more, which go on exactly where the next entry begins one more
  some : {A : Type 0} → EntryForm true A → EntryForm true (List A)

-- the first part, before the second
abbrev pub before : {b c : Bool} {A B : Type 0} → EntryForm b A → EntryForm c B → EntryForm (b || c) A
before f g = EntryForm.made (λ x. x.0) (EntryForm.both f g)

-- any number, which go on exactly where the next entry begins one more
abbrev pub many : {A : Type 0} → EntryForm true A → EntryForm false (List A)
many f = EntryForm.made or_none (EntryForm.optional (EntryForm.some f))

-- ---- whether the next entry begins a form: its words open the form's first entry

abbrev pub opens_entry : {A : Type 0} → (Line → Form true A) → Entries → Bool
opens_entry f [] = false
opens_entry f (e ∷ es) = opens (f e.line) e.tokens

abbrev pub begins : {b : Bool} {A : Type 0} → EntryForm b A → Entries → Bool
begins (EntryForm.entry f) es = opens_entry f es
begins (EntryForm.both {b = b} f g) es = (not b && begins g es) || begins f es
begins (EntryForm.after {b = b} f g) es = (not b && begins g es) || begins f es
begins (EntryForm.made h f) es = begins f es
begins (EntryForm.optional f) es = begins f es
begins (EntryForm.some f) es = begins f es

-- ---- the entries es read as x, up to the rest

-- all words of the next entry spell x
abbrev pub Fits : {A : Type 0} → (Line → Form true A) → Entries → A → Entries → Type 0
Fits f [] x rest = ⊥
Fits f (e ∷ es) x rest = Spells (f e.line) e.tokens x [] × (es ≡ rest)

module _ {A : Type 0} (begun : Entries → Bool) (Is : Entries → A → Entries → Type 0) where
  -- these, and no more begin
  abbrev pub AreMore : Entries → List A → Entries → Type 0
  AreMore es [] rest = (begun es ≡ false) × (es ≡ rest)
  AreMore es (x ∷ xs) rest = (begun es ≡ true) × (mid : Entries) × Is es x mid × AreMore mid xs rest

  abbrev pub AreSome : Entries → List A → Entries → Type 0
  AreSome es [] rest = ⊥
  AreSome es (x ∷ xs) rest = (mid : Entries) × Is es x mid × AreMore mid xs rest

  abbrev pub AreOptional : Entries → Option A → Entries → Type 0
  AreOptional es (Some x) rest = (begun es ≡ true) × Is es x rest
  AreOptional es None rest = (begun es ≡ false) × (es ≡ rest)

  -- some more, and then one that stops
  pub data StopsMore (StopsOne : Entries → Type 0) : Entries → Type 0 where
    next : {es : Entries} → begun es ≡ true → StopsOne es → StopsMore StopsOne es
    later : {x : A} {es mid : Entries} → begun es ≡ true → Is es x mid → StopsMore StopsOne mid → StopsMore StopsOne es

abbrev pub Reads : {b : Bool} {A : Type 0} → EntryForm b A → Entries → A → Entries → Type 0
Reads (EntryForm.entry f) es x rest = Fits f es x rest
Reads (EntryForm.both f g) es x rest = (mid : Entries) × Reads f es x.0 mid × Reads g mid x.1 rest
Reads (EntryForm.after {A = A} f g) es y rest = (x : A) × (mid : Entries) × Reads f es x mid × Reads g mid y rest
Reads (EntryForm.made {A = A} h f) es y rest = (x : A) × Reads f es x rest × (h x ≡ y)
Reads (EntryForm.optional f) es x rest = AreOptional (begins f) (Reads f) es x rest
Reads (EntryForm.some f) es x rest = AreSome (begins f) (Reads f) es x rest

-- ---- the entries fit up to at, and what stands there does not fit at its stage, for this reason

-- the next entry does not fit: it is deep, or it is not, or there is none
abbrev pub Misfits : {A : Type 0} → (Line → Form true A) → Misfit → Entries → Type 0
Misfits f Nesting [] = ⊥
Misfits f Nesting (e ∷ es) = Deep (f e.line) e.tokens
Misfits f NoFit [] = Unit {0}
Misfits {A = A} f NoFit (e ∷ es) = ((x : A) → ¬ (Spells (f e.line) e.tokens x [])) × ¬ (Deep (f e.line) e.tokens)

abbrev pub Stops : {b : Bool} {A : Type 0} → EntryForm b A → Misfit → Entries → Entries → Type 0
Stops (EntryForm.entry f) reason at es = Misfits f reason es × (es ≡ at)
Stops (EntryForm.both {A = A} f g) reason at es = Stops f reason at es ⊎ ((x : A) × (mid : Entries) × Reads f es x mid × Stops g reason at mid)
Stops (EntryForm.after {A = A} f g) reason at es = Stops f reason at es ⊎ ((x : A) × (mid : Entries) × Reads f es x mid × Stops g reason at mid)
Stops (EntryForm.made h f) reason at es = Stops f reason at es
Stops (EntryForm.optional f) reason at es = (begins f es ≡ true) × Stops f reason at es
Stops (EntryForm.some {A = A} f) reason at es = Stops f reason at es
    ⊎ ((x : A) × (mid : Entries) × Reads f es x mid × StopsMore (begins f) (Reads f) (Stops f reason at) mid)

-- ---- the line of the place where entries stop

-- the line of the last entry, or 1 where there is no entry
abbrev pub last_line : Entries → Line
last_line [] = record { 0 = 1 }
last_line (e ∷ []) = e.line
last_line (e ∷ f ∷ es) = last_line (f ∷ es)

-- where the entries stop at `at`: the line of the entry there, or of the last entry where none is left
abbrev pub line_of_stop : Entries → Entries → Line
line_of_stop es [] = last_line es
line_of_stop es (e ∷ at) = e.line
