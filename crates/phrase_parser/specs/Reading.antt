-- Reading a form of words from left to right: what the parser is held against. The grammar does not rest on it.
use Rattle.std.specs.Prelude.{◌≡◌, ℕ, zero, suc, Bool, true, false, if◌then◌else◌, List, [], ◌∷◌, length, Option, Some, None, Result, Ok, Err}
use Rattle.std.specs.Borrow.{Bor}
use Rattle.cob_base.specs.declared.parse_fault.Misfit.{Misfit}
use Rattle.cob_base.specs.declared.parse_fault.Misfit.TheVariants.{Nesting, NoFit}
use Rattle.cob_base.specs.declared.tokens.Token.{Token}
use Rattle.cob_base.specs.Form.{Form, Words, or_none, from_first, opens}
use Rattle.phrase_parser.specs.declared.faults.PhraseFault.{PhraseFault}
use Rattle.phrase_parser.specs.declared.faults.PhraseFault.TheVariants as faults

-- what reading gives: a value and what is left, or why not
abbrev pub Read : Type 0 → Type 0 → Type 0 → Type 0
Read S E A = Result (A × List S) E

abbrev pub Outcome : Type 0 → Type 0
Outcome A = Read Token Misfit A

infixl 10 ◌>>=◌
abbrev pub ◌>>=◌ : {S E A B : Type 0} → Read S E A → (A × List S → Read S E B) → Read S E B
(Ok x) >>= f = f x
(Err e) >>= f = Err e

-- What a function returned, seen by view, is what reading gives, unless memory ran out.
abbrev pub Fails : {Y : Type 0} → PhraseFault → Result Y Misfit → Type 0
Fails faults.NoMemory outcome = Unit {0}
Fails (faults.Misfit reason) outcome = outcome ≡ Err reason

abbrev pub Gives : {X Y : Type 0} → (X → Y) → Result X PhraseFault → Result Y Misfit → Type 0
Gives view (Ok x) outcome = outcome ≡ Ok (view x)
Gives view (Err e) outcome = Fails e outcome

abbrev pub read_as : {A : Type 0} → Option A → Words → Outcome A
read_as (Some x) w = Ok (x, w)
read_as None w = Err NoFit

abbrev pub read_word : {A : Type 0} → (Token → Option A) → Words → Outcome A
read_word p [] = Err NoFit
read_word p (v ∷ w) = read_as (p v) w

-- the number bounds how many there are
unfoldable pub read_more : {S E A : Type 0} → (List S → Bool) → (List S → Read S E A) → ℕ → List S → Read S E (List A)
read_more opened one zero w = Ok ([], w)
read_more opened one (suc n) w =
    if opened w then (do
      first ← one w
      more ← read_more opened one n first.1
      Ok (first.0 ∷ more.0, more.1)) else Ok ([], w)

unfoldable pub read_some : {S E A : Type 0} → (List S → Bool) → (List S → Read S E A) → List S → Read S E (List A)
read_some opened one w = do
  first ← one w
  more ← read_more opened one (length first.1) first.1
  Ok (first.0 ∷ more.0, more.1)

abbrev pub read_optional : {S E A : Type 0} → Bool → Read S E A → List S → Read S E (Option A)
read_optional b outcome w = if b then (outcome >>= λ x. Ok (Some x.0, x.1)) else Ok (None, w)

-- any number, none where the list does not open
unfoldable pub read_many : {S E A : Type 0} → (List S → Bool) → (List S → Bool) → (List S → Read S E A) → List S → Read S E (List A)
read_many opened opened_list one w = read_optional (opened_list w) (read_some opened one w) w >>= λ x. Ok (or_none x.0, x.1)

abbrev pub read : {b : Bool} {A : Type 0} → Form b A → Words → Outcome A
read (Form.word p) w = read_word p w
read (Form.mark p) w = read_word p w
read (Form.part f) w = read f w
read (Form.opened_by p f) w = read f w
read Form.nothing w = Ok (tt, w)
read (Form.up_to p) w = Ok (tt, from_first p w)
read (Form.both f g) w = read f w >>= λ x. read g x.1 >>= λ y. Ok ((x.0, y.0), y.1)
read (Form.after f g) w = read f w >>= λ x. read g x.1
read (Form.made h f) w = read f w >>= λ x. Ok (h x.0, x.1)
read (Form.either f g) w = if opens f w then read f w else read g w
read (Form.optional f) w = read_optional (opens f w) (read f w) w
read (Form.some f) w = read_some (opens f) (read f) w
read (Form.too_deep f) w = if opens f w then Err Nesting else Err NoFit

-- ---- what functions return that take no memory

-- what was found, or else that it does not fit
abbrev pub or_no_fit : {A : Type 0} → Option A → Result A Misfit
or_no_fit (Some x) = Ok x
or_no_fit None = Err NoFit

abbrev pub seen_rest : {A S : Type 0} → Option (A × Bor (List S)) → Option (A × List S)
seen_rest (Some x) = Some (x.0, x.1.now)
seen_rest None = None

abbrev pub seen_words : {S : Type 0} → Option (Bor (List S)) → Option (Unit {0} × List S)
seen_words (Some rest) = Some (tt, rest.now)
seen_words None = None

-- whether reading gave something
abbrev pub is_read : {S E A : Type 0} → Read S E A → Bool
is_read (Ok x) = true
is_read (Err e) = false
