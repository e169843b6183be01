-- Function values that say whether one more opens or begins, and read it.
use Rattle.std.specs.Prelude.{◌≡◌, ℕ, Bool, List, Result}
use Rattle.std.specs.Borrow.{Bor}
use Rattle.std.specs.declared.alloc.Global.{Global}
use Rattle.cob_base.specs.declared.line.Line.{Line}
use Rattle.cob_base.specs.declared.tokens.Token.{Token}
use Rattle.cob_base.specs.declared.tokens.SeenEntry.{SeenEntry}
use Rattle.phrase_parser.specs.declared.faults.PhraseFault.{PhraseFault}
use Rattle.phrase_parser.specs.declared.faults.EntryFault.{EntryFault}
use Rattle.phrase_parser.specs.Reading.{Outcome, Gives}
use Rattle.phrase_parser.specs.EntryReading.{EntryOutcome, EntryGives}

-- what is returned is what the test says of the list
pub record Tests {S : Type 0} (opened : List S → Bool) (post : Bor (List S) → Bool → Type 0) : Type 0 where
  pub tells : (w : Bor (List S)) (r : Bool) → post w r → r ≡ opened w.now

-- what is returned is what reading words gives
pub record Repeats {A : Type 0} (one : List Token → Outcome A) (depth : ℕ)
    (post : Global → ℕ → Bor (List Token) → Result (A × Bor (List Token)) PhraseFault → Type 0) : Type 0 where
  pub gives : (alloc : Global) (w : Bor (List Token)) (r : Result (A × Bor (List Token)) PhraseFault) → post alloc depth w r
      → Gives (λ x. (x.0, x.1.now)) r (one w.now)

-- what is returned is what reading entries gives
pub record RepeatsEntries {A : Type 0} (one : List SeenEntry → EntryOutcome A)
    (post : Global → Bor (List SeenEntry) → Result (A × Bor (List SeenEntry)) EntryFault → Type 0) : Type 0 where
  pub gives : (alloc : Global) (es : Bor (List SeenEntry)) (r : Result (A × Bor (List SeenEntry)) EntryFault) → post alloc es r
      → EntryGives (λ x. (x.0, x.1.now)) r (one es.now)

-- what is returned is what reading the words of an entry gives, given the line of the first of them
pub record ReadsWords {A : Type 0} (one : Line → List Token → Outcome A)
    (post : Global → Line → Bor (List Token) → Result (A × Bor (List Token)) PhraseFault → Type 0) : Type 0 where
  pub gives : (alloc : Global) (line : Line) (w : Bor (List Token)) (r : Result (A × Bor (List Token)) PhraseFault) → post alloc line w r
      → Gives (λ x. (x.0, x.1.now)) r (one line w.now)
