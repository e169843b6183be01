-- A function value that reads statements inside a statement.
use Rattle.std.specs.Prelude.{ℕ, List, Result}
use Rattle.std.specs.Borrow.{Bor}
use Rattle.std.specs.declared.alloc.Global.{Global}
use Rattle.cob_base.specs.declared.tokens.Token.{Token}
use Rattle.cob_base.specs.declared.statements.Located.{Located}
use Rattle.cob_base.specs.declared.statements.Statement.{Statement}
use Rattle.cob_base.specs.Statements.{statements}
use Rattle.phrase_parser.specs.declared.faults.PhraseFault.{PhraseFault}
use Rattle.phrase_parser.specs.Reading.{Gives, read}

-- it can be called where depth statements and parentheses may still open, and gives what reading statements there gives
pub record Nests (depth : ℕ) (pre : Global → ℕ → Bor (List Token) → Type 0)
    (post : Global → ℕ → Bor (List Token) → Result (List (Located Statement) × Bor (List Token)) PhraseFault → Type 0) : Type 0 where
  pub callable : (alloc : Global) (w : Bor (List Token)) → pre alloc depth w
  pub reads : (alloc : Global) (w : Bor (List Token)) (r : Result (List (Located Statement) × Bor (List Token)) PhraseFault) → post alloc depth w r
      → Gives (λ x. (x.0, x.1.now)) r (read (statements depth) w.now)
