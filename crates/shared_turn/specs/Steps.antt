-- What each step tells the seat that makes it.
use Rattle.std.specs.Prelude.{◌≡◌, ◌≢◌, ℕ, ◌+◌, ◌<◌, ◌^◌, Option, Some, None, List, [], ◌∷◌, ◌++◌}
use mathlib.Core.List.{IsPrefix}
use Rattle.atomic_table.specs.Table.{Me, Step, rest}
use Rattle.shared_turn.specs.declared.happened.HappenedOf.{HappenedOf}
use Rattle.shared_turn.specs.declared.view.Book.{Book}
use Rattle.shared_turn.specs.declared.view.Caller.{Caller}
use Rattle.shared_turn.specs.declared.view.View.{View}
use Rattle.shared_turn.specs.Serial.{Object}
use Rattle.shared_turn.specs.Journal.{entry, entries_of}
use Rattle.shared_turn.specs.View.{refused, answered, OnFirst, resting, gathered, caller_of, draws, wins, gives_up}

-- a seat: its view, and the slot that is out with it
abbrev pub Held : Type 0 → Type 0 → Type 0 → Type 0
Held O A R = Me (Option (Book O A R)) (View O A R)

module _ {O A R : Type 0} where
  abbrev pub journal_of : Option (Book O A R) → List (HappenedOf A R)
  journal_of None = []
  journal_of (Some b) = b.journal.items

  -- the journal in the slot that is out with a seat
  abbrev pub journal_in : List (ℕ × Option (Book O A R)) → List (HappenedOf A R)
  journal_in [] = []
  journal_in (x ∷ xs) = journal_of x.1

  -- What a caller that has won the turn knows of the book that it took: what it has seen begins its journal, its `mine` is its entries there, and it has seen them all
  pub record IsFresh (taken : O → ℕ) (c : Caller A R) (b : Book O A R) : Type 0 where
    pub seen : IsPrefix c.seen b.journal.items
    pub mine : c.mine ≡ entries_of c.number b.journal.items
    pub own : c.mine ≡ entries_of c.number c.seen
    pub early : taken b.serial < 2 ^ 40

  -- the number found at the word 'ticket' is drawn as ticket, and the call counts
  abbrev pub drawn : Step (Option (Book O A R)) → Held O A R → ℕ → Held O A R → Type 0
  drawn _ m r m' = m' ≡ (draws m.0 r, m.1)

  -- where the number found at the word 'serving' is the own ticket, the turn is won and the slot taken; else nothing changes
  abbrev pub watched : (O → ℕ) → Step (Option (Book O A R)) → Held O A R → ℕ → Held O A R → Type 0
  watched taken _ m r m' = (m.0.ticket ≡ Some r → (b : Book O A R) × (m' ≡ (wins m.0 b, (0, Some b) ∷ m.1)) × OnFirst (λ c. IsFresh taken c b) m.0.callers)
      × (m.0.ticket ≢ Some r → m' ≡ m)

  -- the slot is given back with the journal that was taken, and the turn given up
  abbrev pub returned : Step (Option (Book O A R)) → Held O A R → ℕ → Held O A R → Type 0
  returned _ m r m' = m' ≡ (gives_up (refused (journal_of m.0.took) (journal_in m.1)) m.0, rest m.1)

  -- the slot is given back with one entry more in its journal, and the turn given up
  abbrev pub recorded : Step (Option (Book O A R)) → Held O A R → ℕ → Held O A R → Type 0
  recorded _ m r m' = m' ≡ (gives_up (answered (journal_of m.0.took) (journal_in m.1)) m.0, rest m.1)

  -- the seat of one caller that has no ticket
  abbrev pub IsIdle : Held O A R → Type 0
  IsIdle m = m ≡ (resting (caller_of m.0), [])

  -- a seat that has no ticket, whatever callers it speaks for
  abbrev pub IsGathered : Held O A R → Type 0
  IsGathered m = m ≡ (gathered m.0.callers, [])

module _ {O A R St : Type 0} (obj : Object O A R St) where
  -- the book after a step that was refused: nothing has changed
  pub record IsSame (b c : Book O A R) : Type 0 where
    pub journal : c.journal.items ≡ b.journal.items
    pub state : obj.state c.serial ≡ obj.state b.serial
    pub taken : obj.taken c.serial ≡ obj.taken b.serial

  -- the book after a step: its journal has one entry more, whose reply is the object's
  pub record HasGrown (b c : Book O A R) (who : ℕ) (ask : A) (reply : R) : Type 0 where
    pub journal : c.journal.items ≡ b.journal.items ++ entry who ask reply ∷ []
    pub right : reply ≡ obj.reply (obj.state b.serial) who ask
    pub state : obj.state c.serial ≡ obj.after (obj.state b.serial) who ask
    pub taken : obj.taken c.serial ≡ obj.taken b.serial + 1
