-- What a seat knows, and how each step changes it.
use Rattle.std.specs.Prelude.{ℕ, ◌+◌, Some, None, List, [], ◌∷◌, ◌++◌}
use Rattle.shared_turn.specs.declared.happened.HappenedOf.{HappenedOf}
use Rattle.shared_turn.specs.declared.view.Book.{Book}
use Rattle.shared_turn.specs.declared.view.Caller.{Caller}
use Rattle.shared_turn.specs.declared.view.View.{View}
use Rattle.shared_turn.specs.Journal.{entries_of}

module _ {A R : Type 0} where
  -- a caller that has begun no call
  abbrev pub newcomer : ℕ → Caller A R
  newcomer n = record { number = n; calls = 0; given = 0; seen = []; mine = []; found = []; left = [] }

  -- caller 1 at the start, which counts itself
  abbrev pub first_caller : Caller A R
  first_caller = record { number = 1; calls = 0; given = 1; seen = []; mine = []; found = []; left = [] }

  -- one number more was given
  abbrev pub gave : Caller A R → Caller A R
  gave c = record c { given = c.given + 1 }

  -- one call more was begun
  abbrev pub counted : Caller A R → Caller A R
  counted c = record c { calls = c.calls + 1 }

  -- a call was refused
  abbrev pub refused : List (HappenedOf A R) → List (HappenedOf A R) → Caller A R → Caller A R
  refused found left c = record c { found = found; left = left }

  -- a call was answered: all that the journal has was seen
  abbrev pub answered : List (HappenedOf A R) → List (HappenedOf A R) → Caller A R → Caller A R
  answered found left c = record c { seen = left; mine = entries_of c.number left; found = found; left = left }

  abbrev pub on_first : (Caller A R → Caller A R) → List (Caller A R) → List (Caller A R)
  on_first change [] = []
  on_first change (c ∷ cs) = change c ∷ cs

  abbrev pub first_or : List (Caller A R) → Caller A R
  first_or [] = first_caller
  first_or (c ∷ cs) = c

  abbrev pub OnFirst : (Caller A R → Type 0) → List (Caller A R) → Type 0
  OnFirst P [] = Unit {0}
  OnFirst P (c ∷ cs) = P c

module _ {O A R : Type 0} where
  -- a seat without a ticket, with one that is not served yet, and with the turn
  abbrev pub resting : Caller A R → View O A R
  resting c = record { ticket = None; took = None; callers = c ∷ [] }

  abbrev pub waiting : Caller A R → ℕ → View O A R
  waiting c t = record { ticket = Some t; took = None; callers = c ∷ [] }

  abbrev pub winner : Caller A R → ℕ → Book O A R → View O A R
  winner c t b = record { ticket = Some t; took = Some b; callers = c ∷ [] }

  -- a seat that speaks for these callers at the end
  abbrev pub gathered : List (Caller A R) → View O A R
  gathered cs = record { ticket = None; took = None; callers = cs }

  -- the caller that a seat speaks for
  abbrev pub caller_of : View O A R → Caller A R
  caller_of v = first_or v.callers

  -- caller 1's seat is split: it counts the new number, which the new seat gets
  abbrev pub gives_number : View O A R → View O A R
  gives_number v = resting (gave (caller_of v))

  abbrev pub next_caller : View O A R → View O A R
  next_caller v = resting (newcomer ((caller_of v).given + 1))

  -- two seats are joined: one keeps all that both knew, and the other is spent
  abbrev pub both : View O A R → View O A R → View O A R
  both v w = gathered (w.callers ++ v.callers)

  abbrev pub nobody : View O A R
  nobody = gathered []

  -- a ticket is drawn, the turn is won with the book in the slot, and the turn is given up
  abbrev pub draws : View O A R → ℕ → View O A R
  draws v r = record { ticket = Some r; took = None; callers = on_first counted v.callers }

  abbrev pub wins : View O A R → Book O A R → View O A R
  wins v b = record { ticket = v.ticket; took = Some b; callers = v.callers }

  abbrev pub gives_up : (Caller A R → Caller A R) → View O A R → View O A R
  gives_up change v = record { ticket = None; took = None; callers = on_first change v.callers }
