-- What clauses say of a turn and of its passes.
use Rattle.std.specs.Prelude.{◌≡◌, ℕ, List, [], ◌∷◌, ◌++◌}
use mathlib.Core.List.{IsPrefix}
use Rattle.shared_turn.specs.declared.happened.HappenedOf.{HappenedOf}
use Rattle.shared_turn.specs.declared.pass.PassOf.{PassOf}
use Rattle.shared_turn.specs.declared.turn.Turn.{Turn}
use Rattle.shared_turn.specs.Journal.{entry, entries_of}
use Rattle.shared_turn.specs.View.{caller_of}

module _ {S A R St : Type 0} where
  -- the object with which the turn was opened
  abbrev pub start_of : Turn S A R St → S
  start_of turn = turn.table.shared.key.serial.value

  -- for how many callers it was opened
  abbrev pub callers_of : Turn S A R St → ℕ
  callers_of turn = turn.table.shared.key.callers

  -- the pass is one of the turn's
  abbrev pub IsPassOf : Turn S A R St → PassOf S A R → Type 0
  IsPassOf turn pass = pass.seat.table_id ≡ turn.table.shared.table_id

module _ {S A R : Type 0} where
  -- the number of the pass's caller, and the calls that were made with the pass
  abbrev pub number_of : PassOf S A R → ℕ
  number_of pass = pass.number

  abbrev pub asked_of : PassOf S A R → ℕ
  asked_of pass = pass.asked

  -- the journal as of the latest answered call, and the caller's own entries. A pass keeps neither when it runs
  abbrev pub seen_of : PassOf S A R → List (HappenedOf A R)
  seen_of pass = (caller_of pass.seat.me.0).seen

  abbrev pub mine_of : PassOf S A R → List (HappenedOf A R)
  mine_of pass = (caller_of pass.seat.me.0).mine

  -- the journal as the latest call found it, and as that call left it
  abbrev pub found_of : PassOf S A R → List (HappenedOf A R)
  found_of pass = (caller_of pass.seat.me.0).found

  abbrev pub left_of : PassOf S A R → List (HappenedOf A R)
  left_of pass = (caller_of pass.seat.me.0).left

  -- the pass of the caller n, which has not asked yet
  pub record IsNew (n : ℕ) (pass : PassOf S A R) : Type 0 where
    pub number : number_of pass ≡ n
    pub asked : asked_of pass ≡ 0
    pub seen : seen_of pass ≡ []
    pub mine : mine_of pass ≡ []

  -- The call that made a pass of `old` found what the caller had seen and, behind it, what others did since
  pub record Found (old new : PassOf S A R) : Type 0 where
    pub between : List (HappenedOf A R)
    pub found : found_of new ≡ seen_of old ++ between
    pub others : entries_of (number_of old) between ≡ []

  -- An answered call: it left the journal with its own entry behind what it found, and this is what the caller has seen now
  pub record IsAnswered (old new : PassOf S A R) (ask : A) (reply : R) : Type 0 where
    pub found : Found old new
    pub left : left_of new ≡ found_of new ++ entry (number_of old) ask reply ∷ []
    pub seen : seen_of new ≡ left_of new
    pub mine : mine_of new ≡ mine_of old ++ entry (number_of old) ask reply ∷ []

  -- A refused call: it left the journal as it found it, and the pass's lists are as before
  pub record IsRefused (old new : PassOf S A R) : Type 0 where
    pub found : Found old new
    pub left : left_of new ≡ found_of new
    pub seen : seen_of new ≡ seen_of old
    pub mine : mine_of new ≡ mine_of old

  -- What the journal at the end says of a pass: what the caller saw begins it, and so does what its latest call found and left; its `mine` is the caller's entries, each once and in order
  pub record AgreesWith (journal : List (HappenedOf A R)) (pass : PassOf S A R) : Type 0 where
    pub seen : IsPrefix (seen_of pass) journal
    pub found : IsPrefix (found_of pass) journal
    pub left : IsPrefix (left_of pass) journal
    pub mine : mine_of pass ≡ entries_of (number_of pass) journal
