-- What holds between any two steps. Word 0 is the next ticket, word 1 the ticket that is served, and the one slot has the book: the object and its journal.
use Rattle.std.specs.Prelude.{◌≡◌, ◌⊎◌, ◌==◌, ℕ, ◌+◌, ◌<◌, ◌≤◌, ◌^◌, Bool, true, false, Option, Some, None, List, [], ◌∷◌, length, All}
use Rattle.std.specs.List.{sum_by}
use mathlib.Core.Option.{some, none}
use mathlib.Core.List.{IsPrefix}
use lib.ListN.{get_elem?}
use Rattle.atomic_table.specs.Table.{State}
use Rattle.shared_turn.specs.declared.happened.HappenedOf.{HappenedOf}
use Rattle.shared_turn.specs.declared.view.Book.{Book}
use Rattle.shared_turn.specs.declared.view.Caller.{Caller}
use Rattle.shared_turn.specs.declared.view.View.{View}
use Rattle.shared_turn.specs.Serial.{Object}
use Rattle.shared_turn.specs.Journal.{entries_of, Legal, state_after}

abbrev pub bit : Bool → ℕ
bit true = 1
bit false = 0

abbrev pub is_ticket : ℕ → Option ℕ → ℕ
is_ticket t None = 0
is_ticket t (Some u) = bit (u == t)

abbrev pub some_ticket : Option ℕ → ℕ
some_ticket None = 0
some_ticket (Some t) = 1

-- n is 1 where low ≤ t and t < high, and 0 for every other t
pub record OneWithin (low high t n : ℕ) : Type 0 where
  pub below : t < low → n ≡ 0
  pub one : low ≤ t → t < high → n ≡ 1
  pub above : high ≤ t → n ≡ 0

module _ {A R : Type 0} where
  abbrev pub has_number : ℕ → Caller A R → ℕ
  has_number x c = bit (c.number == x)

  abbrev pub has_seen : ℕ → Caller A R → ℕ
  has_seen n c = bit (length c.seen == n)

  -- What is known of one caller, where the journal is log and count numbers were given
  pub record CallerIn (count : ℕ) (log : List (HappenedOf A R)) (c : Caller A R) : Type 0 where
    -- it has begun at most 2^32 calls
    pub calls : c.calls ≤ 2 ^ 32
    -- its `seen` is a prefix of the journal, and so is what its latest call found and left
    pub seen : IsPrefix c.seen log
    pub found : IsPrefix c.found log
    pub left : IsPrefix c.left log
    -- its entries in the journal are its `mine`, and it has seen them all
    pub mine : c.mine ≡ entries_of c.number log
    pub own : c.mine ≡ entries_of c.number c.seen
    -- caller 1 holds the count of the numbers
    pub given : c.number ≡ 1 → c.given ≡ count

module _ {O A R : Type 0} where
  -- of one view: 1 where it has the ticket t, 1 where it has any ticket, how many of its callers have the number x, the calls that they have begun, how many they are, and how many have seen n entries
  abbrev pub has_ticket : ℕ → View O A R → ℕ
  has_ticket t v = is_ticket t v.ticket

  abbrev pub has_some_ticket : View O A R → ℕ
  has_some_ticket v = some_ticket v.ticket

  abbrev pub numbers_in : ℕ → View O A R → ℕ
  numbers_in x v = sum_by (has_number x) v.callers

  abbrev pub calls_in : View O A R → ℕ
  calls_in v = sum_by (λ (c : Caller A R). c.calls) v.callers

  abbrev pub callers_in : View O A R → ℕ
  callers_in v = length v.callers

  abbrev pub seen_in : ℕ → View O A R → ℕ
  seen_in n v = sum_by (has_seen n) v.callers

  pub record Tickets (ticket serving : ℕ) (views : List (View O A R)) : Type 0 where
    -- serving plus the number of views with a ticket is ticket
    pub waiting : serving + sum_by has_some_ticket views ≡ ticket
    -- each ticket from serving on and below ticket is held by one view, and no other: tickets differ, none is below serving, and each is below ticket
    pub held : (t : ℕ) → OneWithin serving ticket t (sum_by (has_ticket t) views)
    -- ticket is the sum of the calls begun
    pub begun : sum_by calls_in views ≡ ticket

  pub record Numbers (count : ℕ) (views : List (View O A R)) : Type 0 where
    -- the callers' numbers are 1 up to their count, each once
    pub each_once : (x : ℕ) → OneWithin 1 (count + 1) x (sum_by (numbers_in x) views)
    pub all : sum_by callers_in views ≡ count
    -- the count is at most 64
    pub most : count ≤ 64

  pub record ViewIn (serving count : ℕ) (log : List (HappenedOf A R)) (v : View O A R) : Type 0 where
    -- a view that has won has serving as its ticket
    pub won : (b : Book O A R) → v.took ≡ Some b → v.ticket ≡ Some serving
    -- a view without a caller has no ticket
    pub spent : length v.callers ≡ 0 → v.ticket ≡ None
    pub callers : (k : ℕ) (c : Caller A R) → get_elem? v.callers k ≡ some c → CallerIn count log c

module _ {O A R St : Type 0} (obj : Object O A R St) where
  -- What is known of the journal, log, where the turn was opened with the object start
  pub record JournalIn (start : O) (serving count : ℕ) (log : List (HappenedOf A R)) (views : List (View O A R)) : Type 0 where
    -- it is the longest `seen`
    pub longest : 1 ≤ sum_by (seen_in (length log)) views
    -- each entry is of a caller whose number was given
    pub whose : All (λ e. (1 ≤ e.who) × (e.who ≤ count)) log
    -- it is legal from the start, which had taken fewer than 2^39 steps
    pub legal : Legal obj (obj.state start) log
    pub early : obj.taken start < 2 ^ 39
    -- it has at most as many entries as serving counts
    pub short : length log ≤ serving

  -- The book of the journal log: its object is in the state after log, and has taken as many steps as at the start and one per entry
  pub record BookIn (start : O) (log : List (HappenedOf A R)) (b : Book O A R) : Type 0 where
    pub journal : b.journal.items ≡ log
    pub state : obj.state b.serial ≡ state_after obj (obj.state start) log
    pub taken : obj.taken b.serial ≡ obj.taken start + length log

  -- no view has won: the slot is at home and holds the book
  pub record AtHome (start : O) (log : List (HappenedOf A R)) (homes : List (mathlib.Core.Option.Option (Option (Book O A R)))) (views : List (View O A R)) : Type 0 where
    pub book : Book O A R
    pub home : homes ≡ some (Some book) ∷ []
    pub right : BookIn start log book
    pub nobody : (j : ℕ) (v : View O A R) → get_elem? views j ≡ some v → v.took ≡ None

  -- a view has won: the slot is out, and that view took the book
  pub record Out (start : O) (log : List (HappenedOf A R)) (homes : List (mathlib.Core.Option.Option (Option (Book O A R)))) (views : List (View O A R)) : Type 0 where
    pub book : Book O A R
    pub seat : ℕ
    pub view : View O A R
    pub away : homes ≡ none ∷ []
    pub right : BookIn start log book
    pub there : get_elem? views seat ≡ some view
    pub took : view.took ≡ Some book

  -- The rule, where the turn was opened with the object start for so many callers
  pub record IsInTurn (start : O) (callers : ℕ) (s : State (Option (Book O A R)) (View O A R)) : Type 0 where
    pub ticket : ℕ
    pub serving : ℕ
    pub count : ℕ
    pub log : List (HappenedOf A R)
    pub words : s.words ≡ ticket ∷ serving ∷ []
    pub tickets : Tickets ticket serving s.views
    pub numbers : Numbers count s.views
    pub within : count ≤ callers
    pub journal : JournalIn start serving count log s.views
    pub views : (j : ℕ) (v : View O A R) → get_elem? s.views j ≡ some v → ViewIn serving count log v
    pub slot : AtHome start log s.homes s.views ⊎ Out start log s.homes s.views
