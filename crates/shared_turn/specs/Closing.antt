-- What is known at the end, where one seat speaks for all callers.
use Rattle.std.specs.Prelude.{◌≡◌, ◌+◌, List, length, map, All, Contains}
use mathlib.Core.List.{IsPrefix}
use Rattle.shared_turn.specs.declared.happened.HappenedOf.{HappenedOf}
use Rattle.shared_turn.specs.declared.view.Caller.{Caller}
use Rattle.shared_turn.specs.Serial.{Object}
use Rattle.shared_turn.specs.Journal.{entries_of, Legal, state_after}

-- what the journal at the end says of a caller
pub record Agrees {A R : Type 0} (log : List (HappenedOf A R)) (c : Caller A R) : Type 0 where
  pub seen : IsPrefix c.seen log
  pub found : IsPrefix c.found log
  pub left : IsPrefix c.left log
  pub mine : c.mine ≡ entries_of c.number log

-- the object and the journal at the end, from the object start, and what the callers know of them
pub record Finished {O A R St : Type 0} (obj : Object O A R St) (start : O) (callers : List (Caller A R)) (serial : O) (log : List (HappenedOf A R)) : Type 0 where
  pub legal : Legal obj (obj.state start) log
  pub state : obj.state serial ≡ state_after obj (obj.state start) log
  pub taken : obj.taken serial ≡ obj.taken start + length log
  pub lists : All (Agrees log) callers
  pub whose : All (λ e. Contains (map (λ (c : Caller A R). c.number) callers) e.who) log
