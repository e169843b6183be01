use Rattle.std.proofs.Common.{◌≡◌, ◌<◌, ◌*◌, ℕ, length, get_or, sym, subst, arith}
use Rattle.perform_cycles.specs.Lowest.{IsLow, AreLower}
use Rattle.perform_cycles.proofs.Halved.{halved_is}
use Rattle.perform_cycles.proofs.lowest.Level.halved.Goals as goal

pub returns-in_ok-lower_of_two-in-Some : goal.returns-in_ok-lower_of_two-in-Some
returns-in_ok-lower_of_two-in-Some c = λ numbers is.
    let made = c.in_ok-lower_of_two-in-Some.field-0.items in
    let lower : AreLower c.args.self.now.lows.items made = subst (λ lows. AreLower lows made) c.as_slice.ensures.value c.in_ok-lower_of_two-in-Some.ensures in
    let double : c.in-Some.width ≡ c.args.self.now.width * 2 = c.in-Some.ensures in
    record {
      wide = omega (arith, is.wide, double);
      lows = subst (λ w. (i : ℕ) → i < length made → IsLow numbers (i * w) w (get_or made i 0)) (sym double)
          (halved_is numbers c.args.self.now.lows.items made c.args.self.now.width lower is.lows);
    }
