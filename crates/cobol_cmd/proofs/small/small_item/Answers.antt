use Rattle.std.proofs.Common.{refl, arith}
use Rattle.cobol_cmd.proofs.Tails.{same_tail, joined}
use Rattle.cobol_cmd.proofs.small.small_item.Goals as goal

pub returns-in_err-screen-clause-none : goal.returns-in_err-screen-clause-none
returns-in_err-screen-clause-none c = λ none line column bytes small.
    c.in_err-screen.ensures.none refl _ _ (same_tail 7 _ _ _ c.in_ok-rest.ensures.found.1 small.words_are)

pub returns-in_err-item-clause-none : goal.returns-in_err-item-clause-none
returns-in_err-item-clause-none c = λ none line column bytes small.
    let from_data = same_tail 7 _ _ _ c.in_ok-rest.ensures.found.1 small.words_are in
    c.in_err-item.ensures.none refl line column _ _ (omega (arith, small.on_screen.last_line)) (omega (arith, small.on_screen.last_column)) (same_tail 9 _ _ _ c.in_ok-screen.ensures.found from_data)

pub returns-then-is_on_screen-clause-found : goal.returns-then-is_on_screen-clause-found
returns-then-is_on_screen-clause-found c = record {
  program = c.in_ok-rest.ensures.found.0;
  screen = c.in_ok-screen.screen.now;
  words_are = joined _ _ _ _ _ _ _ _ _ _ c.in_ok-rest.ensures.found.1 c.in_ok-screen.ensures.found c.in_ok-item.ensures.found c.in_ok-displayed.ensures.found (c.eq_ignore_ascii_case.ensures.test.0 c.if-eq_ignore_ascii_case.true);
  on_screen = c.is_on_screen.ensures.0 c.if-is_on_screen.true;
}
