use Rattle.std.proofs.Common.{◌≡◌, Bool, true, false, not, ◌||◌}
use Rattle.screen_rules.proofs.screen_kinds.is_bad_number.Goals as goal

-- a number that a literal writes is judged by its digits alone
judged : (result written bad cut : Bool) → result ≡ written → result ≡ true → cut ≡ bad → cut ≡ (not written || bad)
judged result true bad cut e h k = k
judged result false bad cut e h k = cc (e, h)

pub returns : goal.returns
returns c = λ signed. judged _ _ _ _ c.is_literal.ensures c.if-not-is_literal.false (c.is_cut_number.ensures c.args.digits signed)
