use Rattle.std.proofs.Common.{◌≡◌, ◌∙◌, refl, Bool, true, false, not, ◌||◌, nat_lt, length}
use Rattle.cob_value.specs.Figures.{is_alphanumeric}
use Rattle.screen_rules.proofs.screen_kinds.is_bad_constant.Goals as goal

-- a text may be moved into any picture
no_more : (a b : Bool) → a ≡ (a || not (b || true))
no_more true b = refl
no_more false true = refl
no_more false false = refl

pub returns-in-Text : goal.returns-in-Text
returns-in-Text c = rw c.in-Text.is (c.is_long.ensures ∙ no_more (nat_lt 9999 (length c.in-Text.text)) (not (is_alphanumeric c.args.to.now.kind)))

pub returns-in-Number : goal.returns-in-Number
returns-in-Number c = rw c.in-Number.is (c.is_bad_number.ensures c.in-Number.number.signed)
