use Rattle.std.proofs.Common.{◌≡◌, ◌<◌, ◌≤◌, arith, length, Some}
use Rattle.std.specs.Prelude.{slice_get}
use Rattle.std.proofs.lemmas.Option.{slice_get_read}
use Rattle.data_names.specs.Seen.{seen_item}
use Rattle.key_rules.proofs.DescriptionsOf.{set_known, past_all}
use Rattle.key_rules.proofs.descriptions.see.Goals as goal

pub returns-then-number-len-clause-known : goal.returns-then-number-len-clause-known
returns-then-number-len-clause-known c = λ before e h k one g.
    let known = c.args.known.now.items in
    let i = c.in-Some.number in
    let within : i < length known = omega arith in
    let here : slice_get known i ≡ Some c.index.result.now = slice_get_read known (length known) i c.index.result.now (omega arith) within c.index.ensures in
    set_known before (seen_item c.args.item.now) known i k c.with_item.result one c.in-Some.is within h (c.with_item.ensures before i e c.in-Some.is (h i c.index.result.now here)) g

pub returns-else-number-len-clause-known : goal.returns-else-number-len-clause-known
returns-else-number-len-clause-known c = λ before e h k one g.
    let past : length c.args.known.now.items ≤ c.in-Some.number = omega arith in
    past_all before (seen_item c.args.item.now) c.args.known.now.items c.in-Some.number k one c.in-Some.is past h g
