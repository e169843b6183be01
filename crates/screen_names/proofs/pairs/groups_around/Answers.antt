use Rattle.std.proofs.Common.{◌≡◌, ◌∙◌, refl, ap, sym, arith, ◌-◌, ◌+◌, ◌∷◌, [], map, ℕ, List, Option, Some, None, Bor}
use Rattle.std.specs.Option.{option_copied}
use Rattle.std.proofs.lemmas.List.{map-append}
use Rattle.data_names.specs.Seen.{seen_name}
use Rattle.screen_names.proofs.PairLists.{names_more, names_none, names_end}
use Rattle.screen_names.proofs.pairs.groups_around.Goals as goal

seen_copied : (name : Option (Bor (List ℕ))) → seen_name name ≡ option_copied name
seen_copied None = refl
seen_copied (Some name) = refl

pub returns-in_default : goal.returns-in_default
returns-in_default c =
    names_none (map seen_name c.loop-step.groups.items) _ c.args.items.now c.loop-step.next (c.args.most - c.loop-step._step) (c.args.most - (c.loop-step._step + 1)) (omega arith)
    (sym c.item_of.ensures ∙ ap option_copied c.in_default.is) c.loop-step.invariant

pub loop-step-preserved : goal.loop-step-preserved
loop-step-preserved c = rw c.wide-next-in-loop-step.ensures
    (names_more (map seen_name c.loop-step.groups.items) _ _ (seen_name c.as_ref.result) c.args.items.now c.loop-step.next (c.args.most - c.loop-step._step) (c.args.most - (c.loop-step._step + 1)) c.in-Some.group.now (omega arith)
    (sym c.in-Some.ensures) (seen_copied c.as_ref.result ∙ c.as_ref.ensures.value) (ap (map seen_name) c.in_ok-push.ensures.items ∙ map-append seen_name c.loop-step.groups.items (c.as_ref.result ∷ [])) c.loop-step.invariant)

pub returns : goal.returns
returns c = names_end (map seen_name c.loop-step.groups.items) _ c.args.items.now c.loop-step.next (c.args.most - c.loop-step._step) (omega arith) c.loop-step.invariant
