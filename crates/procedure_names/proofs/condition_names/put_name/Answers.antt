use Rattle.std.proofs.Common.{◌≡◌, ◌∙◌, refl, sym, ap, ℕ, Bool, ◌&&◌, List, [], ◌∷◌, ◌++◌, map, reverse, Option, Some, None, Bor}
use Rattle.std.specs.Prelude.{if◌then◌else◌}
use Rattle.std.specs.List.{list_any}
use Rattle.std.specs.Option.{option_copied}
use Rattle.data_names.specs.Items.{DataItem}
use Rattle.data_names.specs.Asked.{is_asked}
use Rattle.data_names.specs.Names.{with_number, numbers_under}
use Rattle.data_names.specs.Pairs.{is_pair}
use Rattle.data_names.specs.References.{names_around}
use Rattle.data_names.specs.Seen.{seen_name}
use Rattle.procedure_names.proofs.NamesOf.{own_put}
use Rattle.procedure_names.proofs.condition_names.put_name.Goals as goal

seen_copied : (name : Option (Bor (List ℕ))) → seen_name name ≡ option_copied name
seen_copied None = refl
seen_copied (Some name) = refl

pub returns : goal.returns
returns c = λ one e f none.
    let at = c.args.at in
    let old = numbers_under c.args.numbers.now in
    let called = one.entry.name in
    let groups : List (Option (List ℕ)) = reverse (names_around one.spot) in
    let facts = c.facts_at.ensures one.spot f in
    let around : map seen_name c.as_slice-groups.result.now ≡ groups = ap (map seen_name) c.as_slice-groups.ensures.value ∙ facts.groups in
    let item = c.item_at.ensures one.spot f in
    let own : seen_name c.as_ref-own.result ≡ one.spot.item.text.name =
    seen_copied c.as_ref-own.result ∙ c.as_ref-own.ensures.value ∙ sym (ap (λ (other : DataItem). other.text.name) item) in
    λ (key : List ℕ).
    let g = is_asked c.args.asked.now key in
    let mid = numbers_under c.put_in_groups.new.numbers key in
    own_put (list_any (is_pair key called) groups) (is_pair key called one.spot.item.text.name) g (old key) mid _ at (none key)
    (c.in_ok-put_in_groups.ensures none key ∙ ap (λ (b : Bool). if b && g then old key ++ at ∷ [] else old key)
    (ap (λ (name : List ℕ). list_any (is_pair key name) (map seen_name c.as_slice-groups.result.now)) (c.as_bytes.ensures ∙ sym e) ∙ ap (list_any (is_pair key called)) around))
    (c.in_ok-put_in_group.ensures key ∙ ap (λ (b : Bool). if b && g then with_number mid at else mid)
    (ap (λ (name : List ℕ). is_pair key name (seen_name c.as_ref-own.result)) (c.as_bytes-2.ensures ∙ sym e) ∙ ap (is_pair key called) own))
