use Rattle.std.proofs.Common.{◌≡◌, ◌∙◌, ap, sym, List, ◌++◌, append_assoc}
use Rattle.name_rules.specs.declared.fault.Fault.{Fault}
use Rattle.front_rules.proofs.front_faults.note_front_faults.Goals as goal

with_one : (old mid new a b : List Fault) → mid ≡ old ++ a → new ≡ mid ++ b → new ≡ old ++ (a ++ b)
with_one old mid new a b m e = e ∙ ap (λ front. front ++ b) m ∙ append_assoc old a b

with_two : (old mid new a b c : List Fault) → mid ≡ old ++ a → new ≡ mid ++ (b ++ c) → new ≡ old ++ ((a ++ b) ++ c)
with_two old mid new a b c m e = e ∙ ap (λ front. front ++ (b ++ c)) m ∙ append_assoc old a (b ++ c) ∙ ap (λ back. old ++ back) (sym (append_assoc a b c))

pub returns : goal.returns
returns c =
    let old = c.args.faults.now.found.items in
    let names = with_one old _ _ _ _ c.in_ok-note_references.ensures c.in_ok-note_double_names.ensures in
    let entries = with_two old _ _ _ _ _ names c.in_ok-note_entries.ensures in
    let kinds = with_two old _ _ _ _ _ entries c.in_ok-note_kinds.ensures in
    let outside = with_one old _ _ _ _ kinds c.in_ok-note_left_out.ensures in
    let screens = with_one old _ _ _ _ outside c.in_ok-note_off_screen.ensures in
    with_one old _ _ _ _ screens (c.in_ok-note_miscounted.ensures c.args.front.now c.in_ok-mentions.ensures)
