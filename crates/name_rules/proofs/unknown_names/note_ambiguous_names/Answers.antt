use Rattle.std.proofs.Common.{sym, subst, List}
use Rattle.std.specs.Prelude.{nat_lt}
use Rattle.data_names.specs.Items.{DataItem}
use Rattle.data_names.specs.References.{count_of_matches}
use Rattle.name_rules.specs.declared.mentions.Mention.{Mention}
use Rattle.name_rules.specs.Mentions.{references, subscript_items}
use Rattle.name_rules.specs.Mentions as m
use Rattle.name_rules.specs.SeenMentions.{AreFoundAs}
use Rattle.name_rules.proofs.Noted.{noted_parts}
use Rattle.name_rules.proofs.unknown_names.note_ambiguous_names.Goals as goal

pub returns : goal.returns
returns c = λ front (items : List DataItem) h.
    let first = subst (λ (made : List Mention). AreFoundAs items (references front) made) (sym c.as_slice.ensures.value) h.references_are in
    let second = subst (λ (made : List Mention). AreFoundAs items (subscript_items front) made) (sym c.as_slice-2.ensures.value) h.subscripts_are in
    noted_parts 2 (λ (one : m.Mention). one.line) (λ (one : m.Mention). nat_lt 1 (count_of_matches items one.reference)) (references front) (subscript_items front) _ _ _
    (c.in_ok-note_ambiguous.ensures items (references front) first) (c.in_ok-note_ambiguous-2.ensures items (subscript_items front) second)
