use Rattle.std.proofs.Common.{◌≡◌, ◌∙◌, refl, sym, ap, subst, false, Bool, ℕ, List, Option, ◌||◌}
use Rattle.std.specs.Prelude.{IfOk, position}
use Rattle.cob_base.specs.declared.divisions.Front.{Front}
use Rattle.cob_base.specs.declared.file_entries.FileEntry.{FileEntry}
use Rattle.data_names.specs.Items.{DataItem}
use Rattle.data_names.specs.Table.{items_of}
use Rattle.key_rules.specs.KeyPlaces.{description_of, is_unsized_under, has_bad_clauses, has_no_key, are_at_one_place, has_bad_keys}
use Rattle.key_rules.proofs.key_places.has_bad_keys.Goals as goal

bad_is : (front : Front) (items : List DataItem) (file : FileEntry) (number : Option ℕ) → has_bad_clauses file.clauses ≡ false → number ≡ description_of front file.name
    → (has_no_key items number file || are_at_one_place items number file) ≡ has_bad_keys front items file
bad_is front items file number c n = rw (n, c) refl

pub returns : goal.returns
returns c = λ front h.
    let items = items_of c.args.table.now in
    let file = c.args.file.now in
    let known = c.in_ok-description.ensures front items h in
    let clauses : has_bad_clauses file.clauses ≡ false = ap has_bad_clauses (sym c.as_slice.ensures) ∙ sym c.has_bad_clauses.ensures ∙ c.if-has_bad_clauses.false in
    let number = c.number_of.ensures front items file.name known in
    let unsized = c.unsized_under.ensures front items file.name known ∙ ap (λ (one : Option ℕ). position (is_unsized_under one) items) (sym number) in
    subst (λ (b : Bool). IfOk c.are_bad.result (λ bad. bad ≡ b)) (bad_is front items file c.number_of.result clauses number) (c.are_bad.ensures unsized)
