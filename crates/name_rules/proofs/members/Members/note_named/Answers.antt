use Rattle.std.proofs.Common.{◌∙◌, ap, not, ◌==◌, ◌||◌, ◌&&◌, ℕ, List}
use Rattle.std.specs.Str.{bytes_eq}
use Rattle.data_names.specs.Names.{in_small}
use Rattle.name_rules.specs.SeenMembers.{has_member}
use Rattle.name_rules.proofs.Twins.{named}
use Rattle.name_rules.proofs.members.Members.note_named.Goals as goal

pub returns : goal.returns
returns c = λ before h.
    let name = c.args.name.now in
    let made = named before c.args.line c.args.group name c.args.self.now c.add.new.self c.in_ok-is_new.is_new c.args.faults.now.found.items _
    (c.in_ok-is_new.ensures.new ∙ ap (λ (bs : List ℕ). not (has_member c.args.self.now c.args.group (in_small bs))) c.as_bytes.ensures)
    (λ (number : ℕ) (key : List ℕ). c.in_ok-is_new.ensures.added number key
    ∙ ap (λ (bs : List ℕ). has_member c.args.self.now number key || ((number == c.args.group) && bytes_eq (in_small bs) key)) c.as_bytes.ensures)
    c.in_ok-note.ensures h in
    (made.found, made.members)
