use Rattle.std.proofs.Common.{◌≡◌, ◌∙◌, refl, sym, ap, ℕ, Bool, List, Option, Some, Vec, Global}
use Rattle.std.specs.Prelude.{if◌then◌else◌}
use Rattle.std.specs.Str.{bytes_eq}
use Rattle.data_names.specs.Names.{in_small}
use Rattle.name_rules.specs.DoubleNames.{Declared}
use Rattle.name_rules.specs.SeenNames.{seen_class, named_as, state_under, state_of, clashes_with, besides}
use Rattle.name_rules.proofs.TextKeys.{updates_by}
use Rattle.name_rules.proofs.Clashes.{clash_is, state_more, state_put}
use Rattle.name_rules.proofs.double_names.KnownNames.declare.Goals as goal

pub returns : goal.returns
returns c = λ line before h.
    let name = in_small c.args.name.now in
    let class = seen_class c.args.class in
    let one : Declared = named_as line c.args.name.now class in
    let same : c.in_ok-key.key.items ≡ name = c.in_ok-key.ensures in
    let earlier : c.state-earlier.result ≡ state_of name before = c.state-earlier.ensures ∙ ap (state_under c.args.self.now) (c.as_slice.ensures.value ∙ same) ∙ h name in (
      c.clashes_with.ensures ∙ ap (λ (o : Option Bool). clashes_with o class) earlier ∙ clash_is before one,
      λ (key : List ℕ).
          let put = updates_by (λ (other : Vec ℕ Global). other.items) c.in_ok-key.key.items c.args.self.now.names c.insert.new.self (Some c.besides.result) c.in_ok-insert.ensures.updates key in
          let now = Some c.besides.result in
          put
          ∙ ap (λ (bs : List ℕ). if bytes_eq bs key then now else state_under c.args.self.now key) same
          ∙ state_put key name (bytes_eq name key) now (state_under c.args.self.now key) (λ (bs : List ℕ). Some (besides (state_of bs before) class)) refl
          (ap Some (c.besides.ensures ∙ ap (λ (o : Option Bool). besides o class) earlier))
          ∙ ap (λ (o : Option Bool). if bytes_eq name key then Some (besides (state_of key before) class) else o) (h key)
          ∙ sym (state_more key before one),
    )
