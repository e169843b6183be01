use Rattle.std.proofs.Common.{◌≡◌, [], ap, refl, sym, ◌∙◌, Some, None, Option, inl}
use Rattle.picture_rule.proofs.Endings.{ended, sign_after}
use Rattle.picture_rule.proofs.Parts.{no_marks}
use Rattle.picture_rule.proofs.Numbers.{no_rest, some_rest}
use Rattle.picture_rule.specs.Reading.{marks_of, sign_length}
use Rattle.picture_rule.specs.declared.run.Symbol.{Symbol}
use Rattle.picture_rule.proofs.edited_form.ending.Goals as goal

pub returns-then-is_empty-clause-found : goal.returns-then-is_empty-clause-found
returns-then-is_empty-clause-found c = ([], no_marks _ (no_rest _ _ c.is_empty.ensures c.if-is_empty.true), inl refl, refl)

pub returns-in-None-clause-only : goal.returns-in-None-clause-only
returns-in-None-clause-only c after w h =
    let e = ended _ after _ (some_rest _ _ c.is_empty.ensures c.if-is_empty.false) w h c.last_symbol.ensures.only in
    let bad : ◌≡◌ {A = Option Symbol} None (Some e.0) = sym c.in-None.is ∙ e.1 in absurd (cc)

pub returns-then-bytes-eq0-clause-only : goal.returns-then-bytes-eq0-clause-only
returns-then-bytes-eq0-clause-only c after w h =
    let e = ended _ after _ (some_rest _ _ c.is_empty.ensures c.if-is_empty.false) w h c.last_symbol.ensures.only in
    let same : ◌≡◌ {A = Option Symbol} (Some c.in-Some.symbol) (Some e.0) = sym c.in-Some.is ∙ e.1 in
    let is : c.in-Some.symbol ≡ e.0 = cc in
    e.3 (ap sign_length (sym is) ∙ sym c.sign_bytes-bytes.ensures ∙ c.if-bytes-eq0.true)

pub returns-else-bytes-eq0-clause-only : goal.returns-else-bytes-eq0-clause-only
returns-else-bytes-eq0-clause-only c after w h =
    let e = ended _ after _ (some_rest _ _ c.is_empty.ensures c.if-is_empty.false) w h c.last_symbol.ensures.only in
    let same : ◌≡◌ {A = Option Symbol} (Some c.in-Some.symbol) (Some e.0) = sym c.in-Some.is ∙ e.1 in
    let is : c.in-Some.symbol ≡ e.0 = cc in
    c.sign_bytes-bytes.ensures ∙ ap sign_length is ∙ e.2

pub returns-else-bytes-eq0-clause-found : goal.returns-else-bytes-eq0-clause-found
returns-else-bytes-eq0-clause-found c =
    let sign = sign_after c.in-Some.symbol (λ e. c.if-bytes-eq0.false (c.sign_bytes-bytes.ensures ∙ e)) in
    (marks_of c.in-Some.symbol, c.in-Some.ensures.found, sign.0, c.sign_bytes-bytes.ensures ∙ sign.1)
