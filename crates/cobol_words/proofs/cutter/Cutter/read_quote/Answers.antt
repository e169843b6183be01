use Rattle.std.proofs.Common.{◌∙◌, sym}
use Rattle.std.proofs.lemmas.Bool.{both_ways}
use Rattle.cobol_words.specs.declared.cutter.Stage.TheVariants as stages
use Rattle.cobol_words.specs.Taking.{IsSolid}
use Rattle.cobol_words.proofs.Stages.{on_ok, moved, solid_push, quote_is}
use Rattle.cobol_words.proofs.cutter.Cutter.read_quote.Goals as goal

pub returns-then-not-wants_none-clause-kept : goal.returns-then-not-wants_none-clause-kept
returns-then-not-wants_none-clause-kept c =
    let self = c.args.self.now in
    let q = quote_is c.args.cell.byte c.requires.quote in
    on_ok c.push.result (λ e. moved stages.Outside _ self.before _ _ _ (c.push.ensures.stage ∙ c.requires.stage) c.push.ensures.before e
    (solid_push self.cells.items c.args.cell c.requires.outside.0 q.0 (q.1 _), λ w. absurd (both_ways _ (sym c.wants_none.ensures ∙ c.if-not-wants_none.true) w))) c.push.ensures.cells

pub returns-clause-kept : goal.returns-clause-kept
returns-clause-kept c =
    let solid : IsSolid c.in_ok-rest.rest.items = rw c.in_ok-rest.ensures.items c.in_ok-before.ensures.solid in
    let q = quote_is c.args.cell.byte c.requires.quote in
    on_ok c.push-2.result (λ e. moved stages.Outside _ c.in_ok-before.before _ _ _ (c.push-2.ensures.stage ∙ c.requires.stage) c.push-2.ensures.before e
    (solid_push c.in_ok-rest.rest.items c.args.cell solid q.0 (q.1 _), λ w. absurd (both_ways _ (sym c.wants_none-2.ensures ∙ c.if-wants_none.false) w))) c.push-2.ensures.cells
