use Rattle.std.proofs.Common.{◌≡◌, ◌++◌, ◌∷◌, [], ◌∙◌, false, refl, ap}
use Rattle.std.specs.Prelude.{◌==◌, ◌&&◌}
use Rattle.std.proofs.lemmas.Bool.{ne_eqb}
use Rattle.cobol_words.specs.declared.cutter.Stage.TheVariants as stages
use Rattle.cobol_words.specs.Taking.{is_quote}
use Rattle.cobol_words.proofs.Stages.{on_ok, moved, outside_push, outside_front, ends_in_star, ends_in_star-last}
use Rattle.cobol_words.proofs.cutter.Cutter.read_greater_behind.Goals as goal

pub returns-then-last-ne42-clause-kept : goal.returns-then-last-ne42-clause-kept
returns-then-last-ne42-clause-kept c =
    let s : (c.args.cell.byte == 32) ≡ false = rw c.requires.greater refl in
    let q : is_quote c.args.cell.byte ≡ false = rw c.requires.greater refl in
    let m : (ends_in_star (c.args.self.now.cells.items ++ c.args.last ∷ []) && (c.args.cell.byte == 62)) ≡ false =
    rw (ends_in_star-last c.args.self.now.cells.items c.args.last, ne_eqb _ _ c.if-last-ne42.true) refl in
    on_ok c.push-then-last-ne42.result (λ e. moved stages.Outside _ c.args.self.now.before _ _ _ (c.push-then-last-ne42.ensures.stage ∙ c.in_ok-push.ensures.stage ∙ c.requires.stage)
    (c.push-then-last-ne42.ensures.before ∙ c.in_ok-push.ensures.before) (e ∙ ap (λ (xs : _). xs ++ c.args.cell ∷ []) c.in_ok-push.ensures.cells)
    (outside_push c.args.self.now.before (c.args.self.now.cells.items ++ c.args.last ∷ []) c.args.cell c.requires.outside s m (λ _. q))) c.push-then-last-ne42.ensures.cells

pub end_cells-requires-clause-outside : goal.end_cells-requires-clause-outside
end_cells-requires-clause-outside c = outside_front c.args.self.now.before c.args.self.now.cells.items c.args.last c.requires.outside
