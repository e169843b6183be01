use Rattle.std.proofs.Common.{◌≡◌, ◌∷◌, ◌++◌, [], List, Err, drop, refl, ◌∙◌, subst, sym, ap}
use Rattle.cobol_words.specs.declared.cutter.Stage.{Stage}
use Rattle.cobol_words.specs.declared.fault.WordFault.TheVariants as faults
use Rattle.cobol_words.specs.Joined.{Piece, cells}
use Rattle.cobol_words.specs.Text.{words_or_fault}
use Rattle.cobol_words.specs.Cutting.{IsAt, ahead}
use Rattle.cobol_words.proofs.Endings.{open_at_end, broken_at}
use Rattle.cobol_words.proofs.Stages.{goes_on_to}
use Rattle.cobol_words.proofs.Trims.{some_bytes, behind_other, behind_same, literal_goes_on}
use Rattle.cobol_words.proofs.joining.continue_literal.Goals as goal

pub split_at-requires : goal.split_at-requires
split_at-requires c = some_bytes c.args.mark.byte c.args.text.now (sym c.begins_with.ensures ∙ c.if-not-begins_with.false)

pub returns-then-not-last-clause-found : goal.returns-then-not-last-clause-found
returns-then-not-last-clause-found c after =
    let cutter = c.args.cutter.now in
    let o = subst (λ (s : Stage). IsAt s cutter.before cutter.cells.items) c.requires.stage c.requires.kept in
    rw (c.if-not-last.true, c.requires.stage) (open_at_end cutter.words cutter.before c.args.mark cutter.cells.items _ o)

pub returns-then-not-begins_with-clause-found : goal.returns-then-not-begins_with-clause-found
returns-then-not-begins_with-clause-found c after =
    let line = c.args.line.now.line in
    let e = literal_goes_on c.args.mark.byte c.args.last.now c.args.line.now c.args.text.now (Piece.wrong line ∷ []) after c.if-not-last.false c.requires.text
    (behind_other c.args.mark.byte line c.args.text.now (sym c.begins_with.ensures ∙ c.if-not-begins_with.true)) in
    let new = c.fill.new.cutter in
    let o = subst (λ (s : Stage). IsAt s new.before new.cells.items) c.in_ok-fill.ensures.stage c.in_ok-fill.ensures.kept in
    let broken : words_or_fault (ahead new (Piece.wrong line ∷ after)) ≡ Err (faults.BadContinuation line) =
    rw c.in_ok-fill.ensures.stage (broken_at new.words new.before c.args.mark new.cells.items line after o) in
    ap (λ (t : List Piece). words_or_fault (ahead c.args.cutter.now t)) e ∙ ap words_or_fault (sym (c.in_ok-fill.ensures.found (Piece.wrong line ∷ after))) ∙ broken

pub returns-clause-found : goal.returns-clause-found
returns-clause-found c after =
    let line = c.args.line.now.line in
    let e = literal_goes_on c.args.mark.byte c.args.last.now c.args.line.now c.args.text.now (cells line (drop 1 c.args.text.now)) after c.if-not-last.false c.requires.text
    (behind_same c.args.mark.byte line c.args.text.now (sym c.begins_with.ensures ∙ c.if-not-begins_with.false)) in
    let rest : ahead c.fill.new.cutter (cells line c.split_at.result.1.now ++ after) ≡ ahead c.fill.new.cutter (cells line (drop 1 c.args.text.now) ++ after) =
    rw c.split_at.ensures.back refl in
    goes_on_to c.read_text.result _ _ _ (rest ∙ c.in_ok-fill.ensures.found (cells line (drop 1 c.args.text.now) ++ after) ∙ ap (λ (t : List Piece). ahead c.args.cutter.now t) (sym e)) (c.read_text.ensures.found after)
