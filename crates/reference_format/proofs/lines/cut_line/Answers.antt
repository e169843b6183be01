use Rattle.std.proofs.Common.{◌≡◌, ◌∷◌, ◌+◌, ◌-◌, ◌≤◌, ◌<◌, List, ℕ, [], length, take, drop, arith, length-drop}
use Rattle.std.proofs.lemmas.List.{take_all}
use Rattle.cob_base.specs.Lines.{cut_into_lines}
use Rattle.reference_format.proofs.Cutting.{feed_in, first_line, last_line}
use Rattle.reference_format.proofs.lines.cut_line.Goals as goal

-- a text that isn't empty has no line feed
whole : (text : List ℕ) → 0 < length text → length text ≤ feed_in text → cut_into_lines text ≡ text ∷ []
whole [] some h = absurd (omega arith)
whole (b ∷ text) some h = last_line b text h

pub returns-then-len-text-clause-lines : goal.returns-then-len-text-clause-lines
returns-then-len-text-clause-lines c =
    let text = c.args.text.now in
    let n = c.place_of-len.result in
    let h : n < length text = omega arith in
    let all : take (length text - (n + 1)) (drop (n + 1) text) ≡ drop (n + 1) text = take_all _ _ (omega (arith, length-drop (n + 1) text)) in
    rw (all, c.without_return.ensures, c.place_of-len.ensures) (first_line text (omega arith))

pub returns-else-len-text-clause-lines : goal.returns-else-len-text-clause-lines
returns-else-len-text-clause-lines c = whole c.args.text.now c.requires (omega arith)
