use Rattle.std.proofs.Common.{◌≡◌, ◌<◌, ℕ, List, [], ◌∷◌, arith, length, refl, sym, ◌∙◌}
use Rattle.picture_rule.proofs.Numbers.{letters_only, letters_found, letters_outline, no_rest, some_rest}
use Rattle.picture_rule.proofs.number_form.alphanumeric.Goals as goal

pub returns-then-letters-eq0-clause-only : goal.returns-then-letters-eq0-clause-only
returns-then-letters-eq0-clause-only c marks form w a =
    let span = c.longest_span-letters.ensures in
    let same = (letters_only _ _ _ _ _ span.1 w a).same in
    a.some (sym same ∙ no_length span.0 (omega (arith, span.2, c.if-letters-eq0.true)))
  where
    no_length : (xs : List ℕ) → length xs ≡ 0 → xs ≡ []
    no_length [] e = refl
    no_length (x ∷ xs) e = absurd (omega arith)

pub returns-then-not-is_empty-clause-only : goal.returns-then-not-is_empty-clause-only
returns-then-not-is_empty-clause-only c marks form w a =
    some_rest _ _ c.is_empty.ensures c.if-not-is_empty.true (letters_only _ _ _ _ _ c.longest_span-letters.ensures.1 w a).end

pub returns-clause-found : goal.returns-clause-found
returns-clause-found c =
    let span = c.longest_span-letters.ensures in
    let positive : 0 < length span.0 = omega (arith, span.2, c.if-letters-eq0.false) in
    let found = letters_found _ _ _ span.1 (no_rest _ _ c.is_empty.ensures c.if-not-is_empty.false) positive in
    (span.0, _, found.0, found.1, letters_outline span.0 span.0 _ _ span.2 refl found.1)

pub returns-clause-only : goal.returns-clause-only
returns-clause-only c marks form w a =
    let span = c.longest_span-letters.ensures in
    letters_outline span.0 marks form _ span.2 (letters_only _ _ _ _ _ span.1 w a).same a
