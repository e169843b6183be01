-- Statements inside statements, as lists.
use Rattle.std.proofs.Common.{◌≡◌, ◌∙◌, sym, ap, refl, ℕ, zero, suc, ◌+◌, ◌<◌, ◌≤◌, List, [], ◌∷◌, ◌++◌, length, take, get_or, append_assoc, length-append, arith, Option, Some, None, Bor}
use Rattle.std.proofs.lemmas.List.Folds.{length-flat_map-take}
use Rattle.std.proofs.lemmas.List.{take_more, append-nil, map-append}
use Rattle.cob_base.specs.declared.statements.Located.{Located}
use Rattle.cob_base.specs.declared.statements.Statement.{Statement, Row_of-Statement-Add-2-2, end_of-Statement-Add-2-2, more_of-Statement-Add-2-2, items-the_row-Statement-Add-2-2, items_hidden-the_row-Statement-Add-2-2-0, back-Statement-Add-2-4}
use Rattle.cob_base.specs.declared.statements.Statement.TheBlock.{hidden-the_row-Statement-Add-2-2-0}
use Rattle.statement_parts.specs.Statements.{inside, in_phrase, in_row, with_inner}
use Rattle.statement_parts.specs.Lists.{written, in_lists}
use Rattle.statement_parts.specs.Seen.{seen_all}

pub inner_append : (xs ys : List (Located Statement)) → with_inner (xs ++ ys) ≡ with_inner xs ++ with_inner ys
inner_append [] ys = refl
inner_append (x ∷ xs) ys = ap (λ l. x ∷ (inside x.item ++ l)) (inner_append xs ys) ∙ ap (λ l. x ∷ l) (sym (append_assoc (inside x.item) (with_inner xs) (with_inner ys)))

-- one more statement
pub inner_more : (xs : List (Located Statement)) (at_number : ℕ) (x : Located Statement) → at_number < length xs → x ≡ get_or xs at_number x
    → with_inner (take (at_number + 1) xs) ≡ with_inner (take at_number xs) ++ (x ∷ inside x.item)
inner_more xs at_number x below is =
    ap with_inner (take_more xs at_number x below ∙ ap (λ y. take at_number xs ++ y ∷ []) (sym is))
    ∙ inner_append (take at_number xs) (x ∷ [])
    ∙ ap (λ l. with_inner (take at_number xs) ++ (x ∷ l)) (append-nil (inside x.item))

rows_are : {m : _} (row : Row_of-Statement-Add-2-2 m) → in_row row ≡ with_inner (items-the_row-Statement-Add-2-2 _ row)
rows_are end_of-Statement-Add-2-2 = refl
rows_are (more_of-Statement-Add-2-2 line one rest) = ap (λ l. record { line = line; item = one } ∷ (inside one ++ l)) (rows_are rest)

pub hidden_is : (all : List (Located Statement)) → in_row (hidden-the_row-Statement-Add-2-2-0 all) ≡ with_inner all
hidden_is all = rows_are (hidden-the_row-Statement-Add-2-2-0 all) ∙ ap with_inner (items_hidden-the_row-Statement-Add-2-2-0 all)

held_is : (phrase : Option (List (Located Statement))) → in_phrase (back-Statement-Add-2-4 phrase) ≡ with_inner (written phrase)
held_is None = refl
held_is (Some all) = hidden_is all

-- a statement with a phrase and its NOT phrase
pub both : (lists : List (Located Statement)) (statement : Statement) (on not_on : Option (List (Located Statement)))
    → lists ≡ with_inner (written on) ++ with_inner (written not_on) → inside statement ≡ in_phrase (back-Statement-Add-2-4 on) ++ in_phrase (back-Statement-Add-2-4 not_on)
    → lists ≡ inside statement
both lists statement on not_on made is = made ∙ ap (λ l. l ++ with_inner (written not_on)) (sym (held_is on)) ∙ ap (λ l. in_phrase (back-Statement-Add-2-4 on) ++ l) (sym (held_is not_on)) ∙ sym is

-- READ
pub four : (lists : List (Located Statement)) (statement : Statement) (a b c d : Option (List (Located Statement)))
    → lists ≡ with_inner (written a) ++ with_inner (written b) ++ with_inner (written c) ++ with_inner (written d)
    → inside statement ≡ in_phrase (back-Statement-Add-2-4 a) ++ in_phrase (back-Statement-Add-2-4 b) ++ in_phrase (back-Statement-Add-2-4 c) ++ in_phrase (back-Statement-Add-2-4 d)
    → lists ≡ inside statement
four lists statement a b c d made is =
    made
    ∙ ap (λ l. l ++ with_inner (written b) ++ with_inner (written c) ++ with_inner (written d)) (sym (held_is a))
    ∙ ap (λ l. in_phrase (back-Statement-Add-2-4 a) ++ l ++ with_inner (written c) ++ with_inner (written d)) (sym (held_is b))
    ∙ ap (λ l. in_phrase (back-Statement-Add-2-4 a) ++ in_phrase (back-Statement-Add-2-4 b) ++ l ++ with_inner (written d)) (sym (held_is c))
    ∙ ap (λ l. in_phrase (back-Statement-Add-2-4 a) ++ in_phrase (back-Statement-Add-2-4 b) ++ in_phrase (back-Statement-Add-2-4 c) ++ l) (sym (held_is d))
    ∙ sym is

-- IF
pub branches : (lists : List (Located Statement)) (statement : Statement) (first read_first read_other : List (Located Statement)) (other : Option (List (Located Statement)))
    → lists ≡ with_inner read_first ++ with_inner read_other → read_first ≡ first → read_other ≡ written other
    → inside statement ≡ in_row (hidden-the_row-Statement-Add-2-2-0 first) ++ in_phrase (back-Statement-Add-2-4 other) → lists ≡ inside statement
branches lists statement first read_first read_other other made f o is =
    made ∙ ap (λ l. l ++ with_inner read_other) (ap with_inner f ∙ sym (hidden_is first))
    ∙ ap (λ l. in_row (hidden-the_row-Statement-Add-2-2-0 first) ++ l) (ap with_inner o ∙ sym (held_is other)) ∙ sym is

-- an inline PERFORM
pub body_is : (lists : List (Located Statement)) (statement : Statement) (body read_body : List (Located Statement))
    → lists ≡ with_inner read_body → read_body ≡ body → inside statement ≡ in_row (hidden-the_row-Statement-Add-2-2-0 body) → lists ≡ inside statement
body_is lists statement body read_body made b is = made ∙ ap with_inner b ∙ sym (hidden_is body) ∙ sym is

-- there are fewer statements in a statement than in a list that it stands in
pub fewer_inside : (xs : List (Located Statement)) (at_number : ℕ) (x : Located Statement) → at_number < length xs → x ≡ get_or xs at_number x → length (inside x.item) < length (with_inner xs)
fewer_inside [] at_number x below is = elim below [ ]
fewer_inside (y ∷ ys) zero x below is = grind (arith, length-append (inside y.item) (with_inner ys), ap (λ z. length (inside z.item)) is)
fewer_inside (y ∷ ys) (suc k) x below is =
    let rest : length (inside x.item) < length (with_inner ys) = fewer_inside ys k x (omega (arith, below)) is in
    grind (arith, length-append (inside y.item) (with_inner ys), rest)

pub no_more_in : (lists : List (Bor (List (Located Statement)))) (at_number : ℕ) (otherwise : Bor (List (Located Statement))) → at_number < length lists
    → length (with_inner (get_or lists at_number otherwise).now) ≤ length (in_lists lists)
no_more_in lists at_number otherwise below =
    let all : length (in_lists (take at_number lists)) + length (with_inner (get_or lists at_number otherwise).now) ≤ length (in_lists lists) = length-flat_map-take (λ l. with_inner l.now) lists at_number otherwise below in
    omega (arith, all)

-- one more statement of a list, with those inside it
pub one_more : (old new : List (Located Statement)) (before after : List (Bor (Located Statement))) (one : Bor (Located Statement)) (xs : List (Located Statement)) (at_number : ℕ) (inner : List (Located Statement))
    → seen_all before ≡ old ++ with_inner (take at_number xs) → after ≡ before ++ one ∷ [] → new ≡ seen_all after ++ inner → inner ≡ inside one.now.item
    → at_number < length xs → one.now ≡ get_or xs at_number one.now → new ≡ old ++ with_inner (take (at_number + 1) xs)
one_more old new before after one xs at_number inner so_far pushed added is below stands =
    let x = one.now in
    let w = with_inner (take at_number xs) in
    let seen : seen_all after ≡ (old ++ w) ++ x ∷ [] = ap seen_all pushed ∙ map-append _ before (one ∷ []) ∙ ap (λ l. l ++ x ∷ []) so_far in
    added ∙ ap (λ l. l ++ inner) seen ∙ ap (λ l. ((old ++ w) ++ x ∷ []) ++ l) is
    ∙ append_assoc (old ++ w) (x ∷ []) (inside x.item) ∙ append_assoc old w (x ∷ inside x.item)
    ∙ ap (λ l. old ++ l) (sym (inner_more xs at_number x below stands))
