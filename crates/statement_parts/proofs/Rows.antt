-- Conditions inside conditions, and expressions inside expressions, as lists.
use Rattle.std.proofs.Common.{◌≡◌, ◌∙◌, sym, ap, refl, List, ◌++◌, append_assoc}
use Rattle.std.proofs.lemmas.List.{append-nil}
use Rattle.std.specs.List.{flat_map}
use Rattle.cob_base.specs.declared.conditions.Cond.{Cond, Row_of-Cond, end_of-Cond, more_of-Cond, items-the_row-Cond, items_hidden-the_row-Cond-0}
use Rattle.cob_base.specs.declared.conditions.Cond.TheBlock.{hidden-the_row-Cond-0}
use Rattle.cob_base.specs.declared.conditions.Cond.TheBlock as one_cond
use Rattle.cob_base.specs.declared.conditions.Cond.TheVariants as c
use Rattle.cob_base.specs.declared.expressions.Expr.{Expr, Row_of-Expr-Sum-1-2, end_of-Expr-Sum-1-2, more_of-Expr-Sum-1-2, items-the_row-Expr-Sum-1-2, items_hidden-the_row-Expr-Sum-1-2-1, Row_of-Expr-Product-1-2, end_of-Expr-Product-1-2, more_of-Expr-Product-1-2, items-the_row-Expr-Product-1-2, items_hidden-the_row-Expr-Product-1-2-2}
use Rattle.cob_base.specs.declared.expressions.Expr.TheBlock.{hidden-the_row-Expr-0, hidden-the_row-Expr-Sum-1-2-1, hidden-the_row-Expr-Product-1-2-2}
use Rattle.cob_base.specs.declared.expressions.Expr.TheBlock as one_expr
use Rattle.cob_base.specs.declared.expressions.Expr.TheVariants as e
use Rattle.statement_parts.specs.Leaves.{items_of_expr, items_of_first, items_of_terms, items_of_factors, simple_in, simple_in_row}

simple_rows : {m : _} (row : Row_of-Cond m) → simple_in_row row ≡ flat_map simple_in (items-the_row-Cond _ row)
simple_rows end_of-Cond = refl
simple_rows (more_of-Cond one rest) = ap (λ l. simple_in one ++ l) (simple_rows rest)

pub simple_hidden : (all : List Cond) → simple_in_row (hidden-the_row-Cond-0 all) ≡ flat_map simple_in all
simple_hidden all = simple_rows (hidden-the_row-Cond-0 all) ∙ ap (flat_map simple_in) (items_hidden-the_row-Cond-0 all)

pub simple_not : (one : Cond) → simple_in (c.Not one) ≡ simple_in one
unfolding one_cond.hidden-the_row-Cond-1 denote.Hole.Carrier.hidden
simple_not one = append-nil (simple_in one)

first_is : (one : Expr) → items_of_first (hidden-the_row-Expr-0 one) ≡ items_of_expr one
unfolding one_expr.hidden-the_row-Expr-0 denote.Hole.Carrier.hidden
first_is one = append-nil (items_of_expr one)

terms_are : {m : _} (row : Row_of-Expr-Sum-1-2 m) → items_of_terms row ≡ flat_map (λ term. items_of_expr term.1) (items-the_row-Expr-Sum-1-2 _ row)
terms_are end_of-Expr-Sum-1-2 = refl
terms_are (more_of-Expr-Sum-1-2 sign one rest) = ap (λ l. items_of_expr one ++ l) (terms_are rest)

factors_are : {m : _} (row : Row_of-Expr-Product-1-2 m) → items_of_factors row ≡ flat_map (λ factor. items_of_expr factor.1) (items-the_row-Expr-Product-1-2 _ row)
factors_are end_of-Expr-Product-1-2 = refl
factors_are (more_of-Expr-Product-1-2 scale one rest) = ap (λ l. items_of_expr one ++ l) (factors_are rest)

pub sum_is : (first : Expr) (more : List _) → items_of_expr (e.Sum first more) ≡ items_of_expr first ++ flat_map (λ term. items_of_expr term.1) more
sum_is first more =
    ap (λ l. l ++ items_of_terms (hidden-the_row-Expr-Sum-1-2-1 more)) (first_is first)
    ∙ ap (λ l. items_of_expr first ++ l) (terms_are (hidden-the_row-Expr-Sum-1-2-1 more) ∙ ap (flat_map (λ term. items_of_expr term.1)) (items_hidden-the_row-Expr-Sum-1-2-1 more))

pub product_is : (first : Expr) (more : List _) → items_of_expr (e.Product first more) ≡ items_of_expr first ++ flat_map (λ factor. items_of_expr factor.1) more
product_is first more =
    ap (λ l. l ++ items_of_factors (hidden-the_row-Expr-Product-1-2-2 more)) (first_is first)
    ∙ ap (λ l. items_of_expr first ++ l) (factors_are (hidden-the_row-Expr-Product-1-2-2 more) ∙ ap (flat_map (λ factor. items_of_expr factor.1)) (items_hidden-the_row-Expr-Product-1-2-2 more))

pub signed_is : (sign : _) (value : Expr) → items_of_expr (e.Signed sign value) ≡ items_of_expr value
signed_is sign value = first_is value

-- the same of what the code reads out of an expression
pub sum_read : (expr first read_first : Expr) (more read_more : List _) → expr ≡ e.Sum first more → read_first ≡ first → read_more ≡ more
    → items_of_expr expr ≡ items_of_expr read_first ++ flat_map (λ term. items_of_expr term.1) read_more
sum_read expr first read_first more read_more is f m = ap items_of_expr is ∙ sum_is first more ∙ ap (λ x. items_of_expr x ++ flat_map (λ term. items_of_expr term.1) more) (sym f)
    ∙ ap (λ l. items_of_expr read_first ++ flat_map (λ term. items_of_expr term.1) l) (sym m)

pub product_read : (expr first read_first : Expr) (more read_more : List _) → expr ≡ e.Product first more → read_first ≡ first → read_more ≡ more
    → items_of_expr expr ≡ items_of_expr read_first ++ flat_map (λ factor. items_of_expr factor.1) read_more
product_read expr first read_first more read_more is f m = ap items_of_expr is ∙ product_is first more ∙ ap (λ x. items_of_expr x ++ flat_map (λ factor. items_of_expr factor.1) more) (sym f)
    ∙ ap (λ l. items_of_expr read_first ++ flat_map (λ factor. items_of_expr factor.1) l) (sym m)

pub signed_read : (expr value read_value : Expr) (sign : _) → expr ≡ e.Signed sign value → read_value ≡ value → items_of_expr expr ≡ items_of_expr read_value
signed_read expr value read_value sign is v = ap items_of_expr is ∙ signed_is sign value ∙ ap items_of_expr (sym v)

-- what is added in two steps
pub in_two : {A : Type 0} (old middle new first rest whole : List A) → middle ≡ old ++ first → new ≡ middle ++ rest → whole ≡ first ++ rest → new ≡ old ++ whole
in_two old middle new first rest whole m n w = n ∙ ap (λ l. l ++ rest) m ∙ append_assoc old first rest ∙ ap (λ l. old ++ l) (sym w)
