use Rattle.statement_parts.proofs.Rows.{sum_read, product_read, signed_read, in_two}
use Rattle.statement_parts.proofs.leaves.+expressions.Goals as goal

pub add_items-returns-in_ok-add_terms-in-Sum : goal.add_items-returns-in_ok-add_terms-in-Sum
add_items-returns-in_ok-add_terms-in-Sum t c = in_two _ _ _ _ _ _ c.in_ok-add_items-in-Sum.ensures c.in_ok-add_terms-in-Sum.ensures
    (sum_read _ _ _ _ _ c.in-Sum.is c.get.ensures c.as_slice.ensures)

pub add_items-returns-in_ok-add_factors-in-Product : goal.add_items-returns-in_ok-add_factors-in-Product
add_items-returns-in_ok-add_factors-in-Product t c = in_two _ _ _ _ _ _ c.in_ok-add_items-in-Product.ensures c.in_ok-add_factors-in-Product.ensures
    (product_read _ _ _ _ _ c.in-Product.is c.get-in-Product.ensures c.as_slice-in-Product.ensures)

pub add_items-returns-in-Signed : goal.add_items-returns-in-Signed
add_items-returns-in-Signed t c = rw (signed_read _ _ _ _ c.in-Signed.is c.get-in-Signed.ensures) c.add_items-in-Signed.ensures
