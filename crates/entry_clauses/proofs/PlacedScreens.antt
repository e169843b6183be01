-- What is known of the place of one of the entries of screens.
use Rattle.std.proofs.Common.{◌≡◌, sym, subst, arith, ℕ, zero, suc, ◌<◌, List, [], ◌∷◌, ◌++◌, append_assoc, append-nil, length, map, take, get_or}
use Rattle.entry_clauses.specs.declared.screens.KnownScreen.{KnownScreen}
use Rattle.entry_clauses.specs.ScreenItems.{ScreenItem}
use Rattle.entry_clauses.specs.SeenScreens.{seen_screen, IsPlacedScreen, ArePlacedAfter}

pub placed_at : (before : List ScreenItem) (xs : List KnownScreen) (k : ℕ) (x : KnownScreen) → ArePlacedAfter before xs → k < length xs → x ≡ get_or xs k x
    → IsPlacedScreen (before ++ map seen_screen (take k xs)) x
placed_at before [] k x h l e = absurd (omega arith)
placed_at before (first ∷ xs) zero x h l e = rw append-nil (subst (λ one. IsPlacedScreen before one) (sym e) h.0)
placed_at before (first ∷ xs) (suc k) x h l e =
    subst (λ front. IsPlacedScreen front x) (append_assoc before (seen_screen first ∷ []) (map seen_screen (take k xs))) (placed_at (before ++ seen_screen first ∷ []) xs k x h.1 (omega arith) e)
