-- Lists of things that are lent.
use Rattle.std.proofs.Common.{◌≡◌, ◌∙◌, sym, ap, arith, ℕ, ◌<◌, ◌≤◌, List, length, get_or}
use denote.Ref.{Bor}
use Rattle.std.proofs.lemmas.List.{get_or-map, length-map}
use Rattle.statement_parts.specs.Seen.{seen_all}

pub lent_within : {A : Type 0} (xs : List (Bor A)) (at : ℕ) → at < length xs → at < length (seen_all xs)
lent_within xs at h = omega (arith, h, length-map xs (λ one. one.now))

pub lent_past : {A : Type 0} (xs : List (Bor A)) (at : ℕ) → length xs ≤ at → length (seen_all xs) ≤ at
lent_past xs at h = omega (arith, h, length-map xs (λ one. one.now))

pub lent_at : {A : Type 0} (xs : List (Bor A)) (at : ℕ) (x : Bor A) → at < length xs → x ≡ get_or xs at x → x.now ≡ get_or (seen_all xs) at x.now
lent_at xs at x h e = ap (λ one. one.now) e ∙ sym (get_or-map (λ one. one.now) xs at x x.now h)
