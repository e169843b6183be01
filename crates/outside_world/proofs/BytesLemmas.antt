-- Bytes that are taken piece by piece.
use Rattle.std.proofs.Common.{◌≡◌, ℕ, List, [], ◌++◌, take, drop, refl, sym, ◌∙◌, ap, append_assoc, take-append-drop, length, ◌-◌, arith, length-drop, subst}
use Rattle.std.specs.Prelude.{Option, Some, None}
use Rattle.std.proofs.lemmas.List.{append-nil, take_all}
use Rattle.std.specs.Io.KnownBytes.{Appends, Keeps}
use Rattle.outside_world.specs.Bytes.{AppendsUpTo}

pub appends_none : (old : Option (List ℕ)) → Appends old old []
appends_none None = tt
appends_none (Some xs) = sym (append-nil xs)

pub appends_then : (old mid new : Option (List ℕ)) (a b : List ℕ) → Appends old mid a → Appends mid new b → Appends old new (a ++ b)
appends_then None mid new a b first second = tt
appends_then (Some xs) None new a b first second = absurd first
appends_then (Some xs) (Some ys) None a b first second = absurd second
appends_then (Some xs) (Some ys) (Some zs) a b first second = second ∙ ap (λ (l : List ℕ). l ++ b) first ∙ append_assoc xs a b

pub keeps_then : (old mid new : Option (List ℕ)) (a : List ℕ) → Appends old mid a → Keeps mid new → Appends old new a
keeps_then None mid new a first second = tt
keeps_then (Some xs) None new a first second = absurd first
keeps_then (Some xs) (Some ys) None a first second = absurd second
keeps_then (Some xs) (Some ys) (Some zs) a first second = second ∙ first

pub up_to_start : (old : Option (List ℕ)) (text : List ℕ) → AppendsUpTo old old text text
up_to_start old text = record { done = []; split = refl; appended = appends_none old }

pub up_to_more : (old mid new : Option (List ℕ)) (text rest : List ℕ) (count : ℕ) → AppendsUpTo old mid text rest → Appends mid new (take count rest) → AppendsUpTo old new text (drop count rest)
up_to_more old mid new text rest count so_far more = record {
  done = so_far.done ++ take count rest;
  split = so_far.split ∙ ap (λ (l : List ℕ). so_far.done ++ l) (sym (take-append-drop count rest)) ∙ sym (append_assoc so_far.done (take count rest) (drop count rest));
  appended = appends_then old mid new so_far.done (take count rest) so_far.appended more;
}

pub up_to_kept : (old mid new : Option (List ℕ)) (text rest : List ℕ) → AppendsUpTo old mid text rest → Keeps mid new → AppendsUpTo old new text rest
up_to_kept old mid new text rest so_far keeps = record { done = so_far.done; split = so_far.split; appended = keeps_then old mid new so_far.done so_far.appended keeps }

-- the same for the rest as a slice of its own length
pub up_to_slice : (old mid new : Option (List ℕ)) (text rest : List ℕ) (count : ℕ) → AppendsUpTo old mid text rest → Appends mid new (take count rest) → AppendsUpTo old new text (take (length rest - count) (drop count rest))
up_to_slice old mid new text rest count so_far more =
    let whole : take (length rest - count) (drop count rest) ≡ drop count rest = take_all (length rest - count) (drop count rest) (omega (arith, length-drop count rest)) in
    subst (AppendsUpTo old new text) (sym whole) (up_to_more old mid new text rest count so_far more)
