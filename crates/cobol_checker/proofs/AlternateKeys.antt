-- The keys of ALTERNATE clauses, one after another.
use Rattle.std.proofs.Common.{◌≡◌, ◌∙◌, refl, ap, sym, append_assoc, ℕ, ◌+◌, ◌<◌, List, [], ◌∷◌, ◌++◌, length, map, take, get_or, Option, Some, None}
use Rattle.std.specs.Prelude.{option_to_list, option_map}
use Rattle.std.specs.List.{cons_option}
use Rattle.std.proofs.lemmas.List.{take_more, map-append}
use Rattle.std.proofs.lemmas.List.Elements.{filter_map-append}
use Rattle.cob_base.specs.declared.operands.Reference.{Reference}
use Rattle.cob_base.specs.declared.file_entries.FileClause.{FileClause}
use Rattle.entry_clauses.specs.Clauses.{Alternate, alternate_named, alternates}

abbrev pub keys : List Alternate → List Reference
keys some = map (λ alternate. alternate.key) some

abbrev pub key_of : Option Alternate → Option Reference
key_of one = option_map (λ alternate. alternate.key) one

-- the key of one clause
keys_of_one : (one : Option Alternate) → keys (cons_option one []) ≡ option_to_list (key_of one)
keys_of_one None = refl
keys_of_one (Some one) = refl

-- the keys of one more clause
pub keys_more : (clauses : List FileClause) (at : ℕ) (clause : FileClause) (key : Option Reference) (initial old new : List Reference) → at < length clauses → clause ≡ get_or clauses at clause
    → key ≡ key_of (alternate_named clause) → old ≡ initial ++ keys (alternates (take at clauses)) → new ≡ old ++ option_to_list key
    → new ≡ initial ++ keys (alternates (take (at + 1) clauses))
keys_more clauses at clause key initial old new l e k o n =
    let before = take at clauses in
    let more : take (at + 1) clauses ≡ before ++ clause ∷ [] = take_more clauses at clause l ∙ ap (λ c. before ++ c ∷ []) (sym e) in
    let both : keys (alternates (take (at + 1) clauses)) ≡ keys (alternates before) ++ option_to_list key =
    ap (λ some. keys (alternates some)) more
    ∙ ap keys (filter_map-append alternate_named before (clause ∷ []))
    ∙ map-append (λ (alternate : Alternate). alternate.key) (alternates before) (cons_option (alternate_named clause) [])
    ∙ ap (λ back. keys (alternates before) ++ back) (keys_of_one (alternate_named clause) ∙ sym (ap option_to_list k)) in
    n ∙ ap (λ front. front ++ option_to_list key) o ∙ append_assoc initial (keys (alternates before)) (option_to_list key) ∙ sym (ap (λ back. initial ++ back) both)
