-- Reading a list as a loop does.
use Rattle.std.proofs.Common.{◌≡◌, ℕ, suc, ◌-◌, ◌+◌, ◌≤◌, ◌<◌, Bool, true, false, List, [], ◌∷◌, ◌++◌, length, Result, Ok, Err, refl, sym, ap, ◌∙◌, append_assoc, arith}
use Rattle.std.proofs.lemmas.List.{append-nil}
use Rattle.phrase_parser.specs.declared.faults.PhraseFault.{PhraseFault}
use Rattle.phrase_parser.specs.declared.faults.PhraseFault.TheVariants as phrase_faults
use Rattle.phrase_parser.specs.declared.faults.EntryFault.{EntryFault}
use Rattle.phrase_parser.specs.declared.faults.EntryFault.TheVariants as entry_faults
use Rattle.cob_base.specs.declared.parse_fault.Misfit.{Misfit}
use Rattle.phrase_parser.specs.Reading.{Read, ◌>>=◌, Fails, read_more, read_some, read_many}
use Rattle.phrase_parser.specs.EntryReading.{Stop, EntryFails}

-- what was read before, and what is still read
abbrev pub with_front : {S E A : Type 0} → List A → Read S E (List A) → Read S E (List A)
with_front front read = read >>= λ x. Ok (front ++ x.0, x.1)

regroup : {S E A : Type 0} (front : List A) (x : A) (read : Read S E (List A)) → with_front front (read >>= λ more. Ok (x ∷ more.0, more.1)) ≡ with_front (front ++ x ∷ []) read
regroup front n (Ok x) = ap (λ ns. Ok (ns, x.1)) (simp append_assoc)
regroup front n (Err f) = refl

-- the same fault of one and of all
pub fault_of_all : (e : PhraseFault) {A B : Type 0} (one : Result A Misfit) (all : Result B Misfit) → ((reason : Misfit) → one ≡ Err reason → all ≡ Err reason) → Fails e one → Fails e all
fault_of_all phrase_faults.NoMemory one all go h = tt
fault_of_all (phrase_faults.Misfit reason) one all go h = go reason h

pub entry_fault_of_all : (e : EntryFault) {A B : Type 0} (one : Result A Stop) (all : Result B Stop) → ((stop : Stop) → one ≡ Err stop → all ≡ Err stop) → EntryFails e one → EntryFails e all
entry_fault_of_all entry_faults.NoMemory one all go h = tt
entry_fault_of_all (entry_faults.Stops reason line) one all go h = go (reason, line) h

module _ {S E A : Type 0} (opens opens_list : List S → Bool) (one : List S → Read S E A) (w : List S) where
  pub many_none : opens_list w ≡ false → read_many opens opens_list one w ≡ Ok ([], w)
  unfolding read_many
  many_none e = rw e refl

  pub many_found : (xs : List A) (rest : List S) → opens_list w ≡ true → read_some opens one w ≡ Ok (xs, rest) → read_many opens opens_list one w ≡ Ok (xs, rest)
  unfolding read_many
  many_found xs rest e h = rw (e, h) refl

  pub many_fails : (f : E) → opens_list w ≡ true → read_some opens one w ≡ Err f → read_many opens opens_list one w ≡ Err f
  unfolding read_many
  many_fails f e h = rw (e, h) refl

module _ {S E A : Type 0} (opens : List S → Bool) (one : List S → Read S E A) where
  pub begins : (words rest : List S) (first : A) (all none : List A) → one words ≡ Ok (first, rest) → none ≡ [] → all ≡ none ++ first ∷ [] → with_front all (read_more opens one (length rest - 0) rest) ≡ read_some opens one words
  unfolding read_some
  begins words rest first all none h empty pushed =
      let k : length rest - 0 ≡ length rest = omega arith in
      let alone : all ≡ first ∷ [] = rw empty at pushed in
      rw (h, k, alone) (regroup_first (read_more opens one (length rest) rest))
    where
      regroup_first : (read : Read S E (List A)) → with_front (first ∷ []) read ≡ (read >>= λ more. Ok (first ∷ more.0, more.1))
      regroup_first (Ok x) = refl
      regroup_first (Err f) = refl

  pub never_begins : (words : List S) (e : E) → one words ≡ Err e → read_some opens one words ≡ Err e
  unfolding read_some
  never_begins words e h = rw h refl

  module _ (front : List A) (count i : ℕ) (words : List S) (total : Read S E (List A)) (so_far : with_front front (read_more opens one (count - i) words) ≡ total) where
    pub goes_on : (x : A) (after : List S) (all : List A) → i < count → opens words ≡ true → one words ≡ Ok (x, after) → all ≡ front ++ x ∷ [] → with_front all (read_more opens one (count - (i + 1)) after) ≡ total
    unfolding read_more
    goes_on x after all lt opened h pushed =
        let k : count - i ≡ suc (count - (i + 1)) = omega arith in
        let step : with_front front (read_more opens one (count - i) words) ≡ with_front (front ++ x ∷ []) (read_more opens one (count - (i + 1)) after) = rw (k, opened, h) (regroup front x (read_more opens one (count - (i + 1)) after)) in
        rw pushed (sym step ∙ so_far)

    pub fails : (e : E) → i < count → opens words ≡ true → one words ≡ Err e → total ≡ Err e
    unfolding read_more
    fails e lt opened h =
        let k : count - i ≡ suc (count - (i + 1)) = omega arith in
        let step : with_front front (read_more opens one (count - i) words) ≡ Err e = rw (k, opened, h) refl in
        sym so_far ∙ step

    pub stops : i < count → opens words ≡ false → total ≡ Ok (front, words)
    unfolding read_more
    stops lt closed =
        let k : count - i ≡ suc (count - (i + 1)) = omega arith in
        let step : with_front front (read_more opens one (count - i) words) ≡ Ok (front, words) = rw (k, closed) (ap (λ ns. Ok (ns, words)) (append-nil front)) in
        sym so_far ∙ step

    pub ends : count ≤ i → total ≡ Ok (front, words)
    unfolding read_more
    ends le =
        let k : count - i ≡ 0 = omega arith in
        let step : with_front front (read_more opens one (count - i) words) ≡ Ok (front, words) = rw k (ap (λ ns. Ok (ns, words)) (append-nil front)) in
        sym so_far ∙ step
