use Rattle.std.proofs.Common.{◌≡◌, ◌∙◌, refl, ap, sym, inl, inr, ◌⊎◌, ◌≤◌, ◌++◌, arith, ℕ, Bool, true, false, List, min, drop, length, map}
use Rattle.std.specs.Prelude.{nat_le}
use Rattle.std.proofs.lemmas.Bool.Decides.{nat_tests}
use Rattle.std.proofs.lemmas.Slice.{between_to_end}
use Rattle.std.proofs.lemmas.List.{drop_all}
use Rattle.cob_base.specs.declared.file_entries.FileEntry.{FileEntry}
use Rattle.name_rules.specs.Faults.{faults_at}
use Rattle.front_rules.proofs.limits.note_files_past_limit.Goals as goal

either_way : (n m : ℕ) (b : Bool) → nat_le n m ≡ b → (n ≤ m) ⊎ (m ≤ n)
either_way n m true e = inl (grind (arith, nat_tests))
either_way n m false e = inr (grind (arith, nat_tests))

drop_min : {A : Type 0} (n : ℕ) (xs : List A) → (n ≤ length xs) ⊎ (length xs ≤ n) → drop (min n (length xs)) xs ≡ drop n xs
drop_min n xs (inl h) = let e : min n (length xs) ≡ n = omega arith in rw e refl
drop_min n xs (inr h) = let e : min n (length xs) ≡ length xs = omega arith in let whole : length xs ≤ length xs = omega arith in rw e (drop_all (length xs) xs whole ∙ sym (drop_all n xs h))

pub returns : goal.returns
returns c =
    let files = c.args.files.now in
    c.in_ok-note_all.ensures
    ∙ ap (λ (later : List FileEntry). c.args.faults.now.found.items ++ faults_at 5 (map (λ (file : FileEntry). file.line) later))
    (between_to_end files c.min-first.result (length files) (omega arith) ∙ ap (λ (k : ℕ). drop k files) c.min-first.ensures ∙ drop_min 65535 files (either_way 65535 (length files) (nat_le 65535 (length files)) refl))
