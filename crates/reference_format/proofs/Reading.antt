-- The lines of a text, one after the other.
use Rattle.std.proofs.Common.{◌≡◌, List, [], ◌∷◌, ◌++◌, Option, Some, None, Result, Ok, Err, refl, sym, ap, ◌∙◌, append_assoc}
use Rattle.std.proofs.lemmas.List.{append-nil}
use Rattle.cob_base.specs.declared.line.SourceLine.{SourceLine}
use Rattle.cob_base.specs.declared.fault.TextFault.{TextFault}
use Rattle.cob_base.specs.Lines.{lines_or_fault, with_line}

-- lines that were read before those that are still read
abbrev pub with_front : List SourceLine → Result (List SourceLine) TextFault → Result (List SourceLine) TextFault
with_front front (Ok lines) = Ok (front ++ lines)
with_front front (Err fault) = Err fault

-- a line that is kept, or one that counts for nothing
abbrev pub kept : Option SourceLine → List SourceLine
kept None = []
kept (Some line) = line ∷ []

regroup : (front : List SourceLine) (line : SourceLine) (rest : Result (List SourceLine) TextFault) → with_front front (with_line line rest) ≡ with_front (front ++ line ∷ []) rest
regroup front line (Ok lines) = ap Ok (sym (append_assoc front (line ∷ []) lines))
regroup front line (Err fault) = refl

pub goes_on : (front after : List SourceLine) (found : Option SourceLine) (first : Result (Option SourceLine) TextFault) (rest : List (Result (Option SourceLine) TextFault)) (total : Result (List SourceLine) TextFault)
    → first ≡ Ok found → after ≡ front ++ kept found → with_front front (lines_or_fault (first ∷ rest)) ≡ total → with_front after (lines_or_fault rest) ≡ total
goes_on front after None first rest total e kept so_far = rw (kept, append-nil front) (rw e at so_far)
goes_on front after (Some line) first rest total e kept so_far = rw kept (sym (regroup front line (lines_or_fault rest)) ∙ rw e at so_far)
