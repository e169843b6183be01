-- From reading to what `parse_procedure` answers.
use Rattle.std.proofs.Common.{◌≡◌, ℕ, zero, suc, get_or, ◌+◌, inl, inr, Bool, List, [], ◌∷◌, length, map, Option, Ok, Err, refl, sym, ap, subst, ◌∙◌, ◌<◌, ◌≤◌, arith}
use Rattle.cob_base.specs.declared.line.Line.{Line}
use Rattle.cob_base.specs.declared.parse_fault.Misfit.{Misfit}
use Rattle.cob_base.specs.declared.parse_fault.Misfit.TheVariants.{Nesting, NoFit}
use Rattle.cob_base.specs.declared.tokens.SeenEntry.{SeenEntry}
use Rattle.cob_base.specs.declared.word.Entry.{Entry}
use Rattle.cob_base.specs.declared.paragraphs.Procedure.{Procedure}
use Rattle.cob_base.specs.Token.{seen_entry}
use Rattle.cob_base.specs.EntryForm.{EntryForm, Entries, Reads, Stops, line_of_stop}
use Rattle.cob_base.specs.Procedure.{procedure, StopsWhole}
use Rattle.phrase_parser.specs.EntryReading.{read_entries}
use Rattle.phrase_parser.specs.Laws.{line_at, IsExact, IsDefinite as IsDefiniteForm}
use Rattle.procedure_parser.specs.Answer.{StopsAs, Answers, IsDefinite}
use Rattle.phrase_parser.specs.Faults.{line_or_last, fault_of}

line-at-is : (es at : Entries) → line_or_last es (line_at at) ≡ line_of_stop es at
line-at-is es [] = refl
line-at-is es (e ∷ at) = refl

whole : {b : Bool} {A : Type 0} (f : EntryForm b A) (reason : Misfit) (at es : Entries) → Stops f reason at es → StopsWhole f reason at es
whole f Nesting at es s = s
whole f NoFit at es s = inl s

stopped : IsExact procedure → (es : Entries) (reason : Misfit) (line : Option Line) → read_entries procedure es ≡ Err (reason, line)
    → (at : Entries) × Stops procedure reason at es × (line_of_stop es at ≡ line_or_last es line)
stopped exact es reason line h =
    let s = exact.stops es reason line h in
    (s.0, s.1, sym (line-at-is es s.0) ∙ ap (line_or_last es) (sym s.2))

pub answers_read : IsExact procedure → (entries : List Entry) (read : Procedure) (rest : Entries) → read_entries procedure (map seen_entry entries) ≡ Ok (read, rest) → length rest < 1
    → Answers entries (Ok read)
answers_read exact entries read [] h none = exact.reads (map seen_entry entries) read [] h
answers_read exact entries read (e ∷ more) h none = absurd (omega arith)

not-empty : (e : SeenEntry) (more : Entries) → ¬ (e ∷ more ≡ [])
not-empty e more same = absurd cc

pub answers_more : IsExact procedure → (entries : List Entry) (read : Procedure) (rest : Entries) (first other : SeenEntry) → read_entries procedure (map seen_entry entries) ≡ Ok (read, rest)
    → 1 ≤ length rest → first ≡ get_or rest 0 other → StopsAs entries NoFit first.line
answers_more exact entries read [] first other h some is = absurd (omega arith)
answers_more exact entries read (e ∷ more) first other h some is =
    record { at = e ∷ more; stops = inr (read, exact.reads (map seen_entry entries) read (e ∷ more) h, not-empty e more); in_line = sym (ap (λ v. v.line) is) }

pub answers_fault : IsExact procedure → (entries : List Entry) (reason : Misfit) (line : Option Line) → read_entries procedure (map seen_entry entries) ≡ Err (reason, line)
    → Answers entries (Err (fault_of (map seen_entry entries) reason line))
answers_fault exact entries Nesting line h = let s = stopped exact (map seen_entry entries) Nesting line h in record { at = s.0; stops = s.1; in_line = s.2 }
answers_fault exact entries NoFit line h = let s = stopped exact (map seen_entry entries) NoFit line h in record { at = s.0; stops = inl s.1; in_line = s.2 }

-- ---- one reading or one stop

module _ {b : Bool} {A : Type 0} (f : EntryForm b A) (laws : IsDefiniteForm f) (es : Entries) where
  one-stop : (first second : Misfit) (at place : Entries) → StopsWhole f first at es → StopsWhole f second place es → (first ≡ second) × (at ≡ place)
  one-stop Nesting Nesting at place p q = laws.one_stop es at place Nesting Nesting p q
  one-stop Nesting NoFit at place p (inl q) = laws.one_stop es at place Nesting NoFit p q
  one-stop Nesting NoFit at place p (inr q) = absurd (laws.never_both es place at q.0 Nesting q.1 p)
  one-stop NoFit Nesting at place (inl p) q = laws.one_stop es at place NoFit Nesting p q
  one-stop NoFit Nesting at place (inr p) q = absurd (laws.never_both es at place p.0 Nesting p.1 q)
  one-stop NoFit NoFit at place (inl p) (inl q) = laws.one_stop es at place NoFit NoFit p q
  one-stop NoFit NoFit at place (inl p) (inr q) = absurd (laws.never_both es place at q.0 NoFit q.1 p)
  one-stop NoFit NoFit at place (inr p) (inl q) = absurd (laws.never_both es at place p.0 NoFit p.1 q)
  one-stop NoFit NoFit at place (inr p) (inr q) = (refl, (laws.one_reading es at place p.0 q.0 p.1 q.1).1)

  never-both : (at : Entries) (read : A) (reason : Misfit) → Reads f es read [] → ¬ (StopsWhole f reason at es)
  never-both at read Nesting p s = laws.never_both es [] at read Nesting p s
  never-both at read NoFit p (inl s) = laws.never_both es [] at read NoFit p s
  never-both at read NoFit p (inr s) = s.2 (sym (laws.one_reading es [] at read s.0 p s.1).1)

pub is_definite : {b : Bool} {A : Type 0} (f : EntryForm b A) → IsDefiniteForm f → IsDefinite f
is_definite f laws = record {
  one_reading = λ es first second p q. (laws.one_reading es [] [] first second p q).0;
  one_stop = λ es at place first second p q. one-stop f laws es first second at place p q;
  never_both = λ es at read reason p. never-both f laws es at read reason p;
}
