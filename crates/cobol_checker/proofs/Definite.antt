-- A program has one outcome.
use Rattle.std.proofs.Common.{◌≡◌, ℕ, ◌+◌, inl, inr, List, [], ◌∷◌, refl, sym, ◌∙◌, ap, subst, arith}
use Rattle.std.proofs.lemmas.List.Elements.{All-contains}
use Rattle.cob_base.specs.declared.line.Line.{Line}
use Rattle.cob_base.specs.declared.paragraphs.Paragraph.{Paragraph}
use Rattle.cob_base.specs.declared.paragraphs.Program.{Program}
use Rattle.data_names.specs.Items.{DataItem}
use Rattle.data_names.proofs.SameItems.{items_once}
use Rattle.name_rules.specs.declared.fault.Fault.{Fault}
use Rattle.name_rules.specs.Faults.{IsLeast, IsNoLater}
use Rattle.entry_clauses.specs.ScreenItems.{ScreenItem}
use Rattle.entry_clauses.proofs.SameScreens.{screens_once}
use Rattle.perform_cycles.specs.declared.arrows.Arrow.{Arrow}
use Rattle.procedure_rules.specs.Performed.{arrows, AreOnCycles, AreCycleLines}
use Rattle.procedure_rules.specs.Faults.{program_faults}
use Rattle.cobol_checker.specs.Outcome.{KeepsRules, IsRefused}

-- which paragraphs reach themselves is determined
on-cycles-once : (all : List Arrow) (number : ℕ) (paragraphs : List Paragraph) (lines others : List Line) → AreOnCycles all number paragraphs lines → AreOnCycles all number paragraphs others → lines ≡ others
on-cycles-once all number [] lines others one two = one ∙ sym two
on-cycles-once all number (paragraph ∷ rest) lines others (inl one) (inl two) =
    one.1.1 ∙ ap (λ more. paragraph.line ∷ more) (on-cycles-once all (number + 1) rest one.1.0 two.1.0 one.1.2 two.1.2) ∙ sym two.1.1
on-cycles-once all number (paragraph ∷ rest) lines others (inl one) (inr two) = absurd (two.0 one.0)
on-cycles-once all number (paragraph ∷ rest) lines others (inr one) (inl two) = absurd (one.0 two.0)
on-cycles-once all number (paragraph ∷ rest) lines others (inr one) (inr two) = on-cycles-once all (number + 1) rest lines others one.1 two.1

cycles-once : (paragraphs : List Paragraph) (lines others : List Line) → AreCycleLines paragraphs lines → AreCycleLines paragraphs others → lines ≡ others
cycles-once paragraphs lines others one two = on-cycles-once (arrows paragraphs) 0 paragraphs lines others one two

-- faults of the same items, screens and cycles are the same
same-list : (program : Program) (items more : List DataItem) (screens further : List ScreenItem) (cycles others : List Line) → items ≡ more → screens ≡ further → cycles ≡ others
    → program_faults program items screens cycles ≡ program_faults program more further others
same-list program items more screens further cycles others a b c =
    ap (λ all. program_faults program all screens cycles) a ∙ ap (λ all. program_faults program more all cycles) b ∙ ap (λ all. program_faults program more further all) c

same-faults : (program : Program) (fault : Fault) (one : IsRefused program fault) (other : Fault) (two : IsRefused program other)
    → program_faults program one.items one.screens one.cycles ≡ program_faults program two.items two.screens two.cycles
same-faults program fault one other two =
    same-list program one.items two.items one.screens two.screens one.cycles two.cycles
    (items_once program.front one.items two.items one.items_are two.items_are)
    (screens_once program.front one.screens two.screens one.screens_are two.screens_are)
    (cycles-once program.paragraphs one.cycles two.cycles one.cycles_are two.cycles_are)

none-is-least : (fault : Fault) → IsLeast [] fault → ⊥
none-is-least fault least = omega (arith, least.among.1)

pub never_both : (program : Program) (fault : Fault) → KeepsRules program → IsRefused program fault → ⊥
never_both program fault is refused =
    let same : program_faults program refused.items refused.screens refused.cycles ≡ [] =
    same-list program refused.items is.items refused.screens is.screens refused.cycles is.cycles
    (items_once program.front refused.items is.items refused.items_are is.items_are)
    (screens_once program.front refused.screens is.screens refused.screens_are is.screens_are)
    (cycles-once program.paragraphs refused.cycles is.cycles refused.cycles_are is.cycles_are)
    ∙ is.faultless in
    none-is-least fault (subst (λ all. IsLeast all fault) same refused.least)

fault_of : ℕ → ℕ → Fault
fault_of line reason = record { line = record { 0 = line }; reason = reason }

fault-parts : (a : Fault) → fault_of a.line.0 a.reason ≡ a
unfolding fault_of
fault-parts a = refl

same_fault : (a b : Fault) → a.line.0 ≡ b.line.0 → a.reason ≡ b.reason → a ≡ b
same_fault a b line reason =
    let parts : fault_of a.line.0 a.reason ≡ fault_of b.line.0 b.reason = cc in sym (fault-parts a) ∙ parts ∙ fault-parts b

not-both : (a b : Fault) → IsNoLater a b → IsNoLater b a → a ≡ b
not-both a b (inl less) (inl more) = absurd (omega (arith, less, more))
not-both a b (inl less) (inr same) = absurd (omega (arith, less, same.0))
not-both a b (inr same) (inl more) = absurd (omega (arith, more, same.0))
not-both a b (inr same) (inr other) = same_fault a b same.0 (omega (arith, same.1, other.1))

least_once : (all : List Fault) (a b : Fault) → IsLeast all a → IsLeast all b → a ≡ b
least_once all a b one two =
    not-both a b (All-contains (IsNoLater a) all b one.first two.among) (All-contains (IsNoLater b) all a two.first one.among)

pub one_fault : (program : Program) (fault other : Fault) → IsRefused program fault → IsRefused program other → fault ≡ other
one_fault program fault other one two =
    least_once _ fault other (subst (λ all. IsLeast all fault) (same-faults program fault one other two) one.least) two.least
