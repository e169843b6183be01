-- A program has one list of entries of screens.
use Rattle.std.proofs.Common.{◌≡◌, ℕ, ◌+◌, Bool, true, false, List, [], ◌∷◌, refl, sym, ◌∙◌, ap, subst, Option}
use Rattle.cob_base.specs.declared.divisions.Front.{Front}
use Rattle.cob_base.specs.declared.screen_entries.ScreenEntry.{ScreenEntry}
use Rattle.picture_rule.specs.Picture.{PictureValue}
use Rattle.picture_rule.specs.declared.kind.SignPlace.TheVariants.{Inside}
use Rattle.data_layout.specs.declared.row.Row.{Row}
use Rattle.data_layout.specs.Rows.{IsRead, is_above}
use Rattle.data_names.specs.Items.{IsTold}
use Rattle.data_names.specs.Parts.{screen_entries}
use Rattle.data_names.proofs.SameItems.{read_once, told_once, same_row}
use Rattle.entry_clauses.specs.Clauses.{screen_picture_text, is_screen_clause_twice}
use Rattle.entry_clauses.specs.ScreenItems.{ScreenItem, level_after, IsScreenItem, AreScreenItemsAfter, AreScreenItems}

screen_of : ScreenEntry → Row → Option PictureValue → Bool → ScreenItem
screen_of entry row picture signed = record { entry = entry; row = row; picture = picture; signed = signed }

screen-parts : (a : ScreenItem) → screen_of a.entry a.row a.picture a.signed ≡ a
unfolding screen_of
screen-parts a = refl

same_screen : (a b : ScreenItem) → a.entry ≡ b.entry → a.row ≡ b.row → a.picture ≡ b.picture → a.signed ≡ b.signed → a ≡ b
same_screen a b entry row picture signed =
    let parts : screen_of a.entry a.row a.picture a.signed ≡ screen_of b.entry b.row b.picture b.signed = cc in sym (screen-parts a) ∙ parts ∙ screen-parts b

screen_once : (first : Bool) (n : ℕ) (rest : List ScreenEntry) (entry : ScreenEntry) (a b : ScreenItem) → a.entry ≡ entry → b.entry ≡ entry → IsScreenItem first n rest a → IsScreenItem first n rest b → a ≡ b
screen_once first n rest entry a b a_is b_is one two =
    let entries : a.entry ≡ b.entry = a_is ∙ sym b_is in
    let clauses = ap (λ e. e.clauses) entries in
    let read = read_once (screen_picture_text b.entry.clauses) _ a.row.spelled b.row.spelled a.row.size b.row.size a.picture b.picture
    (subst (λ e. IsRead (screen_picture_text e.clauses) Inside a.row.spelled a.row.size a.picture) entries one.read) two.read in
    let told = told_once (screen_picture_text b.entry.clauses) one.told.0 two.told.0 a.signed b.signed
    (subst (λ e. IsTold (screen_picture_text e.clauses) one.told.0 a.signed) entries one.told.1) two.told.1 in
    same_screen a b entries
    (same_row a.row b.row (one.number ∙ sym two.number) (one.line ∙ ap (λ e. e.line) entries ∙ sym two.line) (one.level ∙ ap (λ e. e.level) entries ∙ sym two.level)
    (one.in_file ∙ sym two.in_file) (one.starts ∙ sym two.starts) (one.group ∙ ap (λ e. is_above e.level (level_after rest)) entries ∙ sym two.group)
    (one.occurs ∙ sym two.occurs) (one.twice ∙ ap (λ e. is_screen_clause_twice e.clauses) entries ∙ sym two.twice) read.spelled_is read.size_is)
    read.picture_is told.1

screens_after_once : (first : Bool) (n : ℕ) (entries : List ScreenEntry) (a b : List ScreenItem) → AreScreenItemsAfter first n entries a → AreScreenItemsAfter first n entries b → a ≡ b
screens_after_once first n [] a b one two = one ∙ sym two
screens_after_once first n (entry ∷ rest) [] b one two = absurd one
screens_after_once first n (entry ∷ rest) (x ∷ a) [] one two = absurd two
screens_after_once first n (entry ∷ rest) (x ∷ a) (y ∷ b) one two =
    ap (λ z. z ∷ a) (screen_once first n rest entry x y one.0 two.0 one.1 two.1) ∙ ap (λ z. y ∷ z) (screens_after_once false (n + 1) rest a b one.2 two.2)

pub screens_once : (front : Front) (a b : List ScreenItem) → AreScreenItems front a → AreScreenItems front b → a ≡ b
screens_once front a b one two = screens_after_once true 0 (screen_entries front) a b one two
