-- A program has one list of items.
use Rattle.std.proofs.Common.{◌≡◌, ℕ, ◌+◌, ◌^◌, ◌-◌, min, Bool, true, false, List, [], ◌∷◌, ◌++◌, length, map, refl, sym, ◌∙◌, ap, subst, Option, Some, None, All}
use Rattle.std.proofs.lemmas.List.Elements.{All-head, All-tail}
use Rattle.cob_base.specs.declared.divisions.Front.{Front}
use Rattle.cob_base.specs.declared.line.Line.{Line}
use Rattle.cob_base.specs.declared.data_entries.DataEntry.{DataEntry}
use Rattle.cob_base.specs.declared.data_entries.DataEntry.TheVariants.{Item, Condition}
use Rattle.cob_base.specs.declared.data_entries.ItemEntry.{ItemEntry}
use Rattle.picture_rule.specs.Picture.{PictureValue, signed_at}
use Rattle.picture_rule.specs.Text.{Fits, IsTooWide, picture_of}
use Rattle.picture_rule.specs.declared.kind.PictureKind.{PictureKind}
use Rattle.picture_rule.specs.declared.kind.SignPlace.{SignPlace}
use Rattle.data_layout.specs.declared.row.Row.{Row}
use Rattle.data_layout.specs.declared.row.Spelled.{Spelled}
use Rattle.data_layout.specs.declared.row.Spelled.TheVariants as s
use Rattle.data_layout.specs.declared.row.Described.{Described}
use Rattle.data_layout.specs.Rows.{picture_text, IsRead, IsRow, AreRows, AreAllRows, Section, sections, sign_size}
use Rattle.data_names.specs.Parts.{Source}
use Rattle.data_names.specs.Items.{IsTold, IsToldWhole, DataItem, AreDataItems}
use Rattle.picture_rule.proofs.Results.{whole_once}
use Rattle.data_names.proofs.Forms.{spells_once}

-- ---- what a text comes to

-- what is read of a text is one thing
pub record SameReading (spelled other : Spelled) (size more : ℕ) (picture second : Option PictureValue) : Type 0 where
  pub spelled_is : spelled ≡ other
  pub size_is : size ≡ more
  pub picture_is : picture ≡ second

wide_once : (text : List ℕ) (kind kind' : PictureKind) (bytes bytes' : ℕ) (signed signed' : Bool) → IsTooWide text kind bytes signed → IsTooWide text kind' bytes' signed'
    → (bytes ≡ bytes') × (signed ≡ signed')
wide_once text kind kind' bytes bytes' signed signed' one two =
    let same : one.1 ≡ two.1 = (spells_once text one.0 two.0 one.1 two.1 one.2 two.2).1 in
    (one.5 ∙ ap (λ f. min f.size (2 ^ 32 - 1)) same ∙ sym two.5, one.6 ∙ ap (λ f. f.signed) same ∙ sym two.6)

pub read_once : (text : Option (List ℕ)) (place : SignPlace) (spelled other : Spelled) (size more : ℕ) (picture second : Option PictureValue)
    → IsRead text place spelled size picture → IsRead text place other more second → SameReading spelled other size more picture second
read_once None place spelled other size more picture second one two =
    record { spelled_is = one.0 ∙ sym two.0; size_is = one.1 ∙ sym two.1; picture_is = one.2 ∙ sym two.2 }
read_once (Some text) place s.Missing other size more picture second one two = absurd one
read_once (Some text) place s.Unreadable s.Missing size more picture second one two = absurd two
read_once (Some text) place s.TooWide s.Missing size more picture second one two = absurd two
read_once (Some text) place s.Fits s.Missing size more picture second one two = absurd two
read_once (Some text) place s.Unreadable s.Unreadable size more picture second one two =
    record { spelled_is = refl; size_is = one.1 ∙ sym two.1; picture_is = one.2 ∙ sym two.2 }
read_once (Some text) place s.Unreadable s.TooWide size more picture second one two = let t = two.0.3 in absurd (one.0 t.0 t.1 t.2)
read_once (Some text) place s.Unreadable s.Fits size more picture second one two = absurd (one.0 two.0 two.1 two.2)
read_once (Some text) place s.TooWide s.Unreadable size more picture second one two = let t = one.0.3 in absurd (two.0 t.0 t.1 t.2)
read_once (Some text) place s.TooWide s.TooWide size more picture second one two =
    let same = wide_once text one.0.0 two.0.0 one.0.1 two.0.1 one.0.2 two.0.2 one.0.3 two.0.3 in
    record {
      spelled_is = refl;
      size_is = one.0.4 ∙ ap (λ b. b + sign_size one.0.2 place) same.0 ∙ ap (λ b. two.0.1 + sign_size b place) same.1 ∙ sym two.0.4;
      picture_is = one.1 ∙ sym two.1;
    }
read_once (Some text) place s.TooWide s.Fits size more picture second one two =
    let t = one.0.3 in let same : two.1 ≡ t.1 = (spells_once text two.0 t.0 two.1 t.1 two.2 t.2).1 in absurd (t.3 (subst (λ f. Fits f) same two.3))
read_once (Some text) place s.Fits s.Unreadable size more picture second one two = absurd (two.0 one.0 one.1 one.2)
read_once (Some text) place s.Fits s.TooWide size more picture second one two =
    let t = two.0.3 in let same : one.1 ≡ t.1 = (spells_once text one.0 t.0 one.1 t.1 one.2 t.2).1 in absurd (t.3 (subst (λ f. Fits f) same one.3))
read_once (Some text) place s.Fits s.Fits size more picture second one two =
    let same = spells_once text one.0 two.0 one.1 two.1 one.2 two.2 in
    let pictures : signed_at place (picture_of one.0 one.1) ≡ signed_at place (picture_of two.0 two.1) =
    ap (λ m. signed_at place (picture_of m one.1)) same.0 ∙ ap (λ f. signed_at place (picture_of two.0 f)) same.1 in
    record {
      spelled_is = refl;
      size_is = one.4 ∙ ap (λ p. p.size) pictures ∙ sym two.4;
      picture_is = one.5 ∙ ap Some pictures ∙ sym two.5;
    }

pub told_once : (text : Option (List ℕ)) (kind other : Option PictureKind) (signed more : Bool) → IsTold text kind signed → IsTold text other more → (kind ≡ other) × (signed ≡ more)
told_once None kind other signed more one two = (one.0 ∙ sym two.0, one.1 ∙ sym two.1)
told_once (Some text) None None signed more one two = (refl, one.1 ∙ sym two.1)
told_once (Some text) None (Some kind) signed more one two = absurd (one.0 two.0 two.1 two.2)
told_once (Some text) (Some kind) None signed more one two = absurd (two.0 one.0 one.1 one.2)
told_once (Some text) (Some kind) (Some other) signed more one two =
    let same : one.1 ≡ two.1 = (spells_once text one.0 two.0 one.1 two.1 one.2 two.2).1 in
    (ap Some (one.3 ∙ ap (λ f. f.kind) same ∙ sym two.3), one.4 ∙ ap (λ f. f.signed) same ∙ sym two.4)

told_whole_once : (text : Option (List ℕ)) (whole other : Bool) → IsToldWhole text whole → IsToldWhole text other → whole ≡ other
told_whole_once None whole other one two = one ∙ sym two
told_whole_once (Some text) whole other one two = whole_once text whole other one two

-- ---- rows

row_of : ℕ → Line → ℕ → Bool → Bool → Bool → Option ℕ → Bool → Spelled → ℕ → Row
row_of number line level in_file starts group occurs twice spelled size =
    record { number = number; line = line; level = level; in_file = in_file; starts = starts; group = group; occurs = occurs; twice = twice; spelled = spelled; size = size }

row-parts : (a : Row) → row_of a.number a.line a.level a.in_file a.starts a.group a.occurs a.twice a.spelled a.size ≡ a
unfolding row_of
row-parts a = refl

pub same_row : (a b : Row) → a.number ≡ b.number → a.line ≡ b.line → a.level ≡ b.level → a.in_file ≡ b.in_file → a.starts ≡ b.starts → a.group ≡ b.group → a.occurs ≡ b.occurs
    → a.twice ≡ b.twice → a.spelled ≡ b.spelled → a.size ≡ b.size → a ≡ b
same_row a b number line level in_file starts group occurs twice spelled size =
    let parts : row_of a.number a.line a.level a.in_file a.starts a.group a.occurs a.twice a.spelled a.size ≡ row_of b.number b.line b.level b.in_file b.starts b.group b.occurs b.twice b.spelled b.size = cc in
    sym (row-parts a) ∙ parts ∙ row-parts b

text_of : Option (List ℕ) → Option PictureValue → Described
text_of name picture = record { name = name; picture = picture }

text-parts : (a : Described) → text_of a.name a.picture ≡ a
unfolding text_of
text-parts a = refl

same_text : (a b : Described) → a.name ≡ b.name → a.picture ≡ b.picture → a ≡ b
same_text a b name picture =
    let parts : text_of a.name a.picture ≡ text_of b.name b.picture = cc in sym (text-parts a) ∙ parts ∙ text-parts b

item_of : Source → Row → Described → Option PictureKind → Bool → Bool → DataItem
item_of source row text kind signed whole = record { source = source; row = row; text = text; kind = kind; signed = signed; whole = whole }

item-parts : (a : DataItem) → item_of a.source a.row a.text a.kind a.signed a.whole ≡ a
unfolding item_of
item-parts a = refl

same_item : (a b : DataItem) → a.source ≡ b.source → a.row ≡ b.row → a.text ≡ b.text → a.kind ≡ b.kind → a.signed ≡ b.signed → a.whole ≡ b.whole → a ≡ b
same_item a b source row text kind signed whole =
    let parts : item_of a.source a.row a.text a.kind a.signed a.whole ≡ item_of b.source b.row b.text b.kind b.signed b.whole = cc in sym (item-parts a) ∙ parts ∙ item-parts b

row_once : (of_file first : Bool) (n : ℕ) (entry : ItemEntry) (rest : List DataEntry) (row other : Row) (text more : Described)
    → IsRow of_file first n entry rest row text → IsRow of_file first n entry rest other more → (row ≡ other) × (text ≡ more)
row_once of_file first n entry rest row other text more one two =
    let same = read_once _ _ row.spelled other.spelled row.size other.size text.picture more.picture one.read two.read in (
      same_row row other (one.number ∙ sym two.number) (one.line ∙ sym two.line) (one.level ∙ sym two.level) (one.in_file ∙ sym two.in_file) (one.starts ∙ sym two.starts)
          (one.group ∙ sym two.group) (one.occurs ∙ sym two.occurs) (one.twice ∙ sym two.twice) same.spelled_is same.size_is,
      same_text text more (one.name ∙ sym two.name) same.picture_is,
    )

rows_once : (of_file first : Bool) (n : ℕ) (entries : List DataEntry) (rows others : List Row) (texts more : List Described)
    → AreRows of_file first n entries rows texts → AreRows of_file first n entries others more → (rows ≡ others) × (texts ≡ more)
rows_once of_file first n [] rows others texts more one two = (one.0 ∙ sym two.0, one.1 ∙ sym two.1)
rows_once of_file first n (Condition entry ∷ rest) rows others texts more one two = rows_once of_file first n rest rows others texts more one two
rows_once of_file first n (Item entry ∷ rest) rows others texts more one two =
    let head = row_once of_file first n entry rest one.0 two.0 one.1 two.1 one.4 two.4 in
    let tail = rows_once of_file false (n + 1) rest one.2 two.2 one.3 two.3 one.5 two.5 in
    (one.6 ∙ ap (λ r. r ∷ one.2) head.0 ∙ ap (λ r. two.0 ∷ r) tail.0 ∙ sym two.6, one.7 ∙ ap (λ t. t ∷ one.3) head.1 ∙ ap (λ t. two.1 ∷ t) tail.1 ∙ sym two.7)

pub all_rows_once : (n : ℕ) (all : List Section) (rows others : List Row) (texts more : List Described) → AreAllRows n all rows texts → AreAllRows n all others more
    → (rows ≡ others) × (texts ≡ more)
all_rows_once n [] rows others texts more one two = (one.0 ∙ sym two.0, one.1 ∙ sym two.1)
all_rows_once n (section ∷ later) rows others texts more one two =
    let head = rows_once section.in_file true n section.entries one.0 two.0 one.1 two.1 one.4 two.4 in
    let moved : AreAllRows (n + length two.0) later one.2 one.3 = subst (λ r. AreAllRows (n + length r) later one.2 one.3) head.0 one.5 in
    let tail = all_rows_once (n + length two.0) later one.2 two.2 one.3 two.3 moved two.5 in
    (one.6 ∙ ap (λ r. r ++ one.2) head.0 ∙ ap (λ r. two.0 ++ r) tail.0 ∙ sym two.6, one.7 ∙ ap (λ t. t ++ one.3) head.1 ∙ ap (λ t. two.1 ++ t) tail.1 ∙ sym two.7)

-- ---- items

item_once : (a b : DataItem) → a.source ≡ b.source → a.row ≡ b.row → a.text ≡ b.text → IsTold (picture_text a.source.entry.clauses) a.kind a.signed
    → IsTold (picture_text b.source.entry.clauses) b.kind b.signed → IsToldWhole (picture_text a.source.entry.clauses) a.whole → IsToldWhole (picture_text b.source.entry.clauses) b.whole → a ≡ b
item_once a b source row text one two three four =
    let moved : IsTold (picture_text b.source.entry.clauses) a.kind a.signed = subst (λ x. IsTold (picture_text x.entry.clauses) a.kind a.signed) source one in
    let told = told_once (picture_text b.source.entry.clauses) a.kind b.kind a.signed b.signed moved two in
    let whole = subst (λ x. IsToldWhole (picture_text x.entry.clauses) a.whole) source three in
    same_item a b source row text told.0 told.1 (told_whole_once (picture_text b.source.entry.clauses) a.whole b.whole whole four)

abbrev Told : DataItem → Type 0
Told item = IsTold (picture_text item.source.entry.clauses) item.kind item.signed

abbrev ToldWhole : DataItem → Type 0
ToldWhole item = IsToldWhole (picture_text item.source.entry.clauses) item.whole

lists_once : (a b : List DataItem) → map (λ item. item.source) a ≡ map (λ item. item.source) b → map (λ item. item.row) a ≡ map (λ item. item.row) b
    → map (λ item. item.text) a ≡ map (λ item. item.text) b → All (λ item. IsTold (picture_text item.source.entry.clauses) item.kind item.signed) a
    → All (λ item. IsTold (picture_text item.source.entry.clauses) item.kind item.signed) b → All ToldWhole a → All ToldWhole b → a ≡ b
lists_once [] [] source row text one two three four = refl
lists_once [] (y ∷ b) source row text one two three four = absurd (cc source)
lists_once (x ∷ a) [] source row text one two three four = absurd (cc source)
lists_once (x ∷ a) (y ∷ b) source row text one two three four =
    let source_is : x.source ≡ y.source = cc source in let sources_are : map (λ item. item.source) a ≡ map (λ item. item.source) b = cc source in
    let row_is : x.row ≡ y.row = cc row in let rows_are : map (λ item. item.row) a ≡ map (λ item. item.row) b = cc row in
    let text_is : x.text ≡ y.text = cc text in let texts_are : map (λ item. item.text) a ≡ map (λ item. item.text) b = cc text in
    ap (λ z. z ∷ a) (item_once x y source_is row_is text_is (All-head Told x a one) (All-head Told y b two) (All-head ToldWhole x a three) (All-head ToldWhole y b four))
    ∙ ap (λ z. y ∷ z) (lists_once a b sources_are rows_are texts_are (All-tail Told x a one) (All-tail Told y b two) (All-tail ToldWhole x a three) (All-tail ToldWhole y b four))

pub items_once : (front : Front) (a b : List DataItem) → AreDataItems front a → AreDataItems front b → a ≡ b
items_once front a b one two =
    let rows = all_rows_once 0 (sections front) _ _ _ _ one.rows two.rows in
    lists_once a b (one.entries ∙ sym two.entries) rows.0 rows.1 one.told two.told one.whole two.whole
