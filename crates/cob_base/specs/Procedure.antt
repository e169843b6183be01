-- The grammar of the procedure division, without its header.
use Rattle.std.specs.Prelude.{◌≡◌, ◌⊎◌, ℕ, Bool, true, false, List, [], ◌∷◌, ◌++◌, Option, Some, None}
use Rattle.cob_base.specs.declared.parse_fault.TheConstants.{MAX_OPEN}
use Rattle.cob_base.specs.declared.parse_fault.Misfit.{Misfit}
use Rattle.cob_base.specs.declared.parse_fault.Misfit.TheVariants.{Nesting, NoFit}
use Rattle.cob_base.specs.declared.keywords.Keyword.TheVariants as k
use Rattle.cob_base.specs.declared.line.Line.{Line}
use Rattle.cob_base.specs.declared.tokens.Token.{Token}
use Rattle.cob_base.specs.declared.tokens.Token.TheVariants as tokens
use Rattle.cob_base.specs.declared.statements.Located.{Located}
use Rattle.cob_base.specs.declared.paragraphs.Sentence.{Sentence}
use Rattle.cob_base.specs.declared.paragraphs.Sentence.TheVariants as sentences
use Rattle.cob_base.specs.declared.paragraphs.Paragraph.{Paragraph}
use Rattle.cob_base.specs.declared.paragraphs.EndProgram.{EndProgram}
use Rattle.cob_base.specs.declared.paragraphs.Procedure.{Procedure}
use Rattle.cob_base.specs.declared.paragraphs.Program.{Program}
use Rattle.cob_base.specs.declared.divisions.Front.{Front}
use Rattle.cob_base.specs.Form as words
use Rattle.cob_base.specs.Form.{Form, Words}
use Rattle.cob_base.specs.EntryForm.{EntryForm, Entries, many, Reads, Stops}
use Rattle.cob_base.specs.EntryForm.EntryForm.{entry, both, made, optional}
use Rattle.cob_base.specs.Phrases.{is_key, key, full_stop, name, outside_within}
use Rattle.cob_base.specs.Front.{name_entry, front}
use Rattle.cob_base.specs.Statements.{to_period, statements}

-- ---- sentences

-- a name followed by SECTION
abbrev pub before_section : Words → Bool
before_section (tokens.Key k.Section ∷ w) = true
before_section _ = false

abbrev pub names_section : Token → Words → Bool
names_section (tokens.Name n) w = before_section w
names_section _ w = false

-- name SECTION, with all words up to the period
unfoldable pub section : Form true (Unit {0})
section = Form.opened_by names_section (Form.after name (Form.after (key k.Section) to_period))

-- DECLARATIVES, with all words up to the period
unfoldable pub declaratives : Form true (Unit {0})
declaratives = outside_within (is_key k.Declaratives)

unfoldable pub outside_sentence : Form true (Unit {0})
outside_sentence = Form.part (Form.either section declaratives)

-- statement+ | outside
unfoldable pub sentence_words : Form true Sentence
sentence_words = Form.either (Form.made sentences.Statements (statements MAX_OPEN)) (Form.made (λ u. sentences.Outside) outside_sentence)

-- sentence = (statement+ | outside) .
unfoldable pub sentence : Line → Form true (Located Sentence)
sentence line = Form.made (λ what. record { line = line; item = what }) (words.before sentence_words full_stop)

unfoldable pub sentences_of : EntryForm false (List (Located Sentence))
sentences_of = many (entry sentence)

-- ---- paragraphs

-- name . The line is that of the name.
unfoldable pub header : Line → Form true (Line × List ℕ)
header line = Form.made (λ called. (line, called)) name_entry

-- paragraph = name . sentence*
unfoldable pub paragraph : EntryForm true Paragraph
paragraph = made (λ ((line, called), held). record { line = line; name = Some called; sentences = held }) (both (entry header) sentences_of)

-- END PROGRAM name .
unfoldable pub end_program : Line → Form true EndProgram
end_program line = Form.made (λ called. record { line = line; name = called }) (Form.after (key k.End) (Form.after (key k.Program) name_entry))

-- ---- the procedure division

-- the sentences before the first paragraph are a paragraph without a name, which has the line of its first sentence
abbrev pub unnamed : List (Located Sentence) → List Paragraph
unnamed [] = []
unnamed (first ∷ more) = record { line = first.line; name = None; sentences = first ∷ more } ∷ []

abbrev pub procedure_of : List (Located Sentence) × (List Paragraph × Option EndProgram) → Procedure
procedure_of (first, (named, ended)) = record { paragraphs = unnamed first ++ named; end_program = ended }

-- sentence* paragraph* [END PROGRAM name .]
unfoldable pub procedure : EntryForm false Procedure
procedure = made procedure_of (both sentences_of (both (many paragraph) (optional (entry end_program))))

-- ---- the program

abbrev pub program_of : Front × Procedure → Program
program_of (before, division) = record { front = before; paragraphs = division.paragraphs; end_program = division.end_program }

-- front procedure
unfoldable pub program : EntryForm true Program
program = made program_of (both front procedure)

-- ---- entries that read as a form whole, with none left

-- Why they do not, and the entries from the one on that does not fit: one in the form, or one after its end.
abbrev pub StopsWhole : {b : Bool} {A : Type 0} → EntryForm b A → Misfit → Entries → Entries → Type 0
StopsWhole f Nesting at es = Stops f Nesting at es
StopsWhole {A = A} f NoFit at es = Stops f NoFit at es ⊎ ((x : A) × Reads f es x at × ¬ (at ≡ []))
