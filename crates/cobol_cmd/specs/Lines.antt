-- The one line that is put where a call is refused.
use Rattle.std.specs.Prelude.{ℕ, List, [], ◌++◌, codes}
use Rattle.std.specs.Fmt.{decimal}
use Rattle.cob_base.specs.declared.fault.TextFault.{TextFault}
use Rattle.cob_base.specs.declared.fault.TextFault.TheVariants as texts
use Rattle.cobol_words.specs.declared.fault.WordFault.{WordFault}
use Rattle.cobol_words.specs.declared.fault.WordFault.TheVariants as words
use Rattle.cobol_cmd.specs.declared.fault.ProgramFault.{ProgramFault}
use Rattle.cobol_cmd.specs.declared.fault.ProgramFault.TheVariants.{Lines, Words, Entries, Nesting, Profile, NoMemory}

-- the line that a fault names; want of memory names none
abbrev pub text_fault_line : TextFault → ℕ
text_fault_line (texts.BadByte line) = line.0
text_fault_line (texts.BadIndicator line) = line.0
text_fault_line (texts.BadDirective line) = line.0
text_fault_line texts.NoMemory = 0

abbrev pub text_fault_reason : TextFault → List ℕ
text_fault_reason (texts.BadByte line) = codes "bad-byte"
text_fault_reason (texts.BadIndicator line) = codes "bad-indicator"
text_fault_reason (texts.BadDirective line) = codes "bad-directive"
text_fault_reason texts.NoMemory = []

abbrev pub word_fault_line : WordFault → ℕ
word_fault_line (words.BadCharacter line) = line.0
word_fault_line (words.OpenLiteral line) = line.0
word_fault_line (words.LongWord line) = line.0
word_fault_line (words.LongNumber line) = line.0
word_fault_line (words.LongLiteral line) = line.0
word_fault_line (words.BadContinuation line) = line.0
word_fault_line words.NoMemory = 0

abbrev pub word_fault_reason : WordFault → List ℕ
word_fault_reason (words.BadCharacter line) = codes "bad-character"
word_fault_reason (words.OpenLiteral line) = codes "open-literal"
word_fault_reason (words.LongWord line) = codes "long-word"
word_fault_reason (words.LongNumber line) = codes "long-number"
word_fault_reason (words.LongLiteral line) = codes "long-literal"
word_fault_reason (words.BadContinuation line) = codes "bad-continuation"
word_fault_reason words.NoMemory = []

-- a refused program: its name, the pass, the line and, where a pass has several reasons, the reason
abbrev pub refused_line : List ℕ → ProgramFault → List ℕ
refused_line name (Lines fault) =
    codes "refused program " ++ (name ++ (codes " lines " ++ (decimal (text_fault_line fault) ++ (codes " " ++ (text_fault_reason fault ++ codes "\n")))))
refused_line name (Words fault) =
    codes "refused program " ++ (name ++ (codes " words " ++ (decimal (word_fault_line fault) ++ (codes " " ++ (word_fault_reason fault ++ codes "\n")))))
refused_line name (Entries line) = codes "refused program " ++ (name ++ (codes " entries " ++ (decimal line.0 ++ codes "\n")))
refused_line name (Nesting line) = codes "refused program " ++ (name ++ (codes " nesting " ++ (decimal line.0 ++ codes "\n")))
refused_line name (Profile line reason) =
    codes "refused program " ++ (name ++ (codes " profile " ++ (decimal line.0 ++ (codes " " ++ (decimal reason ++ codes "\n")))))
refused_line name NoMemory = []

-- the words have no shape of a command
abbrev pub words_line : List ℕ
words_line = codes "refused words\n"

-- a name that must be held is not
abbrev pub missing_line : List ℕ → List ℕ
missing_line name = codes "missing " ++ (name ++ codes "\n")

-- the shelf failed
abbrev pub read_fault_line : List ℕ → List ℕ
read_fault_line name = codes "read fault " ++ (name ++ codes "\n")

-- a text is longer than its limit
abbrev pub too_long_line : List ℕ → ℕ → List ℕ
too_long_line name limit = codes "too long " ++ (name ++ (codes " " ++ (decimal limit ++ codes "\n")))
