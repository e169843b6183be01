-- What words are to the grammar.
use Rattle.std.specs.Prelude.{ℕ, List, [], ◌∷◌, map, Option, Some, None}
use Rattle.cob_base.specs.declared.keywords.Reserved.{Reserved}
use Rattle.cob_base.specs.declared.keywords.Reserved.TheVariants as reserved
use Rattle.cob_base.specs.declared.keywords.Mark.{Mark}
use Rattle.cob_base.specs.declared.line.Line.{Line}
use Rattle.cob_base.specs.declared.tokens.Token.{Token}
use Rattle.cob_base.specs.declared.tokens.Token.TheVariants as tokens
use Rattle.cob_base.specs.declared.tokens.SeenEntry.{SeenEntry}
use Rattle.cob_base.specs.declared.word.Word.{Word}
use Rattle.cob_base.specs.declared.word.Word.TheVariants as words
use Rattle.cob_base.specs.declared.word.Spoken.{Spoken}
use Rattle.cob_base.specs.declared.word.Entry.{Entry}
use Rattle.cob_base.specs.Reserved.{reserved_of, mark_of}

abbrev pub named : Line → List ℕ → Option Reserved → Token
named line name (Some (reserved.Key keyword)) = tokens.Key keyword
named line name (Some (reserved.Verb verb)) = tokens.Verb verb line
named line name None = tokens.Name name

abbrev pub marked : Option Mark → Token
marked (Some mark) = tokens.Mark mark
marked None = tokens.Unknown

-- what a word that begins in a line is: one in the table of reserved words, in either case of letters, is that word, and else a name
abbrev pub token_of : Line → Word → Token
token_of line (words.Name name) = named line name (reserved_of name)
token_of line (words.Text text) = tokens.Text text
token_of line (words.Number value digits decimals signed) = tokens.Number (record { value = value; digits = digits; decimals = decimals; signed = signed })
token_of line (words.Picture picture) = tokens.Picture picture
token_of line (words.Mark mark) = marked (mark_of mark)
token_of line words.Stop = tokens.Stop

abbrev pub token_at : Spoken → Token
token_at spoken = token_of spoken.line spoken.word

-- the line of the first word, or 1 where there is none
abbrev pub first_line : List Spoken → Line
first_line [] = record { 0 = 1 }
first_line (spoken ∷ more) = spoken.line

-- an entry as the grammar sees it
abbrev pub seen_entry : Entry → SeenEntry
seen_entry entry = record { line = first_line entry.words; tokens = map token_at entry.words }
