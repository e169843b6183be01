-- The entries of words.
use Rattle.std.specs.Prelude.{List, [], ◌∷◌, Result, Ok, Err, ◌≡◌, Bool, true, false, if◌then◌else◌}
use Rattle.cob_base.specs.declared.word.Word.{Word}
use Rattle.cob_base.specs.declared.word.Word.TheVariants as words
use Rattle.cob_base.specs.declared.word.Spoken.{Spoken}
use Rattle.cob_base.specs.declared.word.Entry.{Entry}
use Rattle.cobol_words.specs.declared.fault.EntryFault.{EntryFault}
use Rattle.cobol_words.specs.declared.fault.EntryFault.TheVariants as faults

abbrev pub is_stop : Word → Bool
is_stop words.Stop = true
is_stop _ = false

abbrev pub with_entry : Entry → Result (List Entry) EntryFault → Result (List Entry) EntryFault
with_entry entry (Ok entries) = Ok (entry ∷ entries)
with_entry entry (Err fault) = Err fault

-- a word at the front of the first entry
abbrev pub on_first_entry : Spoken → Result (List Entry) EntryFault → Result (List Entry) EntryFault
on_first_entry word (Ok []) = Err (faults.NoStop word.line)
on_first_entry word (Ok (entry ∷ entries)) = Ok (record { words = word ∷ entry.words } ∷ entries)
on_first_entry word (Err fault) = Err fault

-- the entries of words: each separator period ends one. Where the last word is no period there are none
abbrev pub EntriesOf : List Spoken → Result (List Entry) EntryFault
EntriesOf [] = Ok []
EntriesOf (word ∷ words) =
    if is_stop word.word then with_entry (record { words = word ∷ [] }) (EntriesOf words)
    else on_first_entry word (EntriesOf words)

-- what was answered is what is said; want of memory alone says nothing
abbrev pub GivesEntries : {A : Type 0} → Result A EntryFault → Result A EntryFault → Type 0
GivesEntries (Ok entries) said = said ≡ Ok entries
GivesEntries (Err faults.NoMemory) said = Unit {0}
GivesEntries (Err fault) said = said ≡ Err fault
