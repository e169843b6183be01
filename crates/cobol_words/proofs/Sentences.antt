-- Words cut into entries from the last to the first.
use Rattle.std.proofs.Common.{◌≡◌, Bool, true, false, cond, List, [], ◌∷◌, ◌++◌, reverse, Result, Ok, Err, refl, sym, ap, ◌∙◌}
use Rattle.std.proofs.lemmas.List.{reverse-append}
use Rattle.cob_base.specs.declared.word.Spoken.{Spoken}
use Rattle.cob_base.specs.declared.word.Entry.{Entry}
use Rattle.cobol_words.specs.declared.fault.EntryFault.{EntryFault}
use Rattle.cobol_words.specs.declared.fault.EntryFault.TheVariants as faults
use Rattle.cobol_words.specs.Entries.{is_stop, with_entry, on_first_entry, EntriesOf}

-- what one more word at the front makes of entries
abbrev pub with_word : Spoken → Result (List Entry) EntryFault → Result (List Entry) EntryFault
with_word word entries = cond (is_stop word.word) (with_entry (record { words = word ∷ [] }) entries) (on_first_entry word entries)

-- what words at the front make of entries
abbrev pub with_words : List Spoken → Result (List Entry) EntryFault → Result (List Entry) EntryFault
with_words [] entries = entries
with_words (word ∷ words) entries = with_word word (with_words words entries)

pub with_words-append : (words : List Spoken) (last : Spoken) (entries : Result (List Entry) EntryFault) → with_words (words ++ last ∷ []) entries ≡ with_words words (with_word last entries)
with_words-append [] last entries = refl
with_words-append (word ∷ words) last entries = ap (with_word word) (with_words-append words last entries)

pub entries_are : (words : List Spoken) → EntriesOf words ≡ with_words words (Ok [])
entries_are [] = refl
entries_are (word ∷ words) = ap (with_word word) (entries_are words)

fault_stays : (word : Spoken) (fault : EntryFault) → with_word word (Err fault) ≡ Err fault
fault_stays word fault = either (is_stop word.word)
  where
    either : (t : Bool) → cond t (with_entry (record { words = word ∷ [] }) (Err fault)) (on_first_entry word (Err fault)) ≡ Err fault
    either true = refl
    either false = refl

faults_stay : (words : List Spoken) (fault : EntryFault) → with_words words (Err fault) ≡ Err fault
faults_stay [] fault = refl
faults_stay (word ∷ words) fault = ap (with_word word) (faults_stay words fault) ∙ fault_stays word fault

pub no_stop : (words : List Spoken) (last : Spoken) → is_stop last.word ≡ false → EntriesOf (words ++ last ∷ []) ≡ Err (faults.NoStop last.line)
no_stop words last e =
    entries_are (words ++ last ∷ []) ∙ with_words-append words last (Ok [])
    ∙ ap (λ (t : Bool). with_words words (cond t (with_entry (record { words = last ∷ [] }) (Ok [])) (on_first_entry last (Ok [])))) e
    ∙ faults_stay words (faults.NoStop last.line)

-- the entry at the front, of words in reverse, and the entries behind it in reverse
abbrev pub cut_so_far : List Spoken → List Entry → Result (List Entry) EntryFault
cut_so_far open_ closed = Ok (record { words = reverse open_ } ∷ reverse closed)

pub begins : (words : List Spoken) (last : Spoken) → is_stop last.word ≡ true → with_words words (cut_so_far (last ∷ []) []) ≡ EntriesOf (words ++ last ∷ [])
begins words last e = sym (
    entries_are (words ++ last ∷ []) ∙ with_words-append words last (Ok [])
    ∙ ap (λ (t : Bool). with_words words (cond t (with_entry (record { words = last ∷ [] }) (Ok [])) (on_first_entry last (Ok [])))) e)

reversed_more : {A : Type 0} (xs : List A) (x : A) → reverse (xs ++ x ∷ []) ≡ x ∷ reverse xs
reversed_more xs x = reverse-append xs (x ∷ [])

-- a period ends the entry before it, and begins the one that it ends
pub stop_taken : (words all : List Spoken) (word : Spoken) (front front' : List Spoken) (behind behind' : List Entry) (entry : Entry) (total : Result (List Entry) EntryFault)
    → all ≡ words ++ word ∷ [] → is_stop word.word ≡ true → entry.words ≡ reverse front → front' ≡ word ∷ [] → behind' ≡ behind ++ entry ∷ []
    → with_words all (cut_so_far front behind) ≡ total → with_words words (cut_so_far front' behind') ≡ total
stop_taken words all word front front' behind behind' entry total a e w f b so_far =
    let entry_is : entry ≡ record { words = reverse front } = ap (λ (ws : List Spoken). record { words = ws }) w in
    let new : cut_so_far front' behind' ≡ Ok (record { words = word ∷ [] } ∷ record { words = reverse front } ∷ reverse behind) =
    ap (λ (xs : List Spoken). cut_so_far xs behind') f ∙ ap (λ (ys : List Entry). cut_so_far (word ∷ []) ys) b
    ∙ ap (λ (ys : List Entry). Ok (record { words = word ∷ [] } ∷ ys)) (reversed_more behind entry)
    ∙ ap (λ (x : Entry). Ok (record { words = word ∷ [] } ∷ x ∷ reverse behind)) entry_is in
    let old : with_word word (cut_so_far front behind) ≡ Ok (record { words = word ∷ [] } ∷ record { words = reverse front } ∷ reverse behind) =
    ap (λ (t : Bool). cond t (with_entry (record { words = word ∷ [] }) (cut_so_far front behind)) (on_first_entry word (cut_so_far front behind))) e in
    ap (with_words words) (new ∙ sym old) ∙ sym (with_words-append words word (cut_so_far front behind)) ∙ ap (λ (ws : List Spoken). with_words ws (cut_so_far front behind)) (sym a) ∙ so_far

pub word_taken : (words all : List Spoken) (word : Spoken) (front front' : List Spoken) (behind behind' : List Entry) (total : Result (List Entry) EntryFault)
    → all ≡ words ++ word ∷ [] → is_stop word.word ≡ false → front' ≡ front ++ word ∷ [] → behind' ≡ behind
    → with_words all (cut_so_far front behind) ≡ total → with_words words (cut_so_far front' behind') ≡ total
word_taken words all word front front' behind behind' total a e f b so_far =
    let new : cut_so_far front' behind' ≡ Ok (record { words = word ∷ reverse front } ∷ reverse behind) =
    ap (λ (xs : List Spoken). cut_so_far xs behind') f ∙ ap (λ (ys : List Entry). cut_so_far (front ++ word ∷ []) ys) b
    ∙ ap (λ (xs : List Spoken). Ok (record { words = xs } ∷ reverse behind)) (reversed_more front word) in
    let old : with_word word (cut_so_far front behind) ≡ Ok (record { words = word ∷ reverse front } ∷ reverse behind) =
    ap (λ (t : Bool). cond t (with_entry (record { words = word ∷ [] }) (cut_so_far front behind)) (on_first_entry word (cut_so_far front behind))) e in
    ap (with_words words) (new ∙ sym old) ∙ sym (with_words-append words word (cut_so_far front behind)) ∙ ap (λ (ws : List Spoken). with_words ws (cut_so_far front behind)) (sym a) ∙ so_far
