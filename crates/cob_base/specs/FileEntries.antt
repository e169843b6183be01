-- The grammar of file control entries.
use Rattle.std.specs.Prelude.{Bool, true, Option, Some, None}
use Rattle.cob_base.specs.declared.parse_fault.TheConstants.{MAX_OPEN}
use Rattle.cob_base.specs.declared.keywords.Keyword.{Keyword}
use Rattle.cob_base.specs.declared.keywords.Keyword.TheVariants as k
use Rattle.cob_base.specs.declared.keywords.Verb.TheVariants as verbs
use Rattle.cob_base.specs.declared.tokens.Token.{Token}
use Rattle.cob_base.specs.declared.tokens.Token.TheVariants.{Verb}
use Rattle.cob_base.specs.declared.file_entries.Sharing.{Sharing}
use Rattle.cob_base.specs.declared.file_entries.Sharing.TheVariants as sharings
use Rattle.cob_base.specs.declared.file_entries.Access.{Access}
use Rattle.cob_base.specs.declared.file_entries.Access.TheVariants as accesses
use Rattle.cob_base.specs.declared.file_entries.LockMode.{LockMode}
use Rattle.cob_base.specs.declared.file_entries.LockMode.TheVariants as lock_modes
use Rattle.cob_base.specs.declared.file_entries.Assigned.{Assigned}
use Rattle.cob_base.specs.declared.file_entries.Assigned.TheVariants as assigneds
use Rattle.cob_base.specs.declared.file_entries.FileClause.{FileClause}
use Rattle.cob_base.specs.declared.file_entries.FileClause.TheVariants as clauses
use Rattle.cob_base.specs.declared.file_entries.LockOn.{LockOn}
use Rattle.cob_base.specs.declared.file_entries.FileEntry.{FileEntry}
use Rattle.cob_base.specs.declared.line.Line.{Line}
use Rattle.cob_base.specs.Form.{Form, before, many, is_there}
use Rattle.cob_base.specs.Form.Form.{word, mark, part, both, after, made, either, optional}
use Rattle.cob_base.specs.Phrases.{is_text, is_name, key_for, key, full_stop, noise, name, record_or_records, outside_within, reference}

-- ---- SHARING

-- the verb READ, as a word of the phrase READ ONLY
abbrev pub is_read : Token → Option (Unit {0})
is_read (Verb verbs.Read line) = Some tt
is_read _ = None

-- ALL [OTHER] | NO [OTHER] | READ ONLY
unfoldable pub sharing_within : Form true Sharing
sharing_within = either (made (λ u. sharings.AllOther) (after (key k.All) (noise k.Other)))
    (either (made (λ u. sharings.NoOther) (after (key k.No) (noise k.Other)))
    (made (λ u. sharings.ReadOnly) (after (mark is_read) (key k.Only))))

unfoldable pub sharing : Form true Sharing
sharing = part sharing_within

-- ---- clauses

-- LINE PADDING RELATIVE RESERVE SEQUENTIAL, with all words up to the entry's period
abbrev pub outside_file_word : Keyword → Option (Unit {0})
outside_file_word k.Line = Some tt
outside_file_word k.Sequential = Some tt
outside_file_word k.OutsideFileWord = Some tt
outside_file_word _ = None

unfoldable pub outside_file : Form true (Unit {0})
outside_file = part (outside_within (key_for outside_file_word))

-- [ORGANIZATION [IS]] (INDEXED|outside)
unfoldable pub organization_words : Form true Bool
organization_words = after (key k.Organization) (noise k.Is)

unfoldable pub indexed_or_outside : Form true FileClause
indexed_or_outside = either (made (λ u. clauses.Indexed) (key k.Indexed)) (made (λ u. clauses.Outside) outside_file)

unfoldable pub organization : Form true FileClause
organization = after (optional organization_words) indexed_or_outside

-- ACCESS [MODE] [IS] (SEQUENTIAL|RANDOM|DYNAMIC)
abbrev pub access_of : Keyword → Option Access
access_of k.Sequential = Some accesses.Sequential
access_of k.Random = Some accesses.Random
access_of k.Dynamic = Some accesses.Dynamic
access_of _ = None

unfoldable pub access_mode : Form true Access
access_mode = after (noise k.Mode) (after (noise k.Is) (mark (key_for access_of)))

unfoldable pub access : Form true FileClause
access = made clauses.Access (after (key k.Access) access_mode)

-- RECORD [KEY] [IS] ref
unfoldable pub record_key : Form true FileClause
record_key = made clauses.RecordKey (after (key k.Record) (after (noise k.Key) (after (noise k.Is) (reference MAX_OPEN))))

-- [WITH] DUPLICATES
unfoldable pub duplicates : Form true (Unit {0})
duplicates = after (noise k.With) (key k.Duplicates)

-- ALTERNATE [RECORD] [KEY] [IS] ref [[WITH] DUPLICATES]
unfoldable pub alternate_key : Form true FileClause
alternate_key = made (λ (item, twice). clauses.AlternateKey item (is_there twice))
    (after (key k.Alternate) (after (noise k.Record) (after (noise k.Key) (after (noise k.Is) (both (reference MAX_OPEN) (optional duplicates))))))

-- [FILE] STATUS [IS] ref
unfoldable pub status_rest : Form true FileClause
status_rest = made clauses.FileStatus (after (noise k.Is) (reference MAX_OPEN))

unfoldable pub status_words : Form true (Unit {0})
status_words = after (noise k.File) (key k.Status)

unfoldable pub file_status : Form true FileClause
file_status = after status_words status_rest

-- LOCK [MODE] [IS] (MANUAL|AUTOMATIC) [[WITH] LOCK ON [MULTIPLE] (RECORD|RECORDS)]
abbrev pub lock_mode_of : Keyword → Option LockMode
lock_mode_of k.Manual = Some lock_modes.Manual
lock_mode_of k.Automatic = Some lock_modes.Automatic
lock_mode_of _ = None

unfoldable pub lock_mode : Form true LockMode
lock_mode = after (noise k.Mode) (after (noise k.Is) (mark (key_for lock_mode_of)))

unfoldable pub lock_on : Form true LockOn
lock_on = made (λ multiple. record { multiple = multiple })
    (after (noise k.With) (after (key k.Lock) (after (key k.On) (before (noise k.Multiple) (mark (key_for record_or_records))))))

unfoldable pub lock_front : Form true LockMode
lock_front = after (key k.Lock) lock_mode

unfoldable pub lock : Form true FileClause
lock = made (λ (mode, on). clauses.Lock mode on) (both lock_front (optional lock_on))

-- SHARING [WITH] sharing
unfoldable pub sharing_clause : Form true FileClause
sharing_clause = made clauses.Sharing (after (key k.Sharing) (after (noise k.With) sharing))

unfoldable pub file_clause_within : Form true FileClause
file_clause_within =
    either organization
    (either access
    (either record_key
    (either alternate_key
    (either file_status
    (either lock
    sharing_clause)))))

unfoldable pub file_clause : Form true FileClause
file_clause = part file_clause_within

-- ---- entries

-- text|name
unfoldable pub assigned : Form true Assigned
assigned = either (made assigneds.Text (word is_text)) (made assigneds.Name (word is_name))

-- SELECT [OPTIONAL] name ASSIGN [TO] (text|name) fileclause* . The line is that of SELECT.
unfoldable pub select : Line → Form true FileEntry
select line = made (λ (absent, (called, (to, given))). record { line = line; optional = absent; name = called; assigned = to; clauses = given })
    (after (key k.Select) (both (noise k.Optional) (both name (after (key k.Assign) (after (noise k.To)
    (both assigned (before (many file_clause) full_stop)))))))
