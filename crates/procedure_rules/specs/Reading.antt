-- What READ and START may say, by the access of their file, and which lock phrases a statement may have.
use Rattle.std.specs.Prelude.{ℕ, Bool, true, false, not, ◌&&◌, ◌||◌, List, Option, Some, None, is_some, unwrap_or}
use Rattle.std.specs.List.{list_any}
use Rattle.cob_base.specs.declared.divisions.Front.{Front}
use Rattle.cob_base.specs.declared.operands.Reference.{Reference}
use Rattle.cob_base.specs.declared.file_entries.Access.{Access}
use Rattle.cob_base.specs.declared.file_entries.Access.TheVariants.{Sequential, Random, Dynamic}
use Rattle.cob_base.specs.declared.file_entries.FileEntry.{FileEntry}
use Rattle.cob_base.specs.declared.file_entries.FileClause.{FileClause}
use Rattle.cob_base.specs.declared.file_entries.FileClause.TheVariants as f
use Rattle.cob_base.specs.declared.statements.ReadLocking.{ReadLocking}
use Rattle.cob_base.specs.declared.statements.ReadLocking.TheVariants as locking
use Rattle.cob_base.specs.declared.statements.LockPhrase.{LockPhrase}
use Rattle.cob_base.specs.declared.statements.LockPhrase.TheVariants.{Lock, NoLock}
use Rattle.cob_base.specs.declared.statements.Statement.{Statement, Held-Statement-Add-2-4, None', Some'}
use Rattle.cob_base.specs.declared.statements.Statement.TheVariants as s
use Rattle.data_names.specs.Clauses.{first_of}
use Rattle.data_names.specs.Items.{DataItem}
use Rattle.entry_clauses.specs.Clauses.{is_of_file_kind}
use Rattle.entry_clauses.specs.declared.file_clauses.FileClauseKind.TheVariants as k
use Rattle.procedure_names.specs.Names.{file_named, record_named, file_of_record}

-- ---- what a file control entry says

abbrev pub access_named : FileClause → Option Access
access_named (f.Access access) = Some access
access_named _ = None

-- without ACCESS it is sequential
abbrev pub access_of : FileEntry → Access
access_of file = unwrap_or (first_of access_named file.clauses) Sequential

-- whether LOCK MODE is written
abbrev pub has_lock_mode : FileEntry → Bool
has_lock_mode file = list_any (is_of_file_kind k.Lock) file.clauses

-- ---- READ

abbrev pub is_written : Held-Statement-Add-2-4 → Bool
is_written None' = false
is_written (Some' m row) = true

abbrev pub is_advancing : Option ReadLocking → Bool
is_advancing (Some locking.Advancing) = true
is_advancing _ = false

abbrev pub is_ignoring : Option ReadLocking → Bool
is_ignoring (Some locking.Ignoring) = true
is_ignoring _ = false

-- What a READ says: its file, whether NEXT or PREVIOUS, ADVANCING, IGNORING, AT END or NOT AT END, and INVALID KEY or NOT INVALID KEY are
-- written, its lock phrase and its KEY phrase.
pub record Reading : Type 0 where
  pub file : List ℕ
  pub directed : Bool
  pub advancing : Bool
  pub ignoring : Bool
  pub lock : Option LockPhrase
  pub key : Option Reference
  pub ending : Bool
  pub invalid : Bool

abbrev pub reading_of : Statement → Option Reading
reading_of (s.Read' file direction into locking lock key end not_end invalid not_invalid) =
    Some (record { file = file; directed = is_some direction; advancing = is_advancing locking; ignoring = is_ignoring locking; lock = lock; key = key; ending = is_written end || is_written not_end; invalid = is_written invalid || is_written not_invalid })
reading_of _ = None

-- A READ is random in random access, and in dynamic access where none of NEXT, PREVIOUS, ADVANCING, AT END and NOT AT END is written.
abbrev pub is_random : Access → Reading → Bool
is_random Random reading = true
is_random Dynamic reading = not (reading.directed || reading.advancing || reading.ending)
is_random Sequential reading = false

abbrev pub is_random_access : Access → Bool
is_random_access Random = true
is_random_access Dynamic = false
is_random_access Sequential = false

-- NEXT or PREVIOUS in random access, and KEY, INVALID KEY or NOT INVALID KEY on a READ that is not random
abbrev pub is_misread : Access → Reading → Bool
is_misread access reading =
    (is_random_access access && reading.directed) || (not (is_random access reading) && (is_some reading.key || reading.invalid))

-- ---- access

abbrev pub is_misread_in : Reading → Option FileEntry → Bool
is_misread_in reading None = false
is_misread_in reading (Some file) = is_misread (access_of file) reading

abbrev pub is_misread_of : Front → Option Reading → Bool
is_misread_of front None = false
is_misread_of front (Some reading) = is_misread_in reading (file_named front reading.file)

abbrev pub has_random_access : Option FileEntry → Bool
has_random_access None = false
has_random_access (Some file) = is_random_access (access_of file)

-- START in random access
abbrev pub starts_at_random : Front → Statement → Bool
starts_at_random front (s.Start' file place invalid not_invalid) = has_random_access (file_named front file)
starts_at_random front _ = false

-- READ and START that the file's access does not have
abbrev pub is_out_of_order : Front → Statement → Bool
is_out_of_order front statement = is_misread_of front (reading_of statement) || starts_at_random front statement

-- ---- reason 12: lock phrases

-- the lock phrase of a statement, and its file
abbrev pub lock_of : Statement → Option LockPhrase
lock_of (s.Read' file direction into locking lock key end not_end invalid not_invalid) = lock
lock_of (s.Write' name from retry lock invalid not_invalid) = lock
lock_of (s.Rewrite' name from retry lock invalid not_invalid) = lock
lock_of _ = None

abbrev pub locked_file : Front → List DataItem → Statement → Option FileEntry
locked_file front items (s.Read' file direction into locking lock key end not_end invalid not_invalid) = file_named front file
locked_file front items (s.Write' name from retry lock invalid not_invalid) = file_of_record front (record_named items name)
locked_file front items (s.Rewrite' name from retry lock invalid not_invalid) = file_of_record front (record_named items name)
locked_file front items _ = None

abbrev pub lacks_lock_mode : Option FileEntry → Bool
lacks_lock_mode None = false
lacks_lock_mode (Some file) = not (has_lock_mode file)

abbrev pub is_with_lock : Option LockPhrase → Bool
is_with_lock None = false
is_with_lock (Some Lock) = true
is_with_lock (Some NoLock) = false

-- IGNORING LOCK stands with WITH LOCK
abbrev pub ignores_and_locks : Option Reading → Bool
ignores_and_locks None = false
ignores_and_locks (Some reading) = reading.ignoring && is_with_lock reading.lock

abbrev pub advances_in : Reading → Option FileEntry → Bool
advances_in reading None = false
advances_in reading (Some file) = reading.advancing && is_random (access_of file) reading

abbrev pub advances_at_random : Front → Option Reading → Bool
advances_at_random front None = false
advances_at_random front (Some reading) = advances_in reading (file_named front reading.file)

-- WITH LOCK or WITH NO LOCK on a file without LOCK MODE
abbrev pub locks_without_mode : Front → List DataItem → Statement → Bool
locks_without_mode front items statement = is_some (lock_of statement) && lacks_lock_mode (locked_file front items statement)

-- IGNORING with WITH LOCK, and ADVANCING on a READ that is random
abbrev pub locks_badly : Front → Option Reading → Bool
locks_badly front reading = ignores_and_locks reading || advances_at_random front reading

abbrev pub has_bad_lock : Front → List DataItem → Statement → Bool
has_bad_lock front items statement = locks_without_mode front items statement || locks_badly front (reading_of statement)
