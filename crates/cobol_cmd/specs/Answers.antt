-- What a call answers, and why.
use Rattle.std.specs.Prelude.{◌≡◌, ◌⊎◌, ℕ, ◌<◌, ◌≤◌, List, [], ◌∷◌, Option, Some, None, IsSomeAnd, IfSome, length, IsTrue, nat_eq}
use Rattle.std.specs.List.{list_any}
use Rattle.std.specs.Io.KnownBytes.{Appends, Keeps}
use Rattle.outside_world.specs.declared.shelf.Held.{Held}
use Rattle.outside_world.specs.Causes.{Rose}
use Rattle.outside_world.specs.Bytes.{AppendsPrefix, Took}
use Rattle.outside_world.specs.Stored.{lookup}
use Rattle.cobol_cmd.specs.declared.answer.Answer.{Answer}
use Rattle.cobol_cmd.specs.declared.answer.Answer.TheVariants.{Done, BadWords, Refused, Missing, ReadFault, WriteFault, TooLong, NoMemory}
use Rattle.cobol_cmd.specs.declared.fault.ProgramFault.{ProgramFault}
use Rattle.cobol_cmd.specs.declared.command.Action.{Action}
use Rattle.cobol_cmd.specs.Commands.{Command}
use Rattle.cobol_cmd.specs.Programs.{Prints, Fails}
use Rattle.cobol_cmd.specs.Lines.{words_line, refused_line, missing_line, read_fault_line, too_long_line}

-- the longest program that is read
abbrev pub source_limit : ℕ
source_limit = 1048576

-- the status that the program ends with
abbrev pub status_of : Answer → ℕ
status_of Done = 0
status_of BadWords = 2
status_of (Refused fault) = 3
status_of Missing = 5
status_of ReadFault = 6
status_of WriteFault = 7
status_of TooLong = 8
status_of NoMemory = 9

-- the line that is put for an answer about a name
abbrev pub line_for : Answer → List ℕ → List ℕ
line_for (Refused fault) name = refused_line name fault
line_for Missing name = missing_line name
line_for ReadFault name = read_fault_line name
line_for TooLong name = too_long_line name source_limit
line_for _ name = []

-- what is held under the name is a program within its limit, and the command refuses it for this fault
abbrev pub IsRefused : Action → ProgramFault → Option (List ℕ) → Type 0
IsRefused action fault None = ⊥
IsRefused action fault (Some text) = (length text ≤ source_limit) × Fails action fault text

-- what is held under the name is a program longer than its limit
abbrev pub IsTooLong : Option (List ℕ) → Type 0
IsTooLong found = IsSomeAnd found (λ text. source_limit < length text)

-- what a call knows: what the shelf holds, and each count and the bytes that the sink took, before and after
pub record Call : Type 0 where
  pub held : Option (List Held)
  pub reads : ℕ
  pub reads_now : ℕ
  pub puts : ℕ
  pub puts_now : ℕ
  pub taken : Option (List ℕ)
  pub taken_now : Option (List ℕ)

-- a program within its limit was read, which the command refuses for this fault, and it is what the shelf holds, where the shelf tells it
pub record IsReadAndRefused (held : Option (List Held)) (command : Command) (fault : ProgramFault) : Type 0 where
  pub text : List ℕ
  pub short : length text ≤ source_limit
  pub fails : Fails command.action fault text
  pub is_held : IfSome held (λ files. lookup command.name files ≡ Some text)

-- why a call refuses a name
abbrev pub Refuses : Answer → Command → Option (List Held) → Type 0 → Type 0
Refuses (Refused fault) command held rose = IsReadAndRefused held command fault
Refuses Missing command held rose = IfSome held (λ files. lookup command.name files ≡ None)
Refuses TooLong command held rose = IfSome held (λ files. IsTooLong (lookup command.name files))
Refuses ReadFault command held rose = rose
Refuses NoMemory command held rose = Unit {0}
Refuses _ command held rose = ⊥

-- the sink took the line, or, only where its count rose, a prefix of it
abbrev pub Line : Call → List ℕ → Type 0
Line call line = Took call.taken call.taken_now call.puts call.puts_now line

-- this program was read, for which the command prints this, and it is what the shelf holds, where the shelf tells it
pub record IsRead (held : Option (List Held)) (command : Command) (text output : List ℕ) : Type 0 where
  pub short : length text ≤ source_limit
  pub prints : Prints command.action text output
  pub is_held : IfSome held (λ files. lookup command.name files ≡ Some text)

-- what each answer says of a call with a command
abbrev pub Says : Answer → Command → Call → Type 0
Says Done command call = (text output : List ℕ) × IsRead call.held command text output × Appends call.taken call.taken_now output
Says WriteFault command call = (text output : List ℕ) × IsRead call.held command text output × Rose call.puts call.puts_now × AppendsPrefix call.taken call.taken_now output
Says NoMemory command call = Keeps call.taken call.taken_now
Says answer command call = Refuses answer command call.held (Rose call.reads call.reads_now) × Line call (line_for answer command.name)

-- what each answer says of any call
abbrev pub Tells : Answer → Option Command → Call → Type 0
Tells answer None call = (answer ≡ BadWords) × Line call words_line
Tells answer (Some command) call = Says answer command call

-- the status is this one exactly where the fact holds, but that a failed read and want of memory come before it
pub record Exactly (status code : ℕ) (P : Type 0) : Type 0 where
  pub only : status ≡ code → P
  pub always : P → (status ≡ code) ⊎ (status ≡ 6) ⊎ (status ≡ 9)

-- one of the statuses
abbrev pub IsStatus : ℕ → Type 0
IsStatus status = IsTrue (list_any (nat_eq status) (0 ∷ 2 ∷ 3 ∷ 5 ∷ 6 ∷ 7 ∷ 8 ∷ 9 ∷ []))
