-- The grammar of the front: the identification, environment and data divisions, up to and with the header of the procedure division.
use Rattle.std.specs.Prelude.{ℕ, true, List}
use Rattle.cob_base.specs.declared.keywords.Keyword.{Keyword}
use Rattle.cob_base.specs.declared.keywords.Keyword.TheVariants as k
use Rattle.cob_base.specs.declared.line.Line.{Line}
use Rattle.cob_base.specs.declared.file_entries.FileEntry.{FileEntry}
use Rattle.cob_base.specs.declared.data_entries.DataEntry.{DataEntry}
use Rattle.cob_base.specs.declared.screen_entries.ScreenEntry.{ScreenEntry}
use Rattle.cob_base.specs.declared.divisions.Front.{Front}
use Rattle.cob_base.specs.declared.divisions.Environment.{Environment}
use Rattle.cob_base.specs.declared.divisions.Configuration.{Configuration}
use Rattle.cob_base.specs.declared.divisions.Computer.{Computer}
use Rattle.cob_base.specs.declared.divisions.SpecialNames.{SpecialNames}
use Rattle.cob_base.specs.declared.divisions.CrtStatus.{CrtStatus}
use Rattle.cob_base.specs.declared.divisions.InputOutput.{InputOutput}
use Rattle.cob_base.specs.declared.divisions.DataDivision.{DataDivision}
use Rattle.cob_base.specs.declared.divisions.FileDescription.{FileDescription}
use Rattle.cob_base.specs.Form as words
use Rattle.cob_base.specs.Form.{Form}
use Rattle.cob_base.specs.EntryForm.{EntryForm, before, many}
use Rattle.cob_base.specs.EntryForm.EntryForm.{entry, both, after, made, optional, some}
use Rattle.cob_base.specs.Phrases.{key, full_stop, noise, name}
use Rattle.cob_base.specs.FileEntries as files
use Rattle.cob_base.specs.DataEntries as data_entries
use Rattle.cob_base.specs.ScreenEntries as screens

-- ---- entries that only name

-- one reserved word and a period
unfoldable pub header : Keyword → Form true (Unit {0})
header first = Form.after (key first) full_stop

-- two reserved words and a period
unfoldable pub header_of_two : Keyword → Keyword → Form true (Unit {0})
header_of_two first second = Form.after (key first) (Form.after (key second) full_stop)

-- a name and a period
unfoldable pub name_entry : Form true (List ℕ)
name_entry = words.before name full_stop

-- ---- the environment division

-- SOURCE-COMPUTER . [name .], and OBJECT-COMPUTER alike
unfoldable pub computer : Keyword → EntryForm true Computer
computer paragraph = made (λ given. record { name = given }) (after (entry (λ line. header paragraph)) (optional (entry (λ line. name_entry))))

-- CRT STATUS [IS] name .
unfoldable pub crt_status : Line → Form true CrtStatus
crt_status line = Form.made (λ item. record { line = line; name = item }) (Form.after (key k.Crt) (Form.after (key k.Status) (Form.after (noise k.Is) name_entry)))

-- SPECIAL-NAMES . [CRT STATUS [IS] name .]
unfoldable pub special_names : EntryForm true SpecialNames
special_names = made (λ given. record { crt_status = given }) (after (entry (λ line. header k.SpecialNames)) (optional (entry crt_status)))

-- CONFIGURATION SECTION . [SOURCE-COMPUTER . [name .]] [OBJECT-COMPUTER . [name .]] [SPECIAL-NAMES . [CRT STATUS [IS] name .]]
unfoldable pub configuration : EntryForm true Configuration
configuration = made (λ (source, (object, special)). record { source_computer = source; object_computer = object; special_names = special })
    (after (entry (λ line. header_of_two k.Configuration k.Section))
    (both (optional (computer k.SourceComputer)) (both (optional (computer k.ObjectComputer)) (optional special_names))))

-- FILE-CONTROL . select*
unfoldable pub file_control : EntryForm true (List FileEntry)
file_control = after (entry (λ line. header k.FileControl)) (many (entry files.select))

-- INPUT-OUTPUT SECTION . [FILE-CONTROL . select*]
unfoldable pub input_output : EntryForm true InputOutput
input_output = made (λ given. record { file_control = given })
    (after (entry (λ line. header_of_two k.InputOutput k.Section)) (optional file_control))

-- ENVIRONMENT DIVISION . [config] [inout]
unfoldable pub environment : EntryForm true Environment
environment = made (λ (config, inout). record { configuration = config; input_output = inout })
    (after (entry (λ line. header_of_two k.Environment k.Division)) (both (optional configuration) (optional input_output)))

-- ---- the data division

unfoldable pub item : EntryForm true DataEntry
item = entry data_entries.data_entry

unfoldable pub screen : EntryForm true ScreenEntry
screen = entry screens.screen_entry

-- FD name . The line is that of FD.
unfoldable pub fd_entry : Line → Form true (Line × List ℕ)
fd_entry line = Form.made (λ file. (line, file)) (Form.after (key k.Fd) name_entry)

-- FD name . item+
unfoldable pub file_description : EntryForm true FileDescription
file_description = made (λ ((line, file), described). record { line = line; name = file; records = described }) (both (entry fd_entry) (some item))

-- FILE SECTION . (FD name . item+)*
unfoldable pub file_section : EntryForm true (List FileDescription)
file_section = after (entry (λ line. header_of_two k.File k.Section)) (many file_description)

-- WORKING-STORAGE SECTION . item*
unfoldable pub working_storage : EntryForm true (List DataEntry)
working_storage = after (entry (λ line. header_of_two k.WorkingStorage k.Section)) (many item)

-- SCREEN SECTION . screen*
unfoldable pub screen_section : EntryForm true (List ScreenEntry)
screen_section = after (entry (λ line. header_of_two k.Screen k.Section)) (many screen)

-- DATA DIVISION . [FILE SECTION . (FD name . item+)*] [WORKING-STORAGE SECTION . item*] [SCREEN SECTION . screen*]
unfoldable pub data_division : EntryForm true DataDivision
data_division = made (λ (described, (working, shown)). record { files = described; working_storage = working; screens = shown })
    (after (entry (λ line. header_of_two k.Data k.Division)) (both (optional file_section) (both (optional working_storage) (optional screen_section))))

-- ---- the front

-- (IDENTIFICATION|ID) DIVISION . PROGRAM-ID . name .
unfoldable pub identification : EntryForm true (List ℕ)
identification = after (entry (λ line. header_of_two k.Identification k.Division)) (after (entry (λ line. header k.ProgramId)) (entry (λ line. name_entry)))

-- (IDENTIFICATION|ID) DIVISION . PROGRAM-ID . name . [env] [datadiv] PROCEDURE DIVISION .
unfoldable pub front : EntryForm true Front
front = made (λ (called, (env, datadiv)). record { program = called; environment = env; «data» = datadiv })
    (both identification (both (optional environment) (before (optional data_division) (entry (λ line. header_of_two k.Procedure k.Division)))))
