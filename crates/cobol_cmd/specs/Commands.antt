-- The words of the command line.
use Rattle.std.specs.Prelude.{ℕ, Bool, ◌&&◌, List, [], ◌∷◌, Option, Some, None, String, if◌then◌else◌, nat_lt, nat_le, length, codes}
use Rattle.std.specs.List.{list_all}
use Rattle.std.specs.Str.{bytes_eq}
use Rattle.std.specs.String.{string_bytes}
use Rattle.std.specs.declared.alloc.Global.{Global}
use Rattle.cobol_cmd.specs.declared.command.Action.{Action}
use Rattle.cobol_cmd.specs.declared.command.Action.TheVariants.{Show, Check}

-- a name of a text: 1 to 100 bytes of 33 to 126
abbrev pub is_file_name : List ℕ → Bool
is_file_name name = nat_lt 0 (length name) && nat_le (length name) 100 && list_all (λ byte. nat_le 33 byte && nat_le byte 126) name

-- a command with the name of the text that it works on
pub record Command : Type 0 where
  pub action : Action
  pub name : List ℕ

abbrev pub command_of : List ℕ → List ℕ → Option Command
command_of word name =
    if bytes_eq word (codes "show") then Some (record { action = Show; name = name })
    else (if bytes_eq word (codes "check") then Some (record { action = Check; name = name }) else None)

-- the command that the words are: `show` or `check`, and a name. Words of every other shape are none
abbrev pub command : List (String Global) → Option Command
command (word ∷ name ∷ []) = if is_file_name (string_bytes name) then command_of (string_bytes word) (string_bytes name) else None
command words = None
