-- Bytes and lists of bytes, as the rules of the text formats speak of them.
use Rattle.std.specs.Prelude.{ℕ, List, [], ◌∷◌, Bool, false, ◌==◌, ◌&&◌, nat_le, map, if◌then◌else◌, bytes_eq}
use Rattle.std.specs.Char.{to_ascii_lowercase}

abbrev pub line_feed : ℕ
line_feed = 10

abbrev pub carriage_return : ℕ
carriage_return = 13

abbrev pub space : ℕ
space = 32

-- a byte that a line of program text may have
abbrev pub is_printable : ℕ → Bool
is_printable byte = nat_le 32 byte && nat_le byte 126

-- whether a list begins with this byte
abbrev pub begins_with : ℕ → List ℕ → Bool
begins_with byte [] = false
begins_with byte (first ∷ bytes) = first == byte

-- whether a list begins with these two bytes
abbrev pub begins_with_both : ℕ → ℕ → List ℕ → Bool
begins_with_both a b [] = false
begins_with_both a b (first ∷ bytes) = (first == a) && begins_with b bytes

-- what is left behind the spaces at the front
abbrev pub behind_spaces : List ℕ → List ℕ
behind_spaces [] = []
behind_spaces (byte ∷ bytes) = if byte == space then behind_spaces bytes else byte ∷ bytes

-- two words are the same but for the case of their letters
abbrev pub same_word : List ℕ → List ℕ → Bool
same_word a b = bytes_eq (map to_ascii_lowercase a) (map to_ascii_lowercase b)
