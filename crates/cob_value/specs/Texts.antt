-- Bytes of any sort beside each other.
use Rattle.std.specs.Prelude.{ℕ, max, List, ◌++◌, length, take, replicate}
use Rattle.std.specs.Ordering.{nat_cmp}
use Rattle.std.specs.declared.cmp.Ordering.{Ordering}
use Rattle.std.specs.Cmp.Lexicographic.{slice_cmp}

-- So many bytes of a text from the left: it is cut, or filled with spaces.
abbrev pub fitted : ℕ → List ℕ → List ℕ
fitted size bytes = take size (bytes ++ replicate size 32)

-- Two texts compare byte by byte, the shorter one filled with spaces.
abbrev pub compared_texts : List ℕ → List ℕ → Ordering
compared_texts x y = let size = max (length x) (length y) in slice_cmp nat_cmp (fitted size x) (fitted size y)
