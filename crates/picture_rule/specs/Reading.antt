-- What stands at the front of a picture's text.
use Rattle.std.specs.Prelude.{ℕ, ◌+◌, ◌-◌, ◌*◌, ◌^◌, min, List, [], ◌∷◌, codes, Option, Some, None, nat_lt, ◌==◌, ◌&&◌, ◌||◌, if◌then◌else◌}
use Rattle.std.specs.Char.{to_ascii_uppercase, is_ascii_digit, digit_value}
use Rattle.picture_rule.specs.Picture.{is_among}
use denote.Ref.{Bor}
use Rattle.picture_rule.specs.declared.run.Symbol.{Symbol}
use Rattle.picture_rule.specs.declared.run.Symbol.TheVariants.{Mark, Credit, Debit}

-- what a function gives, with the bytes that follow
abbrev pub seen : {A : Type 0} → Option (A × Bor (List ℕ)) → Option (A × List ℕ)
seen None = None
seen (Some x) = Some (x.0, x.1.now)

-- the marks of a symbol
abbrev pub marks_of : Symbol → List ℕ
marks_of (Mark mark) = mark ∷ []
marks_of Credit = codes "CR"
marks_of Debit = codes "DB"

-- the bytes of a sign symbol
abbrev pub sign_length : Symbol → ℕ
sign_length (Mark mark) = if (mark == 43) || (mark == 45) then 1 else 0
sign_length Credit = 2
sign_length Debit = 2

-- the largest count there is, where a count is larger
abbrev pub counted : ℕ → ℕ
counted n = min n (2 ^ 64 - 1)

-- CR or DB, where its first letter stands before the text
unfoldable pub pair_at : ℕ → List ℕ → Option (Symbol × List ℕ)
pair_at c [] = None
pair_at c (d ∷ text) =
    if (c == 67) && (to_ascii_uppercase d == 82) then Some (Credit, text)
    else (if (c == 68) && (to_ascii_uppercase d == 66) then Some (Debit, text) else None)

-- the symbol at the front, and what follows it
unfoldable pub symbol_at : List ℕ → Option (Symbol × List ℕ)
symbol_at [] = None
symbol_at (c ∷ text) =
    if is_among (codes "XAS9V+-$Z*,.") (to_ascii_uppercase c) then Some (Mark (to_ascii_uppercase c), text) else pair_at (to_ascii_uppercase c) text

-- the number that the digits at the front write after those of n, and what follows them
abbrev pub digits_from : ℕ → List ℕ → ℕ × List ℕ
digits_from n [] = (n, [])
digits_from n (c ∷ text) = if is_ascii_digit c then digits_from (n * 10 + digit_value c) text else (n, c ∷ text)

-- the number, where it is not 0 and a parenthesis closes it
unfoldable pub closed_at : ℕ → List ℕ → Option (ℕ × List ℕ)
closed_at n [] = None
closed_at n (c ∷ text) = if (c == 41) && nat_lt 0 n then Some (n, text) else None

-- how often the symbol before counts, and what follows
unfoldable pub times_at : List ℕ → Option (ℕ × List ℕ)
times_at [] = Some (1, [])
times_at (c ∷ text) = if c == 40 then closed_at (digits_from 0 text).0 (digits_from 0 text).1 else Some (1, c ∷ text)

-- with the count as far as it is counted
abbrev pub as_counted : Option (ℕ × List ℕ) → Option (ℕ × List ℕ)
as_counted None = None
as_counted (Some x) = Some (counted x.0, x.1)

-- a symbol, how often it counts, and what follows
pub record Front : Type 0 where
  pub symbol : Symbol
  pub times : ℕ
  pub rest : List ℕ

-- a symbol with how often it counts, where that can be read
abbrev pub front_from : Symbol → Option (ℕ × List ℕ) → Option Front
front_from symbol None = None
front_from symbol (Some x) = Some (record { symbol = symbol; times = x.0; rest = x.1 })

-- a symbol that was read, with how often it counts
abbrev pub front_by : Option (Symbol × List ℕ) → Option Front
front_by None = None
front_by (Some x) = front_from x.0 (times_at x.1)

-- the symbol at the front of a text, how often it counts, and what follows
unfoldable pub front : List ℕ → Option Front
front text = front_by (symbol_at text)
