-- The reserved words, by their first letters, and the marks, with what they are to the grammar. The tables are the definition; the code
-- reads the same ones.
use Rattle.std.specs.Prelude.{ℕ, ◌==◌, if◌then◌else◌, List, [], ◌∷◌, map, Option, Some, None}
use Rattle.std.specs.Str.{str_eq_ignore_ascii_case}
use Rattle.std.specs.Char.{to_ascii_uppercase}
use Rattle.cob_base.specs.declared.keywords.Mark.{Mark}
use Rattle.cob_base.specs.declared.keywords.Reserved.{Reserved}
use Rattle.cob_base.specs.declared.reserved.TheConstants.{MARKS, A_WORDS, B_WORDS, C_WORDS, D_WORDS, E_WORDS, F_WORDS, G_WORDS, H_WORDS, I_WORDS, J_WORDS, K_WORDS, L_WORDS, M_WORDS, N_WORDS, O_WORDS, P_WORDS, R_WORDS, S_WORDS, T_WORDS, U_WORDS, V_WORDS, W_WORDS, Z_WORDS}

-- what the first row says whose spelling is the word, in either case of letters
abbrev pub look_up : List (List ℕ × Reserved) → List ℕ → Option Reserved
look_up [] word = None
look_up (row ∷ rows) word = if str_eq_ignore_ascii_case row.0 word then Some row.1 else look_up rows word

-- the rows of the words that begin with a capital letter
unfoldable pub words_under : ℕ → List (List ℕ × Reserved)
words_under c =
    if c == 65 then map (λ row. (row.0.now, row.1)) A_WORDS else
    if c == 66 then map (λ row. (row.0.now, row.1)) B_WORDS else
    if c == 67 then map (λ row. (row.0.now, row.1)) C_WORDS else
    if c == 68 then map (λ row. (row.0.now, row.1)) D_WORDS else
    if c == 69 then map (λ row. (row.0.now, row.1)) E_WORDS else
    if c == 70 then map (λ row. (row.0.now, row.1)) F_WORDS else
    if c == 71 then map (λ row. (row.0.now, row.1)) G_WORDS else
    if c == 72 then map (λ row. (row.0.now, row.1)) H_WORDS else
    if c == 73 then map (λ row. (row.0.now, row.1)) I_WORDS else
    if c == 74 then map (λ row. (row.0.now, row.1)) J_WORDS else
    if c == 75 then map (λ row. (row.0.now, row.1)) K_WORDS else
    if c == 76 then map (λ row. (row.0.now, row.1)) L_WORDS else
    if c == 77 then map (λ row. (row.0.now, row.1)) M_WORDS else
    if c == 78 then map (λ row. (row.0.now, row.1)) N_WORDS else
    if c == 79 then map (λ row. (row.0.now, row.1)) O_WORDS else
    if c == 80 then map (λ row. (row.0.now, row.1)) P_WORDS else
    if c == 82 then map (λ row. (row.0.now, row.1)) R_WORDS else
    if c == 83 then map (λ row. (row.0.now, row.1)) S_WORDS else
    if c == 84 then map (λ row. (row.0.now, row.1)) T_WORDS else
    if c == 85 then map (λ row. (row.0.now, row.1)) U_WORDS else
    if c == 86 then map (λ row. (row.0.now, row.1)) V_WORDS else
    if c == 87 then map (λ row. (row.0.now, row.1)) W_WORDS else
    if c == 90 then map (λ row. (row.0.now, row.1)) Z_WORDS else
    []

-- what a word is to the grammar, in either case of letters
abbrev pub reserved_of : List ℕ → Option Reserved
reserved_of [] = None
reserved_of (letter ∷ more) = look_up (words_under (to_ascii_uppercase letter)) (letter ∷ more)

abbrev pub look_up_mark : List (List ℕ × Mark) → List ℕ → Option Mark
look_up_mark [] mark = None
look_up_mark (row ∷ rows) mark = if str_eq_ignore_ascii_case row.0 mark then Some row.1 else look_up_mark rows mark

-- what a mark is to the grammar
abbrev pub mark_of : List ℕ → Option Mark
mark_of = look_up_mark (map (λ row. (row.0.now, row.1)) MARKS)
