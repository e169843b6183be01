-- What a walk counts, as one more row comes.
use Rattle.std.proofs.Common.{◌≡◌, ℕ, ◌+◌, ◌*◌, ◌<◌, refl, ◌∙◌, ap, arith, min, List, [], ◌∷◌, ◌++◌, length, take, get_or}
use Rattle.std.proofs.Common.{append_assoc}
use Rattle.data_layout.specs.declared.walk.Walk.{Walk}
use Rattle.data_layout.specs.Walk.{IsAfter}
use Rattle.std.proofs.lemmas.List.{take_more}
use Rattle.data_layout.specs.declared.row.Row.{Row}
use Rattle.data_layout.specs.Storage.{opened, groups, times, own_size, number_of_times, storage}
use Rattle.data_layout.proofs.Counts.{mul_min, add_min}
use Rattle.data_layout.proofs.Groups.{opened-push, times-append, storage-push}

one_time : (n : ℕ) → n * 1 ≡ n
one_time n = omega arith

swapped : (a b : ℕ) → a * b ≡ b * a
swapped a b = omega arith

pub product_more : (m : ℕ) (rows : List Row) (i : ℕ) (d : Row) (p o : ℕ) → p ≡ min (times (take i rows)) m → o ≡ number_of_times (get_or rows i d).occurs → i < length rows
    → min (p * o) m ≡ min (times (take (i + 1) rows)) m
product_more m rows i d p o e f h =
    rw (take_more rows i d h, times-append (take i rows) (get_or rows i d ∷ []), one_time (number_of_times (get_or rows i d).occurs), e, f) (mul_min m (times (take i rows)) (number_of_times (get_or rows i d).occurs))

-- how often the row occurs
pub times_of-row : (before : List Row) (row : Row) → times (opened (before ++ row ∷ [])) ≡ times (groups before row) * number_of_times row.occurs
times_of-row before row = rw (opened-push before row, times-append (groups before row) (row ∷ []), one_time (number_of_times row.occurs)) refl

often : (m t a p o : ℕ) → p ≡ min t m → o ≡ min (a * p) m → o ≡ min (t * a) m
often m t a p o e f = rw (f, swapped a p, e) (mul_min m t a)

bytes : (m x o w b : ℕ) → o ≡ min x m → b ≡ min (w * o) m → b ≡ min (w * x) m
bytes m x o w b e f = rw (f, swapped w o, e, swapped w x) (mul_min m x w)

-- the bytes with the row
pub entered : (m : ℕ) (before : List Row) (row : Row) (t a p o w b s : ℕ) → t ≡ min (storage before) m → p ≡ min (times (groups before row)) m → a ≡ number_of_times row.occurs
    → o ≡ min (a * p) m → w ≡ own_size row → b ≡ min (w * o) m → s ≡ min (t + b) m → s ≡ min (storage (before ++ row ∷ [])) m
entered m before row t a p o w b s et ep ea eo ew eb es =
    let x : ℕ = times (groups before row) * number_of_times row.occurs in
    let e1 : o ≡ min (times (groups before row) * a) m = often m (times (groups before row)) a p o ep eo in
    let e2 : o ≡ min x m = e1 ∙ ap (λ n. min (times (groups before row) * n) m) ea in
    let e3 : b ≡ min (w * x) m = bytes m x o w b e2 eb in
    let e4 : b ≡ min (own_size row * x) m = e3 ∙ ap (λ n. min (n * x) m) ew in
    rw (storage-push before row, times_of-row before row, es, et, e4) (add_min m (storage before) (own_size row * x))

-- one more row walked over
pub walked : (before rows : List Row) (i : ℕ) (d : Row) (walk : Walk) → i < length rows → IsAfter ((before ++ take i rows) ++ get_or rows i d ∷ []) walk → IsAfter (before ++ take (i + 1) rows) walk
walked before rows i d walk h k = rw (take_more rows i d h, ← append_assoc before (take i rows) (get_or rows i d ∷ [])) k
