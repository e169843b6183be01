-- The look of a row, group after group.
use Rattle.std.proofs.Common.{◌≡◌, ℕ, ◌+◌, ◌<◌, refl, sym, ◌∙◌, ap, Bool, true, false, List, [], ◌∷◌, ◌++◌, length, take, get_or}
use Rattle.std.specs.Prelude.{filter, fold, if◌then◌else◌}
use Rattle.std.proofs.lemmas.List.{take_more}
use Rattle.std.proofs.lemmas.List.Elements.{filter-append}
use Rattle.screen_rows.specs.declared.row.ScreenRow.{ScreenRow}
use Rattle.screen_rows.specs.declared.clauses.Look.{Look}
use Rattle.screen_layout.specs.Placing.{goes_on, opened, within_look, look_of}
use Rattle.screen_rows.specs.Clauses.{plain_look}

abbrev pub nested : Look → List ScreenRow → Look
nested look rows = fold (λ outer group. within_look outer group.own.look) look rows

pub nested-append : (look : Look) (a b : List ScreenRow) → nested look (a ++ b) ≡ nested (nested look a) b
nested-append look [] b = refl
nested-append look (row ∷ a) b = nested-append (within_look look row.own.look) a b

one_group : (b : Bool) (look : Look) (group row : ScreenRow) → goes_on group row ≡ b → nested look (filter (λ g. goes_on g row) (group ∷ [])) ≡ (if b then within_look look group.own.look else look)
one_group true look group row e = rw e refl
one_group false look group row e = rw e refl

-- the look with one more group
pub look_more : (rows : List ScreenRow) (i : ℕ) (d row : ScreenRow) (look next : Look) → i < length rows → look ≡ nested plain_look (filter (λ g. goes_on g row) (take i rows))
    → next ≡ (if goes_on (get_or rows i d) row then within_look look (get_or rows i d).own.look else look) → next ≡ nested plain_look (filter (λ g. goes_on g row) (take (i + 1) rows))
look_more rows i d row look next h e f =
    f ∙ sym (one_group (goes_on (get_or rows i d) row) look (get_or rows i d) row refl) ∙ ap (λ l. nested l (filter (λ g. goes_on g row) (get_or rows i d ∷ []))) e
    ∙ sym (nested-append plain_look (filter (λ g. goes_on g row) (take i rows)) (filter (λ g. goes_on g row) (get_or rows i d ∷ [])))
    ∙ ap (nested plain_look) (sym (filter-append (λ g. goes_on g row) (take i rows) (get_or rows i d ∷ [])) ∙ ap (filter (λ g. goes_on g row)) (sym (take_more rows i d h)))

-- the look with the row's own
pub look_whole : (before rows : List ScreenRow) (row : ScreenRow) (look result : Look) → look ≡ nested plain_look (filter (λ g. goes_on g row) rows) → rows ≡ opened before → result ≡ within_look look row.own.look → result ≡ look_of before row
look_whole before rows row look result e o f =
    f ∙ ap (λ l. within_look l row.own.look) (e ∙ ap (λ xs. nested plain_look (filter (λ g. goes_on g row) xs)) o)
    ∙ sym (nested-append plain_look (filter (λ g. goes_on g row) (opened before)) (row ∷ []))
