-- References that are found one after another.
use Rattle.std.proofs.Common.{◌≡◌, ◌∙◌, refl, sym, ap, subst, rules, ℕ, ◌+◌, ◌<◌, ◌≤◌, List, [], ◌∷◌, ◌++◌, append_assoc, append-nil, map, length, take, get_or, Option}
use Rattle.std.specs.Prelude.{option_to_list, option_map}
use Rattle.std.specs.List.{flat_map}
use Rattle.std.proofs.lemmas.List.{map-append, take_more, take_all}
use Rattle.std.proofs.lemmas.Simd.{map-map}
use Rattle.std.proofs.lemmas.Grind.{flat_map-append}
use Rattle.cob_base.specs.declared.line.Line.{Line}
use Rattle.cob_base.specs.declared.file_entries.FileClause.{FileClause}
use Rattle.cob_base.specs.declared.file_entries.FileClause.TheVariants as f
use Rattle.cob_base.specs.declared.screen_entries.ScreenClause.{ScreenClause}
use Rattle.cob_base.specs.declared.operands.Reference.{Reference}
use Rattle.cob_base.specs.declared.operands.Operand.{Operand}
use Rattle.data_names.specs.Items.{DataItem}
use Rattle.name_rules.specs.declared.mentions.Mention.{Mention}
use Rattle.entry_clauses.specs.Clauses.{Alternate, alternate_named, alternates, record_key, file_status, sender, receiver, both_ways}
use Rattle.name_rules.specs.Mentions.{mention, reference_in}
use Rattle.name_rules.specs.Mentions as m
use Rattle.name_rules.specs.SeenMentions.{AddsMentions, AreFoundAs, seen_mention}

pub adds_none : (items : List DataItem) (old : List Mention) → AddsMentions items [] old old
adds_none items old = record { seen = sym (append-nil (map seen_mention old)); found = λ h. h }

pub adds_both : (items : List DataItem) (a b : List m.Mention) (x y z : List Mention) → AddsMentions items a x y → AddsMentions items b y z → AddsMentions items (a ++ b) x z
adds_both items a b x y z g h = record {
  seen = h.seen ∙ ap (λ front. front ++ b) g.seen ∙ append_assoc (map seen_mention x) a b;
  found = λ some. h.found (g.found some);
}

-- those of one more
pub adds_step : {A : Type 0} (items : List DataItem) (f : A → List m.Mention) (xs : List A) (at : ℕ) (x : A) (old mid new : List Mention) → at < length xs → x ≡ get_or xs at x
    → AddsMentions items (flat_map f (take at xs)) old mid → AddsMentions items (f x) mid new → AddsMentions items (flat_map f (take (at + 1) xs)) old new
adds_step items f xs at x old mid new h e g k =
    let more : take (at + 1) xs ≡ take at xs ++ x ∷ [] = take_more xs at x h ∙ ap (λ y. take at xs ++ y ∷ []) (sym e) in
    let lists : flat_map f (take (at + 1) xs) ≡ flat_map f (take at xs) ++ f x =
    ap (flat_map f) more ∙ flat_map-append f (take at xs) (x ∷ []) ∙ ap (λ back. flat_map f (take at xs) ++ back) (append-nil (f x)) in
    subst (λ all. AddsMentions items all old new) (sym lists) (adds_both items _ _ old mid new g k)

-- those of all
pub adds_all : {A : Type 0} (items : List DataItem) (f : A → List m.Mention) (xs : List A) (at : ℕ) (old new : List Mention) → length xs ≤ at → AddsMentions items (flat_map f (take at xs)) old new
    → AddsMentions items (flat_map f xs) old new
adds_all items f xs at old new h g = subst (λ all. AddsMentions items (flat_map f all) old new) (take_all at xs h) g

-- ---- files

keys_listed : (line : Line) (prime : List Reference) (others : List Alternate) (status : List Reference)
    → (map (mention line) prime ++ map (λ alternate. mention line alternate.key) others) ++ map (mention line) status ≡ map (mention line) ((prime ++ map (λ alternate. alternate.key) others) ++ status)
keys_listed line prime others status =
    sym (map-append (mention line) (prime ++ map (λ (alternate : Alternate). alternate.key) others) status
    ∙ ap (λ front. front ++ map (mention line) status)
    (map-append (mention line) prime (map (λ (alternate : Alternate). alternate.key) others) ∙ ap (λ back. map (mention line) prime ++ back) (map-map (mention line) (λ (alternate : Alternate). alternate.key) others)))

pub added_file : (items : List DataItem) (line : Line) (clauses seen : List FileClause) (prime status : Option Reference) (x y z w : List Mention) → seen ≡ clauses → prime ≡ record_key seen → status ≡ file_status seen
    → AddsMentions items (map (mention line) (option_to_list prime)) x y → AddsMentions items (map (λ alternate. mention line alternate.key) (alternates seen)) y z
    → AddsMentions items (map (mention line) (option_to_list status)) z w
    → AddsMentions items (map (mention line) ((option_to_list (record_key clauses) ++ map (λ alternate. alternate.key) (alternates clauses)) ++ option_to_list (file_status clauses))) x w
added_file items line clauses seen prime status x y z w e p s one two three =
    let all : List FileClause → List m.Mention =
    λ (some : List FileClause). map (mention line) ((option_to_list (record_key some) ++ map (λ (alternate : Alternate). alternate.key) (alternates some)) ++ option_to_list (file_status some)) in
    let both = adds_both items _ _ x z w (adds_both items _ _ x y z one two) three in
    let listed = keys_listed line (option_to_list prime) (alternates seen) (option_to_list status) in
    let named : map (mention line) ((option_to_list prime ++ map (λ (alternate : Alternate). alternate.key) (alternates seen)) ++ option_to_list status) ≡ all seen =
    ap (λ (key : Option Reference). map (mention line) ((option_to_list key ++ map (λ (alternate : Alternate). alternate.key) (alternates seen)) ++ option_to_list status)) p
    ∙ ap (λ (item : Option Reference). map (mention line) ((option_to_list (record_key seen) ++ map (λ (alternate : Alternate). alternate.key) (alternates seen)) ++ option_to_list item)) s in
    subst (λ lists. AddsMentions items lists x w) (listed ∙ named ∙ ap all e) both

-- the alternates, clause by clause
abbrev pub of_alternate : Line → FileClause → List m.Mention
of_alternate line clause = map (mention line) (option_to_list (option_map (λ (alternate : Alternate). alternate.key) (alternate_named clause)))

pub alternates_listed : (line : Line) (clauses : List FileClause) → flat_map (of_alternate line) clauses ≡ map (λ alternate. mention line alternate.key) (alternates clauses)
alternates_listed line [] = refl
alternates_listed line (f.AlternateKey key duplicates ∷ rest) = ap (λ back. mention line key ∷ back) (alternates_listed line rest)
alternates_listed line (f.Indexed ∷ rest) = alternates_listed line rest
alternates_listed line (f.Outside ∷ rest) = alternates_listed line rest
alternates_listed line (f.Access access ∷ rest) = alternates_listed line rest
alternates_listed line (f.RecordKey key ∷ rest) = alternates_listed line rest
alternates_listed line (f.FileStatus item ∷ rest) = alternates_listed line rest
alternates_listed line (f.Lock mode on ∷ rest) = alternates_listed line rest
alternates_listed line (f.Sharing sharing ∷ rest) = alternates_listed line rest

-- ---- screens

ties_listed : (line : Line) (a b c : List Reference) → (map (mention line) a ++ map (mention line) b) ++ map (mention line) c ≡ map (mention line) ((a ++ b) ++ c)
ties_listed line a b c = sym (map-append (mention line) (a ++ b) c ∙ ap (λ front. front ++ map (mention line) c) (map-append (mention line) a b))

pub added_screen : (items : List DataItem) (line : Line) (clauses seen : List ScreenClause) (from : Option Operand) (to both : Option Reference) (x y z w : List Mention)
    → seen ≡ clauses → from ≡ sender seen → to ≡ receiver seen → both ≡ both_ways seen
    → AddsMentions items (map (mention line) (reference_in from)) x y → AddsMentions items (map (mention line) (option_to_list to)) y z
    → AddsMentions items (map (mention line) (option_to_list both)) z w
    → AddsMentions items (map (mention line) ((reference_in (sender clauses) ++ option_to_list (receiver clauses)) ++ option_to_list (both_ways clauses))) x w
added_screen items line clauses seen from to both x y z w e a b c one two three =
    let all : List ScreenClause → List m.Mention =
    λ (some : List ScreenClause). map (mention line) ((reference_in (sender some) ++ option_to_list (receiver some)) ++ option_to_list (both_ways some)) in
    let listed = ties_listed line (reference_in from) (option_to_list to) (option_to_list both) in
    let named : map (mention line) ((reference_in from ++ option_to_list to) ++ option_to_list both) ≡ all seen =
    ap (λ (o : Option Operand). map (mention line) ((reference_in o ++ option_to_list to) ++ option_to_list both)) a
    ∙ ap (λ (o : Option Reference). map (mention line) ((reference_in (sender seen) ++ option_to_list o) ++ option_to_list both)) b
    ∙ ap (λ (o : Option Reference). map (mention line) ((reference_in (sender seen) ++ option_to_list (receiver seen)) ++ option_to_list o)) c in
    subst (λ lists. AddsMentions items lists x w) (listed ∙ named ∙ ap all e) (adds_both items _ _ x z w (adds_both items _ _ x y z one two) three)

-- ---- all

pub found_all : (items : List DataItem) (new : List Mention) (all : List m.Mention) → AddsMentions items all [] new → AreFoundAs items all new
found_all items new all h = record { seen = h.seen; found = h.found (search rules) }

-- the references of a front, part by part
pub all_added : (items : List DataItem) (a b d a1 b1 d1 : List m.Mention) (x y z w : List Mention) → x ≡ [] → a ≡ a1 → b ≡ b1 → d ≡ d1
    → AddsMentions items a x y → AddsMentions items b y z → AddsMentions items d z w → AreFoundAs items ((a1 ++ b1) ++ d1) w
all_added items a b d a1 b1 d1 x y z w n p q r one two three =
    let both = subst (λ old. AddsMentions items ((a ++ b) ++ d) old w) n (adds_both items _ _ x z w (adds_both items _ _ x y z one two) three) in
    let lists : (a ++ b) ++ d ≡ (a1 ++ b1) ++ d1 = ap (λ front. (front ++ b) ++ d) p ∙ ap (λ back. (a1 ++ back) ++ d) q ∙ ap (λ back. (a1 ++ b1) ++ back) r in
    found_all items w _ (subst (λ lists. AddsMentions items lists [] w) lists both)
