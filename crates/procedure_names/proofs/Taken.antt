-- The names that are taken before a paragraph.
use Rattle.std.proofs.Common.{◌≡◌, ◌∙◌, refl, sym, ap, subst, ℕ, ◌+◌, ◌<◌, ◌≤◌, Bool, true, false, ◌||◌, List, [], ◌∷◌, ◌++◌, append_assoc, append-nil, map, length, take, get_or, Option, Some, None}
use Rattle.std.specs.Prelude.{option_to_list, filter}
use Rattle.std.specs.List.{list_any, flat_map}
use Rattle.std.specs.Str.{bytes_eq, str_to_ascii_lowercase}
use Rattle.std.proofs.lemmas.List.{take_more, take_all, map-append}
use Rattle.std.proofs.lemmas.Simd.{map-map}
use Rattle.std.proofs.lemmas.List.Folds.{list_any-append}
use Rattle.std.proofs.lemmas.Grind.{flat_map-append}
use Rattle.cob_base.specs.declared.line.Line.{Line}
use Rattle.cob_base.specs.declared.divisions.Front.{Front}
use Rattle.cob_base.specs.declared.paragraphs.Paragraph.{Paragraph}
use Rattle.data_names.specs.Spots.{Spot, spots}
use Rattle.data_names.specs.Names.{in_small}
use Rattle.data_names.specs.References.{same_name, is_called}
use Rattle.name_rules.specs.DoubleNames.{Declared, declared}
use Rattle.name_rules.specs.NameKeys.{has_key, AreKeys}
use Rattle.name_rules.specs.Faults.{faults_at, fault_where}
use Rattle.name_rules.specs.SeenNames.{seen_declared}
use Rattle.name_rules.specs.declared.declared.DeclaredName.{DeclaredName}
use Rattle.name_rules.specs.declared.fault.Fault.{Fault}
use Rattle.name_rules.specs.declared.unknown_names.NameSet.{NameSet}
use Rattle.procedure_names.specs.DoubleParagraphs.{is_taken}
use Rattle.procedure_names.specs.SeenNames.{taken_names}
use Rattle.procedure_names.proofs.Noted.{tested_after, tested_spots, tested_more}
use Rattle.procedure_names.proofs.TextKeys.{bytes_eq-flip}

or_none : (b : Bool) → (b || false) ≡ b
or_none true = refl
or_none false = refl

-- one more name
pub keys_push : (names : List (List ℕ)) (name : List ℕ) (old new : NameSet) → AreKeys names old → ((key : List ℕ) → has_key new key ≡ (has_key old key || bytes_eq key (in_small name))) → AreKeys (names ++ name ∷ []) new
keys_push names name old new h e = λ key.
    e key ∙ ap (λ b. b || bytes_eq key (in_small name)) (h key)
    ∙ sym (list_any-append (λ other. bytes_eq key (in_small other)) names (name ∷ [])
    ∙ ap (λ b. list_any (λ other. bytes_eq key (in_small other)) names || b) (or_none (bytes_eq key (in_small name))))

-- the names of one more
pub keys_more : {A : Type 0} (name : A → List ℕ) (xs : List A) (at : ℕ) (x : A) (old new : NameSet) → at < length xs → x ≡ get_or xs at x → AreKeys (map name (take at xs)) old
    → ((key : List ℕ) → has_key new key ≡ (has_key old key || bytes_eq key (in_small (name x)))) → AreKeys (map name (take (at + 1) xs)) new
keys_more name xs at x old new h e k n =
    let more : take (at + 1) xs ≡ take at xs ++ x ∷ [] = take_more xs at x h ∙ ap (λ y. take at xs ++ y ∷ []) (sym e) in
    subst (λ (names : List (List ℕ)). AreKeys names new) (sym (ap (map name) more ∙ map-append name (take at xs) (x ∷ []))) (keys_push (map name (take at xs)) (name x) old new k n)

same_flip : (name other : List ℕ) → same_name name other ≡ same_name other name
same_flip name other = bytes_eq-flip (str_to_ascii_lowercase name) (str_to_ascii_lowercase other)

any_declared : (name : List ℕ) (all : List Declared) → list_any (λ other. same_name name other) (map (λ (one : Declared). one.name) all) ≡ list_any (λ (earlier : Declared). same_name earlier.name name) all
any_declared name [] = refl
any_declared name (one ∷ all) =
    ap (λ b. b || list_any (λ other. same_name name other) (map (λ (other : Declared). other.name) all)) (same_flip name one.name) ∙ ap (λ b. same_name one.name name || b) (any_declared name all)

abbrev name_of : Paragraph → List (List ℕ)
name_of paragraph = option_to_list paragraph.name

any_named : (name : List ℕ) (given : Option (List ℕ)) → list_any (λ other. same_name name other) (option_to_list given) ≡ is_called name given
any_named name None = refl
any_named name (Some given) = or_none (same_name name given) ∙ same_flip name given

any_paragraph : (name : List ℕ) (before : List Paragraph) → list_any (λ other. same_name name other) (flat_map name_of before) ≡ list_any (λ (earlier : Paragraph). is_called name earlier.name) before
any_paragraph name [] = refl
any_paragraph name (paragraph ∷ before) =
    list_any-append (λ other. same_name name other) (name_of paragraph) (flat_map name_of before)
    ∙ ap (λ b. b || list_any (λ other. same_name name other) (flat_map name_of before)) (any_named name paragraph.name) ∙ ap (λ b. is_called name paragraph.name || b) (any_paragraph name before)

-- a name is taken where it is one of these
pub taken_is : (front : Front) (before : List Paragraph) (name : List ℕ) → list_any (λ other. same_name name other) (taken_names front before) ≡ is_taken front before (Some name)
taken_is front before name =
    list_any-append (λ other. same_name name other) (map (λ (one : Declared). one.name) (declared front)) (flat_map name_of before)
    ∙ ap (λ b. b || list_any (λ other. same_name name other) (flat_map name_of before)) (any_declared name (declared front))
    ∙ ap (λ b. list_any (λ (earlier : Declared). same_name earlier.name name) (declared front) || b) (any_paragraph name before)

-- the names with those of one more paragraph
pub taken_more : (front : Front) (before : List Paragraph) (paragraph : Paragraph) → taken_names front (before ++ paragraph ∷ []) ≡ taken_names front before ++ option_to_list paragraph.name
taken_more front before paragraph =
    ap (λ back. map (λ (one : Declared). one.name) (declared front) ++ back) (flat_map-append name_of before (paragraph ∷ []) ∙ ap (λ back. flat_map name_of before ++ back) (append-nil (name_of paragraph)))
    ∙ sym (append_assoc (map (λ (one : Declared). one.name) (declared front)) (flat_map name_of before) (name_of paragraph))

pub taken_one : (front : Front) (before : List Paragraph) (paragraph : Paragraph) (name : List ℕ) (b : Bool) (new : NameSet) → paragraph.name ≡ Some name
    → (b ≡ list_any (λ other. same_name name other) (taken_names front before)) × AreKeys (taken_names front before ++ name ∷ []) new
    → (b ≡ is_taken front before paragraph.name) × AreKeys (taken_names front (before ++ paragraph ∷ [])) new
taken_one front before paragraph name b new e h =
    let names : taken_names front (before ++ paragraph ∷ []) ≡ taken_names front before ++ name ∷ [] = taken_more front before paragraph ∙ ap (λ given. taken_names front before ++ option_to_list given) e in
    (h.0 ∙ taken_is front before name ∙ ap (is_taken front before) (sym e), subst (λ (all : List (List ℕ)). AreKeys all new) (sym names) h.1)

-- the names that are declared, as the code holds them
pub names_are : (front : Front) (made some : List DeclaredName) → some ≡ made → map seen_declared made ≡ declared front → map (λ (one : DeclaredName). one.name.now) some ≡ map (λ (one : Declared). one.name) (declared front)
names_are front made some e h =
    ap (map (λ (one : DeclaredName). one.name.now)) e ∙ sym (map-map (λ (one : Declared). one.name) seen_declared made) ∙ ap (map (λ (one : Declared). one.name)) h

-- ---- one paragraph after another

abbrev line_of : Paragraph → Line
line_of paragraph = paragraph.line

abbrev taken_in : Front → List Paragraph → Paragraph → Bool
taken_in front before paragraph = is_taken front before paragraph.name

pub taken_step : (front : Front) (xs ys : List Paragraph) → ys ≡ xs → (at : ℕ) (x : Paragraph) (b : Bool) (names next : NameSet) (old mid new : List Fault) → at < length ys → x ≡ get_or ys at x
    → AreKeys (taken_names front (take at xs)) names × (mid ≡ old ++ faults_at 3 (tested_after line_of (taken_in front) [] (take at xs)))
    → ((other : Front) (before : List Paragraph) → AreKeys (taken_names other before) names → (b ≡ is_taken other before x.name) × AreKeys (taken_names other (before ++ x ∷ [])) next)
    → new ≡ mid ++ fault_where b 3 x.line
    → AreKeys (taken_names front (take (at + 1) xs)) next × (new ≡ old ++ faults_at 3 (tested_after line_of (taken_in front) [] (take (at + 1) xs)))
taken_step front xs ys e at x b names next old mid new h i k t n =
    let within : at < length xs = subst (λ (all : List Paragraph). at < length all) e h in
    let there : x ≡ get_or xs at x = i ∙ ap (λ (all : List Paragraph). get_or all at x) e in
    let more : take (at + 1) xs ≡ take at xs ++ x ∷ [] = take_more xs at x within ∙ ap (λ y. take at xs ++ y ∷ []) (sym there) in
    let taken = t front (take at xs) k.0 in
    (subst (λ (before : List Paragraph). AreKeys (taken_names front before) next) (sym more) taken.1, tested_more 3 line_of (taken_in front) xs at x b old mid new within there taken.0 k.1 n)

pub taken_all : (front : Front) (xs ys : List Paragraph) → ys ≡ xs → (at : ℕ) (old new : List Fault) → length ys ≤ at
    → new ≡ old ++ faults_at 3 (tested_after line_of (taken_in front) [] (take at xs))
    → new ≡ old ++ faults_at 3 (map (λ (spot : Spot Paragraph). spot.item.line) (filter (λ (spot : Spot Paragraph). is_taken front spot.before spot.item.name) (spots xs)))
taken_all front xs ys e at old new h k =
    let past : length xs ≤ at = subst (λ (all : List Paragraph). length all ≤ at) e h in
    k ∙ ap (λ some. old ++ faults_at 3 (tested_after line_of (taken_in front) [] some)) (take_all at xs past) ∙ ap (λ lines. old ++ faults_at 3 lines) (sym (tested_spots line_of (taken_in front) [] xs))
