-- What is known of names that are declared one after another.
use Rattle.std.proofs.Common.{◌≡◌, ◌∙◌, refl, sym, ap, ℕ, ◌||◌, ◌&&◌, not, Bool, true, false, List, [], ◌∷◌, ◌++◌, Option, Some, None}
use Rattle.std.proofs.lemmas.Bool.{false≢true}
use Rattle.std.specs.Prelude.{if◌then◌else◌}
use Rattle.std.specs.List.{list_any}
use Rattle.std.proofs.lemmas.List.Folds.{list_any-append}
use Rattle.std.specs.Str.{bytes_eq}
use Rattle.std.specs.Cmp.Lexicographic.{bytes_decides}
use Rattle.data_names.specs.Names.{in_small}
use Rattle.name_rules.specs.DoubleNames.{NameClass, control_entry, description, data_item, screen, Declared, clashes, are_one_file}
use Rattle.name_rules.specs.SeenNames.{is_named, is_named_besides, is_control, state_of, clashes_with, besides}

-- ---- clashes

pub any_same : {A : Type 0} (p q : A → Bool) (xs : List A) → ((x : A) → p x ≡ q x) → list_any p xs ≡ list_any q xs
any_same p q [] h = refl
any_same p q (x ∷ xs) h = ap (λ b. b || list_any p xs) (h x) ∙ ap (λ b. q x || b) (any_same p q xs h)

no_pair : (b : Bool) (one : NameClass) → (b && not (are_one_file one control_entry)) ≡ b
no_pair true control_entry = refl
no_pair true description = refl
no_pair true data_item = refl
no_pair true screen = refl
no_pair false one = refl

no_pair_item : (b : Bool) (one : NameClass) → (b && not (are_one_file one data_item)) ≡ b
no_pair_item true control_entry = refl
no_pair_item true description = refl
no_pair_item true data_item = refl
no_pair_item true screen = refl
no_pair_item false one = refl

no_pair_screen : (b : Bool) (one : NameClass) → (b && not (are_one_file one screen)) ≡ b
no_pair_screen true control_entry = refl
no_pair_screen true description = refl
no_pair_screen true data_item = refl
no_pair_screen true screen = refl
no_pair_screen false one = refl

pair : (b : Bool) (one : NameClass) → (b && not (are_one_file one description)) ≡ (if is_control one then false else b)
pair true control_entry = refl
pair true description = refl
pair true data_item = refl
pair true screen = refl
pair false control_entry = refl
pair false description = refl
pair false data_item = refl
pair false screen = refl

-- where it is declared by more than a control entry, it is declared
besides_named : (key : List ℕ) (names : List Declared) → (list_any (is_named key) names && list_any (is_named_besides key) names) ≡ list_any (is_named_besides key) names
besides_named key [] = refl
besides_named key (one ∷ names) = step (is_named key one) (is_control one.class) (list_any (is_named key) names) (list_any (is_named_besides key) names) (besides_named key names)
  where
    step : (a c all some : Bool) → (all && some) ≡ some → ((a || all) && ((if c then false else a) || some)) ≡ ((if c then false else a) || some)
    step true true all some h = refl
    step true false all some h = refl
    step false true all some h = h
    step false false all some h = h

clash_of : (key : List ℕ) (before : List Declared) (class : NameClass) → clashes_with (state_of key before) class ≡ list_any (λ earlier. is_named key earlier && not (are_one_file earlier.class class)) before
clash_of key before control_entry =
    seen (list_any (is_named key) before) (list_any (is_named_besides key) before) ∙ sym (any_same _ (is_named key) before (λ one. no_pair (is_named key one) one.class))
  where
    seen : (a b : Bool) → clashes_with (if a then Some b else None) control_entry ≡ a
    seen true b = refl
    seen false b = refl
clash_of key before description =
    seen (list_any (is_named key) before) (list_any (is_named_besides key) before) ∙ besides_named key before ∙ sym (any_same _ (is_named_besides key) before (λ one. pair (is_named key one) one.class))
  where
    seen : (a b : Bool) → clashes_with (if a then Some b else None) description ≡ (a && b)
    seen true b = refl
    seen false b = refl
clash_of key before data_item =
    seen (list_any (is_named key) before) (list_any (is_named_besides key) before) ∙ sym (any_same _ (is_named key) before (λ one. no_pair_item (is_named key one) one.class))
  where
    seen : (a b : Bool) → clashes_with (if a then Some b else None) data_item ≡ a
    seen true b = refl
    seen false b = refl
clash_of key before screen =
    seen (list_any (is_named key) before) (list_any (is_named_besides key) before) ∙ sym (any_same _ (is_named key) before (λ one. no_pair_screen (is_named key one) one.class))
  where
    seen : (a b : Bool) → clashes_with (if a then Some b else None) screen ≡ a
    seen true b = refl
    seen false b = refl

-- what is known of a name says whether it clashes
pub clash_is : (before : List Declared) (one : Declared) → clashes_with (state_of (in_small one.name) before) one.class ≡ list_any (λ earlier. clashes earlier one) before
clash_is before one = clash_of (in_small one.name) before one.class

-- ---- one more

abbrev or_false : Option Bool → Bool
or_false None = false
or_false (Some b) = b

besides_is : (o : Option Bool) (class : NameClass) → besides o class ≡ (if is_control class then or_false o else true)
besides_is None control_entry = refl
besides_is None description = refl
besides_is None data_item = refl
besides_is None screen = refl
besides_is (Some b) control_entry = refl
besides_is (Some b) description = refl
besides_is (Some b) data_item = refl
besides_is (Some b) screen = refl

one_more : (a b n c : Bool) → (a && b) ≡ b
    → (if a || (n || false) then Some (b || ((if c then false else n) || false)) else None)
    ≡ (if n then Some (if c then or_false (if a then Some b else None) else true) else (if a then Some b else None))
one_more true true true true h = refl
one_more true true true false h = refl
one_more true true false true h = refl
one_more true true false false h = refl
one_more true false true true h = refl
one_more true false true false h = refl
one_more true false false true h = refl
one_more true false false false h = refl
one_more false true n c h = absurd (false≢true h)
one_more false false true true h = refl
one_more false false true false h = refl
one_more false false false true h = refl
one_more false false false false h = refl

pub state_more : (key : List ℕ) (before : List Declared) (one : Declared)
    → state_of key (before ++ one ∷ []) ≡ (if bytes_eq (in_small one.name) key then Some (besides (state_of key before) one.class) else state_of key before)
state_more key before one =
    ap (λ a. if a then Some (list_any (is_named_besides key) (before ++ one ∷ [])) else None) (list_any-append (is_named key) before (one ∷ []))
    ∙ ap (λ b. if list_any (is_named key) before || list_any (is_named key) (one ∷ []) then Some b else None) (list_any-append (is_named_besides key) before (one ∷ []))
    ∙ one_more (list_any (is_named key) before) (list_any (is_named_besides key) before) (is_named key one) (is_control one.class) (besides_named key before)
    ∙ ap (λ b. if is_named key one then Some b else state_of key before) (sym (besides_is (state_of key before) one.class))

-- the state of a name that was put there
pub state_put : (key name : List ℕ) (b : Bool) (x y : Option Bool) (under : List ℕ → Option Bool) → bytes_eq name key ≡ b → x ≡ under name → (if b then x else y) ≡ (if b then under key else y)
state_put key name true x y under e h = h ∙ ap under ((bytes_decides name key).0 e)
state_put key name false x y under e h = refl
