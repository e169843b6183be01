-- References of statements that are found one after another.
use Rattle.std.proofs.Common.{◌≡◌, ◌∙◌, sym, ap, subst, rules, ℕ, ◌+◌, ◌<◌, List, [], ◌∷◌, ◌++◌, append_assoc, append-nil, map, length, take, get_or}
use Rattle.std.specs.List.{flat_map}
use Rattle.std.proofs.lemmas.List.{map-append, take_more}
use Rattle.std.proofs.lemmas.Grind.{flat_map-append}
use Rattle.cob_base.specs.declared.divisions.Front.{Front}
use Rattle.data_names.specs.Items.{DataItem}
use Rattle.name_rules.specs.declared.mentions.Mention.{Mention}
use Rattle.name_rules.specs.Mentions as m
use Rattle.name_rules.specs.SeenMentions.{AddsMentions, AreFoundAs, seen_mention}
use Rattle.procedure_names.specs.declared.mentions.ConditionMention.{ConditionMention}
use Rattle.procedure_names.specs.SeenNames.{seen_condition, AddsConditions, AreFoundConditions}

mapped_more : {A B : Type 0} (f : A → B) (xs : List A) (at : ℕ) (x : A) → at < length xs → x ≡ get_or xs at x → map f (take (at + 1) xs) ≡ map f (take at xs) ++ f x ∷ []
mapped_more f xs at x h e =
    ap (map f) (take_more xs at x h ∙ ap (λ y. take at xs ++ y ∷ []) (sym e)) ∙ map-append f (take at xs) (x ∷ [])

listed_more : {A B : Type 0} (f : A → List B) (xs : List A) (at : ℕ) (x : A) → at < length xs → x ≡ get_or xs at x → flat_map f (take (at + 1) xs) ≡ flat_map f (take at xs) ++ f x
listed_more f xs at x h e =
    ap (flat_map f) (take_more xs at x h ∙ ap (λ y. take at xs ++ y ∷ []) (sym e)) ∙ flat_map-append f (take at xs) (x ∷ []) ∙ ap (λ back. flat_map f (take at xs) ++ back) (append-nil (f x))

-- ---- items

pub adds_none : (items : List DataItem) (old : List Mention) → AddsMentions items [] old old
adds_none items old = record { seen = sym (append-nil (map seen_mention old)); found = λ h. h }

pub adds_both : (items : List DataItem) (a b : List m.Mention) (x y z : List Mention) → AddsMentions items a x y → AddsMentions items b y z → AddsMentions items (a ++ b) x z
adds_both items a b x y z g h = record {
  seen = h.seen ∙ ap (λ front. front ++ b) g.seen ∙ append_assoc (map seen_mention x) a b;
  found = λ some. h.found (g.found some);
}

-- one more of a statement
pub adds_one : {A : Type 0} (items : List DataItem) (f : A → m.Mention) (xs : List A) (at : ℕ) (x : A) (old mid new : List Mention) → at < length xs → x ≡ get_or xs at x
    → AddsMentions items (map f (take at xs)) old mid → AddsMentions items (f x ∷ []) mid new → AddsMentions items (map f (take (at + 1) xs)) old new
adds_one items f xs at x old mid new h e g k =
    subst (λ all. AddsMentions items all old new) (sym (mapped_more f xs at x h e)) (adds_both items _ _ old mid new g k)

-- those of one more statement
pub adds_step : {A : Type 0} (items : List DataItem) (f : A → List m.Mention) (xs : List A) (at : ℕ) (x : A) (old mid new : List Mention) → at < length xs → x ≡ get_or xs at x
    → AddsMentions items (flat_map f (take at xs)) old mid → AddsMentions items (f x) mid new → AddsMentions items (flat_map f (take (at + 1) xs)) old new
adds_step items f xs at x old mid new h e g k =
    subst (λ all. AddsMentions items all old new) (sym (listed_more f xs at x h e)) (adds_both items _ _ old mid new g k)

pub found_all : (items : List DataItem) (new : List Mention) (all : List m.Mention) → AddsMentions items all [] new → AreFoundAs items all new
found_all items new all h = record { seen = h.seen; found = h.found (search rules) }

-- ---- 88 entries

pub adds_no_condition : (front : Front) (items : List DataItem) (old : List ConditionMention) → AddsConditions front items [] old old
adds_no_condition front items old = record { seen = sym (append-nil (map seen_condition old)); found = λ h. h }

pub adds_both_conditions : (front : Front) (items : List DataItem) (a b : List m.Mention) (x y z : List ConditionMention) → AddsConditions front items a x y → AddsConditions front items b y z
    → AddsConditions front items (a ++ b) x z
adds_both_conditions front items a b x y z g h = record {
  seen = h.seen ∙ ap (λ more. more ++ b) g.seen ∙ append_assoc (map seen_condition x) a b;
  found = λ some. h.found (g.found some);
}

pub adds_one_condition : {A : Type 0} (front : Front) (items : List DataItem) (f : A → m.Mention) (xs : List A) (at : ℕ) (x : A) (old mid new : List ConditionMention) → at < length xs → x ≡ get_or xs at x
    → AddsConditions front items (map f (take at xs)) old mid → AddsConditions front items (f x ∷ []) mid new → AddsConditions front items (map f (take (at + 1) xs)) old new
adds_one_condition front items f xs at x old mid new h e g k =
    subst (λ all. AddsConditions front items all old new) (sym (mapped_more f xs at x h e)) (adds_both_conditions front items _ _ old mid new g k)

pub adds_conditions_step : {A : Type 0} (front : Front) (items : List DataItem) (f : A → List m.Mention) (xs : List A) (at : ℕ) (x : A) (old mid new : List ConditionMention) → at < length xs → x ≡ get_or xs at x
    → AddsConditions front items (flat_map f (take at xs)) old mid → AddsConditions front items (f x) mid new → AddsConditions front items (flat_map f (take (at + 1) xs)) old new
adds_conditions_step front items f xs at x old mid new h e g k =
    subst (λ all. AddsConditions front items all old new) (sym (listed_more f xs at x h e)) (adds_both_conditions front items _ _ old mid new g k)

pub found_conditions : (front : Front) (items : List DataItem) (new : List ConditionMention) (all : List m.Mention) → AddsConditions front items all [] new → AreFoundConditions front items all new
found_conditions front items new all h = record { seen = h.seen; found = h.found (search rules) }

-- ---- references of both kinds

pub copies_more : (front : List m.Mention) (xs : List ConditionMention) (at : ℕ) (x : ConditionMention) (y : Mention) (old new : List Mention) → at < length xs → x ≡ get_or xs at x → seen_mention y ≡ seen_condition x
    → map seen_mention old ≡ front ++ map seen_condition (take at xs) → new ≡ old ++ y ∷ [] → map seen_mention new ≡ front ++ map seen_condition (take (at + 1) xs)
copies_more front xs at x y old new h g e o n =
    ap (map seen_mention) n ∙ map-append seen_mention old (y ∷ []) ∙ ap (λ some. some ++ seen_mention y ∷ []) o ∙ append_assoc front (map seen_condition (take at xs)) (seen_mention y ∷ [])
    ∙ ap (λ one. front ++ (map seen_condition (take at xs) ++ one ∷ [])) e ∙ ap (λ back. front ++ back) (sym (mapped_more seen_condition xs at x h g))
