-- The numbers of 88 entries under their names and pairs, and what they cover.
use Rattle.std.proofs.Common.{◌≡◌, ◌∙◌, refl, sym, ap, arith, ℕ, ◌+◌, ◌<◌, ◌≤◌, Bool, true, false, ◌&&◌, ◌||◌, List, [], ◌∷◌, ◌++◌, length, take, get_or}
use Rattle.std.specs.Prelude.{if◌then◌else◌}
use Rattle.std.proofs.lemmas.Bool.{false≢true}
use Rattle.std.proofs.lemmas.List.{length-take-le}
use Rattle.cob_base.specs.declared.operands.Reference.{Reference}
use Rattle.std.specs.Str.{bytes_eq}
use Rattle.std.specs.Cmp.Lexicographic.{bytes_decides}
use Rattle.data_names.specs.declared.asked.AskedPairs.{AskedPairs}
use Rattle.data_names.specs.declared.names.Names.{Names}
use Rattle.data_names.specs.Asked.{is_asked}
use Rattle.data_names.specs.Names.{in_small, pair_key, numbers_from, numbers_under, ends_with, with_number}
use Rattle.data_names.proofs.Choices.{each_called, called_pair, three_true}
use Rattle.data_names.proofs.NumbersOf.{numbers-more}
use Rattle.data_names.proofs.PairsOf.{not_yet, group_asked}
use Rattle.procedure_names.specs.Conditions.{NamedCondition, qualifying_names}
use Rattle.procedure_names.specs.ConditionNames.{has_name, has_pair, is_kept, ArePaired, IsPut, IsPutWhereNamed, IsCover}

-- the item's name is put behind the names of its groups
pub own_put : (a b g : Bool) (old cur new : List ℕ) (n : ℕ) → ends_with n old ≡ false → cur ≡ (if a && g then old ++ n ∷ [] else old) → new ≡ (if b && g then with_number cur n else cur)
    → new ≡ (if (b || a) && g then old ++ n ∷ [] else old)
own_put a b g old cur new n h c e = group_asked a b g old cur new n h c e ∙ ap (λ (t : Bool). if t && g then old ++ n ∷ [] else old) (turned a b)
  where
    turned : (a b : Bool) → (a || (b || false)) ≡ (b || a)
    turned true true = refl
    turned true false = refl
    turned false true = refl
    turned false false = refl

-- nothing is put where the name is not asked for, else all that is asked for
pub put_or_not : (asked : AskedPairs) (one : NamedCondition) (number : ℕ) (old : Names) → is_asked asked (in_small one.entry.name) ≡ false → IsPut one asked number old old
put_or_not asked one number old h key =
    sym (ap (λ (named : Bool). if named && (has_pair key one && is_asked asked key) then numbers_under old key ++ number ∷ [] else numbers_under old key) h)

pub put_named : (asked : AskedPairs) (one : NamedCondition) (number : ℕ) (old new : Names) → is_asked asked (in_small one.entry.name) ≡ true → IsPutWhereNamed one asked number old new → IsPut one asked number old new
put_named asked one number old new h put key =
    put key ∙ sym (ap (λ (named : Bool). if named && (has_pair key one && is_asked asked key) then numbers_under old key ++ number ∷ [] else numbers_under old key) h)

-- the number of one more is not there yet
pub none_yet : (named : List NamedCondition) (at : ℕ) (asked : AskedPairs) (numbers : Names) → at < length named → ArePaired (take at named) asked numbers → (key : List ℕ) → ends_with at (numbers_under numbers key) ≡ false
none_yet named at asked numbers l h key =
    let few : length (take at named) ≤ at = omega (arith, length-take-le at named (omega arith)) in
    ap (ends_with at) (h key) ∙ not_yet at (is_kept asked key) (take at named) few

-- one more 88 entry
pub paired_more : (named : List NamedCondition) (asked : AskedPairs) (at : ℕ) (one : NamedCondition) (old new : Names) → at < length named → one ≡ get_or named at one → ArePaired (take at named) asked old → IsPut one asked at old new
    → ArePaired (take (at + 1) named) asked new
paired_more named asked at one old new l e h put key = numbers-more (is_kept asked key) named at one _ _ l e (h key) (put key)

-- ---- covers

first_holds : (a b : Bool) → (a && b) ≡ true → a ≡ true
first_holds true b h = refl
first_holds false b h = absurd (false≢true h)

second_holds : (a b : Bool) → (a && b) ≡ true → b ≡ true
second_holds true b h = h
second_holds false b h = absurd (false≢true h)

-- the 88 entries that match are among those under the name
pub named_cover : (all : List NamedCondition) (reference : Reference) (numbers : List ℕ) → numbers ≡ numbers_from 0 (has_name (in_small reference.name)) all → IsCover all reference numbers
named_cover all reference numbers e = record {
  test = has_name (in_small reference.name);
  numbers_are = e;
  covers = λ one h. first_holds (has_name (in_small reference.name) one) _ h;
}

-- where a name is asked for, it is under each spelling of it
asked_spelled : (asked : AskedPairs) (name other : List ℕ) → is_asked asked (in_small name) ≡ true → bytes_eq (in_small other) (in_small name) ≡ true → is_asked asked (in_small other) ≡ true
asked_spelled asked name other a h = ap (is_asked asked) ((bytes_decides (in_small other) (in_small name)).0 h) ∙ a

-- the 88 entries that match are among those under the pair of the name and one of the qualifiers, where both are asked for
pub paired_cover : (all : List NamedCondition) (asked : AskedPairs) (reference : Reference) (i : ℕ) (d : List ℕ) (numbers : List ℕ) → i < length reference.qualifiers → is_asked asked (in_small reference.name) ≡ true
    → is_asked asked (pair_key reference.name (get_or reference.qualifiers i d)) ≡ true → numbers ≡ numbers_from 0 (is_kept asked (pair_key reference.name (get_or reference.qualifiers i d))) all → IsCover all reference numbers
paired_cover all asked reference i d numbers l n p e = record {
  test = is_kept asked (pair_key reference.name (get_or reference.qualifiers i d));
  numbers_are = e;
  covers = λ one h.
      three_true (is_asked asked (in_small one.entry.name)) (has_pair (pair_key reference.name (get_or reference.qualifiers i d)) one) (is_asked asked (pair_key reference.name (get_or reference.qualifiers i d)))
      (asked_spelled asked reference.name one.entry.name n (first_holds (has_name (in_small reference.name) one) _ h))
      (called_pair reference.name one.entry.name (get_or reference.qualifiers i d) (qualifying_names one) (first_holds (has_name (in_small reference.name) one) _ h)
      (each_called reference.qualifiers (qualifying_names one) i d l (second_holds (has_name (in_small reference.name) one) _ h)))
      p;
}
