-- A journal with one entry more, and the entries of one caller.
use Rattle.std.proofs.Common.{◌≡◌, ◌≢◌, ◌==◌, ℕ, ◌<◌, cond, List, [], ◌∷◌, ◌++◌, All, refl, sym, ap, ◌∙◌, append_assoc, eq-eqb, ne_eqb, arith, length, length-append}
use Rattle.std.proofs.lemmas.List.{append-nil, append_cancel_left}
use Rattle.std.proofs.lemmas.List.Elements.{filter-append, All-head, All-tail}
use mathlib.Core.List.{IsPrefix}
use Rattle.shared_turn.specs.declared.happened.HappenedOf.{HappenedOf}
use Rattle.shared_turn.specs.Serial.{Object}
use Rattle.shared_turn.specs.Journal.{entries_of, Legal, state_after}

module _ {A R : Type 0} where
  pub entries_of-own : (n : ℕ) (xs : List (HappenedOf A R)) (e : HappenedOf A R) → e.who ≡ n → entries_of n (xs ++ e ∷ []) ≡ entries_of n xs ++ e ∷ []
  entries_of-own n xs e is = filter-append (λ (x : HappenedOf A R). x.who == n) xs (e ∷ []) ∙ ap (λ b. entries_of n xs ++ cond b (e ∷ []) []) (eq-eqb e.who n is)

  pub entries_of-other : (n : ℕ) (xs : List (HappenedOf A R)) (e : HappenedOf A R) → e.who ≢ n → entries_of n (xs ++ e ∷ []) ≡ entries_of n xs
  entries_of-other n xs e ne = filter-append (λ (x : HappenedOf A R). x.who == n) xs (e ∷ []) ∙ (ap (λ b. entries_of n xs ++ cond b (e ∷ []) []) (ne_eqb e.who n ne) ∙ append-nil (entries_of n xs))

  -- a number that nobody has yet has no entry
  pub entries_of-none : (n : ℕ) (log : List (HappenedOf A R)) → All (λ (e : HappenedOf A R). e.who < n) log → entries_of n log ≡ []
  entries_of-none n [] h = refl
  entries_of-none n (e ∷ es) h = let less = All-head (λ (x : HappenedOf A R). x.who < n) e es h in
      ap (λ b. cond b (e ∷ entries_of n es) (entries_of n es)) (ne_eqb e.who n (λ is. omega arith)) ∙ entries_of-none n es (All-tail (λ (x : HappenedOf A R). x.who < n) e es h)

  -- where a caller has seen all of its entries, what stands behind what it has seen has none of them
  pub entries_of-rest : (n : ℕ) (seen more log mine : List (HappenedOf A R)) → seen ++ more ≡ log → mine ≡ entries_of n log → mine ≡ entries_of n seen → entries_of n more ≡ []
  entries_of-rest n seen more log mine is all own =
      let two : entries_of n log ≡ entries_of n seen ++ entries_of n more = ap (entries_of n) (sym is) ∙ filter-append (λ (x : HappenedOf A R). x.who == n) seen more in
      sym (append_cancel_left (entries_of n seen) [] (entries_of n more) (append-nil (entries_of n seen) ∙ (sym own ∙ (all ∙ two))))

  pub prefix-none : (log : List (HappenedOf A R)) → IsPrefix [] log
  prefix-none log = (log, refl)

  pub prefix-whole : (log : List (HappenedOf A R)) → IsPrefix log log
  prefix-whole log = ([], append-nil log)

  pub prefix-more : (seen log more : List (HappenedOf A R)) → IsPrefix seen log → IsPrefix seen (log ++ more)
  prefix-more seen log more s = (s.0 ++ more, sym (append_assoc seen s.0 more) ∙ ap (λ l. l ++ more) s.1)

  pub prefix-same : (seen log : List (HappenedOf A R)) → IsPrefix seen log → length seen ≡ length log → seen ≡ log
  prefix-same seen log s same = nothing-more s.0 s.1
    where
      nothing-more : (more : List (HappenedOf A R)) → seen ++ more ≡ log → seen ≡ log
      nothing-more [] is = sym (append-nil seen) ∙ is
      nothing-more (x ∷ xs) is = let long = ap length is in absurd (omega (arith, length-append seen (x ∷ xs)))

module _ {O A R St : Type 0} (obj : Object O A R St) where
  pub state_after-snoc : (st : St) (xs : List (HappenedOf A R)) (e : HappenedOf A R) → state_after obj st (xs ++ e ∷ []) ≡ obj.after (state_after obj st xs) e.who e.ask
  state_after-snoc st [] e = refl
  state_after-snoc st (x ∷ xs) e = state_after-snoc (obj.after st x.who x.ask) xs e

  pub Legal-snoc : (st : St) (xs : List (HappenedOf A R)) (e : HappenedOf A R) → Legal obj st xs → e.reply ≡ obj.reply (state_after obj st xs) e.who e.ask → Legal obj st (xs ++ e ∷ [])
  Legal-snoc st [] e l r = (r, tt)
  Legal-snoc st (x ∷ xs) e l r = (l.0, Legal-snoc (obj.after st x.who x.ask) xs e l.1 r)
