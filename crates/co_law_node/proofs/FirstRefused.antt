-- Logs that are read from the newest record: each record is allowed behind those before it. A log's grammar is told from
-- the oldest record on, by the place of the first one that is refused. The two are one.
use Rattle.std.proofs.Common.{◌≡◌, ℕ, suc, Bool, true, false, ◌+◌, if◌then◌else◌, List, [], ◌∷◌, ◌++◌, length, reverse, Option, None, Some, refl, sym, ap, ◌∙◌, subst, arith}
use Rattle.std.proofs.lemmas.List.{length-reverse, reverse-append}
use Rattle.co_record.specs.declared.record.Record.{Record}

abbrev pub AllAllowed : {V : Type 0} → (ℕ → V → Record → Bool) → (List Record → V) → List Record → Type 0
AllAllowed allows read [] = Unit {0}
AllAllowed allows read (r ∷ rs) = (allows (length rs) (read rs) r ≡ true) × AllAllowed allows read rs

-- older records are allowed by themselves
pub older_allowed : {V : Type 0} (allows : ℕ → V → Record → Bool) (read : List Record → V) (front rs : List Record) → AllAllowed allows read (front ++ rs) → AllAllowed allows read rs
older_allowed allows read [] rs a = a
older_allowed allows read (r ∷ front) rs a = older_allowed allows read front rs a.1

turned : (r : Record) (rs : List Record) → reverse (r ∷ rs) ≡ reverse rs ++ r ∷ []
turned r rs = reverse-append (r ∷ []) rs

-- What may stand where, what a record tells, and the first place that is refused, from the oldest record on.
module _ {V : Type 0} (allows : ℕ → V → Record → Bool) (tells : V → Record → V) (first : ℕ → V → List Record → Option ℕ) (read : List Record → V)
    (at_end : (place : ℕ) (v : V) → first place v [] ≡ None)
    (at_next : (place : ℕ) (v : V) (r : Record) (rs : List Record) → first place v (r ∷ rs) ≡ (if allows place v r then first (suc place) (tells v r) rs else Some place))
    (read_next : (r : Record) (rs : List Record) → read (r ∷ rs) ≡ tells (read rs) r) where
  abbrev told_all : V → List Record → V
  told_all v [] = v
  told_all v (r ∷ rs) = told_all (tells v r) rs

  told_more : (v : V) (rs : List Record) (r : Record) → told_all v (rs ++ r ∷ []) ≡ tells (told_all v rs) r
  told_more v [] r = refl
  told_more v (q ∷ rs) r = told_more (tells v q) rs r

  told_turned : (rs : List Record) → told_all (read []) (reverse rs) ≡ read rs
  told_turned [] = refl
  told_turned (r ∷ rs) =
      ap (told_all (read [])) (turned r rs) ∙ told_more (read []) (reverse rs) r ∙ ap (λ v. tells v r) (told_turned rs) ∙ sym (read_next r rs)

  -- where a record is not refused
  passed : (place : ℕ) (v : V) (r : Record) (rs : List Record) → first place v (r ∷ rs) ≡ None → (allows place v r ≡ true) × (first (suc place) (tells v r) rs ≡ None)
  passed place v r rs h = by (allows place v r) refl
    where
      by : (b : Bool) → allows place v r ≡ b → (allows place v r ≡ true) × (first (suc place) (tells v r) rs ≡ None)
      by true e = (e, sym (at_next place v r rs ∙ ap (λ b. if b then first (suc place) (tells v r) rs else Some place) e) ∙ h)
      by false e = absurd (let z : Some place ≡ None = sym (at_next place v r rs ∙ ap (λ b. if b then first (suc place) (tells v r) rs else Some place) e) ∙ h in cc)

  passes : (place : ℕ) (v : V) (r : Record) (rs : List Record) → allows place v r ≡ true → first (suc place) (tells v r) rs ≡ None → first place v (r ∷ rs) ≡ None
  passes place v r rs a h = at_next place v r rs ∙ ap (λ b. if b then first (suc place) (tells v r) rs else Some place) a ∙ h

  -- one more record at the end of a list that is read from its oldest one
  last_of : (place : ℕ) (v : V) (xs : List Record) (r : Record) → first place v (xs ++ r ∷ []) ≡ None →
      (first place v xs ≡ None) × (allows (length xs + place) (told_all v xs) r ≡ true)
  last_of place v [] r h = (at_end place v, subst (λ n. allows n v r ≡ true) (omega arith) (passed place v r [] h).0)
  last_of place v (x ∷ xs) r h =
      let p = passed place v x (xs ++ r ∷ []) h in
      let q = last_of (suc place) (tells v x) xs r p.1 in
      (passes place v x xs p.0 q.0, subst (λ n. allows n (told_all (tells v x) xs) r ≡ true) (omega arith) q.1)

  at_last : (place : ℕ) (v : V) (xs : List Record) (r : Record) → first place v xs ≡ None →
      allows (length xs + place) (told_all v xs) r ≡ true → first place v (xs ++ r ∷ []) ≡ None
  at_last place v [] r h a = passes place v r [] (subst (λ n. allows n v r ≡ true) (omega arith) a) (at_end (suc place) (tells v r))
  at_last place v (x ∷ xs) r h a =
      let p = passed place v x xs h in
      passes place v x (xs ++ r ∷ []) p.0 (at_last (suc place) (tells v x) xs r p.1 (subst (λ n. allows n (told_all (tells v x) xs) r ≡ true) (omega arith) a))

  pub all_from_none : (rs : List Record) → first 0 (read []) (reverse rs) ≡ None → AllAllowed allows read rs
  all_from_none [] h = tt
  all_from_none (r ∷ rs) h =
      let p = last_of 0 (read []) (reverse rs) r (sym (ap (first 0 (read [])) (turned r rs)) ∙ h) in (
        subst (λ v. allows (length rs) v r ≡ true) (told_turned rs)
            (subst (λ n. allows n (told_all (read []) (reverse rs)) r ≡ true) (let e = length-reverse rs in omega (arith, e)) p.1),
        all_from_none rs p.0,
      )

  pub none_from_all : (rs : List Record) → AllAllowed allows read rs → first 0 (read []) (reverse rs) ≡ None
  none_from_all [] a = at_end 0 (read [])
  none_from_all (r ∷ rs) a =
      ap (first 0 (read [])) (turned r rs)
      ∙ at_last 0 (read []) (reverse rs) r (none_from_all rs a.1)
      (subst (λ v. allows (length (reverse rs) + 0) v r ≡ true) (sym (told_turned rs))
      (subst (λ n. allows n (read rs) r ≡ true) (let e = length-reverse rs in omega (arith, e)) a.0))
