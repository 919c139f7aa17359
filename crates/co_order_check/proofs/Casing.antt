-- What the steps of a refutation conclude.
use Rattle.std.proofs.Common.{◌≡◌, ◌≢◌, ◌⊎◌, inl, inr, ℕ, zero, suc, ◌<◌, ◌≤◌, true, List, [], ◌∷◌, ◌++◌, map, length, slice_get, Option, None, Some, refl, sym, ap, ◌∙◌, subst, arith, lt_of_not-le, eq-or-lt_of_le, Vec, Global}
use Rattle.co_check.specs.declared.client.Committed.{Committed}
use Rattle.co_order_check.specs.Facts.{Holds, HoldAll, Follows, IsShut, AreShut, IsKnownBehind}
use Rattle.co_order_check.specs.Paths.{IsPath, end, IsBehind, IsNone}
use Rattle.co_order_check.specs.Ranks.{Leaves, Ranks}
use Rattle.co_order_check.specs.declared.fact.Fact.{Fact}
use Rattle.co_order_check.specs.declared.reading.Reading.{Reading}
use Rattle.co_order_check.specs.declared.record_id.RecordId.{RecordId}
use Rattle.co_order_check.proofs.Walking.{along, along_strictly, behind_all, beyond}

pub one_holds : {ds : List Committed} (w : Ranks ds) (known : List Fact) (k : ℕ) (f : Fact) → HoldAll w known → slice_get known k ≡ Some f → Holds w f
one_holds w [] k f h e = absurd (let z : None ≡ Some f = e in cc)
one_holds w (x ∷ known) zero f h e = let same : x ≡ f = cc in subst (Holds w) same h.0
one_holds w (x ∷ known) (suc k) f h e = one_holds w known k f h.1 e

pub more_hold : {ds : List Committed} (w : Ranks ds) (known : List Fact) (f : Fact) → HoldAll w known → Holds w f → HoldAll w (known ++ f ∷ [])
more_hold w [] f h k = (k, tt)
more_hold w (x ∷ known) f h k = (h.0, more_hold w known f h.1 k)

known_behind : {ds : List Committed} (w : Ranks ds) (known : List Fact) (from : Option ℕ) (u : ℕ) → HoldAll w known → IsKnownBehind known from u → IsBehind w.rank from u
known_behind w known None u h k = tt
known_behind w known (Some t) u h k = one_holds w known k.0 (record { before = t; behind = u }) h k.1

module _ (ds : List Committed) where
  pub along_follows : (r : RecordId) (from : Option ℕ) (xs : List Reading) (s t : ℕ) → IsPath ds r from xs → from ≡ Some s → end from xs ≡ Some t → s ≢ t →
      Follows ds [] (record { before = s; behind = t })
  along_follows r from [] s t p f e ne = absurd (ne (let z : Some s ≡ Some t = sym f ∙ e in cc))
  along_follows r from (x ∷ xs) s t p f e ne = λ w h.
      along_strictly w r s t x xs (subst (λ o. IsPath ds r o (x ∷ xs)) f p) (subst (λ o. end o (x ∷ xs) ≡ Some t) f e)

  pub behind_follows : (known : List Fact) (r : RecordId) (from : Option ℕ) (xs : List Reading) (t u : ℕ) → IsPath ds r from xs → end from xs ≡ Some t →
      u < length ds → Leaves ds u r → IsNone u xs → IsKnownBehind known from u → Follows ds known (record { before = t; behind = u })
  behind_follows known r from xs t u p e k l n b = λ w h.
      subst (λ o. IsBehind w.rank o u) e (behind_all w r from xs u p k l n (known_behind w known from u h b))

  pub apart_follows : (known : List Fact) (number : ℕ) (r : RecordId) (one other : List Reading) (a c x y : ℕ) →
      IsPath ds r (Some a) one → IsPath ds r (Some c) other → end (Some a) one ≡ Some x → end (Some c) other ≡ Some y →
      slice_get known number ≡ Some (record { before = x; behind = y }) → a < length ds → c < length ds → a ≢ c → Leaves ds a r → IsNone a other →
      Follows ds known (record { before = a; behind = c })
  apart_follows known number r one other a c x y p q e f is h k ne l n = λ w all.
      beyond w a c h k (λ z. ne (sym z)) (λ less.
      let xy : w.rank x < w.rank y = one_holds w known number (record { before = x; behind = y }) all is in
      let ax : w.rank a ≤ w.rank x = along w r a x one p e in
      let ya : w.rank y < w.rank a = subst (λ o. IsBehind w.rank o a) f (behind_all w r (Some c) other a q h l n less) in
      omega (arith, xy, ax, ya))

  pub through_follows : (known : List Fact) (i j t u v : ℕ) → slice_get known i ≡ Some (record { before = t; behind = u }) → slice_get known j ≡ Some (record { before = u; behind = v }) →
      Follows ds known (record { before = t; behind = v })
  through_follows known i j t u v e f = λ w all.
      let a : w.rank t < w.rank u = one_holds w known i (record { before = t; behind = u }) all e in
      let b : w.rank u < w.rank v = one_holds w known j (record { before = u; behind = v }) all f in
      omega (arith, a, b)

  pub shuts : (known : List Fact) (i t : ℕ) → slice_get known i ≡ Some (record { before = t; behind = t }) → IsShut ds known
  shuts known i t e = λ w all. let a : w.rank t < w.rank t = one_holds w known i (record { before = t; behind = t }) all e in omega (arith, a)

  -- a case is shut where it is with what follows from it
  pub shut_more : (known : List Fact) (f : Fact) → Follows ds known f → IsShut ds (known ++ f ∷ []) → IsShut ds known
  shut_more known f follows shut = λ w all. shut w (more_hold w known f all (follows w all))

  -- or in both of two cases
  pub shut_both : (known : List Fact) (t u : ℕ) → t < length ds → u < length ds → t ≢ u → IsShut ds (known ++ record { before = u; behind = t } ∷ []) →
      IsShut ds (known ++ record { before = t; behind = u } ∷ []) → IsShut ds known
  shut_both known t u h k ne one other = λ w all.
      one w (more_hold w known (record { before = u; behind = t }) all (beyond w u t k h ne (λ less. other w (more_hold w known (record { before = t; behind = u }) all less))))

  pub one_more : (xs : List (Vec Fact Global)) (v : Vec Fact Global) → AreShut ds (map (λ x. x.items) xs) → IsShut ds v.items → AreShut ds (map (λ x. x.items) (xs ++ v ∷ []))
  one_more [] v h k = (k, tt)
  one_more (x ∷ xs) v h k = (h.0, one_more xs v h.1 k)

  pub last_one : (xs : List (Vec Fact Global)) (v : Vec Fact Global) → AreShut ds (map (λ x. x.items) (xs ++ v ∷ [])) → AreShut ds (map (λ x. x.items) xs) × IsShut ds v.items
  last_one [] v h = (tt, h.0)
  last_one (x ∷ xs) v h = let r = last_one xs v h.1 in ((h.0, r.0), r.1)

  -- the last case is one of these
  abbrev pub ShutAll : List (Vec Fact Global) → Type 0
  ShutAll xs = AreShut ds (map (λ x. x.items) xs)

  pub shut_step : (old rest new : List (Vec Fact Global)) (known after : Vec Fact Global) (f : Fact) → old ≡ rest ++ known ∷ [] → after.items ≡ known.items ++ f ∷ [] → new ≡ rest ++ after ∷ [] →
      Follows ds known.items f → ShutAll new → ShutAll old
  shut_step old rest new known after f o a n follows h =
      let s = last_one rest after (subst ShutAll n h) in
      subst ShutAll (sym o) (one_more rest known s.0 (shut_more known.items f follows (subst (IsShut ds) a s.1)))

  pub either_step : (old rest mid new : List (Vec Fact Global)) (known turned after : Vec Fact Global) (t u : ℕ) → t < length ds → u < length ds → t ≢ u → old ≡ rest ++ known ∷ [] →
      turned.items ≡ known.items ++ record { before = u; behind = t } ∷ [] → mid ≡ rest ++ turned ∷ [] → after.items ≡ known.items ++ record { before = t; behind = u } ∷ [] →
      new ≡ mid ++ after ∷ [] → ShutAll new → ShutAll old
  either_step old rest mid new known turned after t u h k ne o a m b n shut =
      let s = last_one mid after (subst ShutAll n shut) in
      let r = last_one rest turned (subst ShutAll m s.0) in
      subst ShutAll (sym o) (one_more rest known r.0 (shut_both known.items t u h k ne (subst (IsShut ds) a r.1) (subst (IsShut ds) b s.1)))
