-- The other members, one after the other, up to the first one that tells a verdict.
use Rattle.std.proofs.Common.{◌≡◌, ◌≢◌, ℕ, zero, suc, Bool, true, false, ◌==◌, ◌≤◌, ◌+◌, ◌-◌, if◌then◌else◌, List, [], ◌∷◌, ◌++◌, length, Option, Result, Ok, Err, refl, sym, ap, ◌∙◌, subst, append_assoc, append-nil, arith}
use Rattle.std.proofs.lemmas.Bool.{eq-eqb, eqb-true}
use Rattle.std.specs.Result.{IsErr, IsErrAnd}
use Rattle.co_base.specs.declared.head.Kind.{Kind}
use Rattle.co_durable.specs.declared.fault.WorldFault.{WorldFault}
use Rattle.co_message.specs.declared.item.Item.{Item}
use Rattle.co_outside.specs.Home.{File}
use Rattle.co_outside.specs.declared.spot.Spot.{Spot}
use Rattle.co_plain.specs.Federation.{Federation}
use Rattle.co_cluster.specs.declared.doubting.Doubt.{Doubt}
use Rattle.co_state.specs.declared.engine_state.EngineState.{EngineState}
use Rattle.co_world.specs.declared.world.World.{World}
use Rattle.co_law_coop.specs.declared.told.Told.{Told}
use Rattle.co_law_coop.specs.declared.told.Told.TheVariants as told
use Rattle.co_law_coop.specs.Consulting.{done_for}
use Rattle.co_coop.specs.Consulted.{MayConsult, told_of_doubt, consultation_of, IsCutAlong}
use Rattle.co_coop.specs.Turn.{MayAsk, AsksAs, is_verdict, others_to, asked_in_turn, doubt_turn}
use Rattle.co_coop.proofs.Along.{cut_ahead}

-- none of them tells a verdict
abbrev pub AreSilent : Federation → Doubt → List ℕ → Type 0
AreSilent s doubt [] = Unit {0}
AreSilent s doubt (other ∷ others) = (is_verdict (told_of_doubt s doubt other) ≡ false) × AreSilent s doubt others

module _ (s : Federation) (doubt : Doubt) where
  pub silent_more : (xs : List ℕ) (other : ℕ) → AreSilent s doubt xs → is_verdict (told_of_doubt s doubt other) ≡ false → AreSilent s doubt (xs ++ other ∷ [])
  silent_more [] other h k = (k, tt)
  silent_more (x ∷ xs) other h k = (h.0, silent_more xs other h.1 k)

  -- behind those who are silent the next one counts
  pub asked_behind : (xs ys : List ℕ) → AreSilent s doubt xs → asked_in_turn s doubt (xs ++ ys) ≡ asked_in_turn s doubt ys
  asked_behind [] ys h = refl
  asked_behind (x ∷ xs) ys h = ap (λ b. if b then consultation_of s doubt x else asked_in_turn s doubt (xs ++ ys)) h.0 ∙ asked_behind xs ys h.1

  pub asked_none : (xs : List ℕ) → AreSilent s doubt xs → asked_in_turn s doubt xs ≡ []
  asked_none [] h = refl
  asked_none (x ∷ xs) h = ap (λ b. if b then consultation_of s doubt x else asked_in_turn s doubt xs) h.0 ∙ asked_none xs h.1

  pub asked_first : (xs ys : List ℕ) (other : ℕ) → AreSilent s doubt xs → is_verdict (told_of_doubt s doubt other) ≡ true → asked_in_turn s doubt (xs ++ other ∷ ys) ≡ consultation_of s doubt other
  asked_first xs ys other h k = asked_behind xs (other ∷ ys) h ∙ ap (λ b. if b then consultation_of s doubt other else asked_in_turn s doubt ys) k

-- ---- the first members among all

pub others_asker : (n m : ℕ) → suc n ≡ m → others_to (suc n) m ≡ others_to n m
others_asker n m e = ap (λ b. if b then others_to n m else others_to n m ++ suc n ∷ []) (ap (λ k. suc n == k) (sym e) ∙ eq-eqb (suc n) (suc n) refl)

pub others_next : (n m : ℕ) → suc n ≢ m → others_to (suc n) m ≡ others_to n m ++ suc n ∷ []
others_next n m apart = by (suc n == m) refl
  where
    by : (b : Bool) → (suc n == m) ≡ b → others_to (suc n) m ≡ others_to n m ++ suc n ∷ []
    by true e = absurd (apart (eqb-true (suc n) m e))
    by false e = ap (λ b. if b then others_to n m else others_to n m ++ suc n ∷ []) e

pub others_front : (d n m : ℕ) → (rest : List ℕ) × (others_to (d + n) m ≡ others_to n m ++ rest)
others_front zero n m = ([], ap (λ k. others_to k m) (let e : 0 + n ≡ n = omega arith in e) ∙ sym (append-nil (others_to n m)))
others_front (suc d) n m = by (others_front d n m) (suc (d + n) == m) refl
  where
    place : suc d + n ≡ suc (d + n)
    place = omega arith

    by : (rest : List ℕ) × (others_to (d + n) m ≡ others_to n m ++ rest) → (b : Bool) → (suc (d + n) == m) ≡ b → (rest : List ℕ) × (others_to (suc d + n) m ≡ others_to n m ++ rest)
    by (rest, p) true e = (rest, ap (λ k. others_to k m) place ∙ ap (λ b. if b then others_to (d + n) m else others_to (d + n) m ++ suc (d + n) ∷ []) e ∙ p)
    by (rest, p) false e = (
      rest ++ suc (d + n) ∷ [],
      ap (λ k. others_to k m) place ∙ ap (λ b. if b then others_to (d + n) m else others_to (d + n) m ++ suc (d + n) ∷ []) e
          ∙ ap (λ xs. xs ++ suc (d + n) ∷ []) p ∙ append_assoc (others_to n m) rest (suc (d + n) ∷ []),
    )

-- ---- the turn

-- where no verdict is told nothing is done
pub silent_nothing : (s : Federation) (doubt : Doubt) (other : ℕ) → is_verdict (told_of_doubt s doubt other) ≡ false → consultation_of s doubt other ≡ []
silent_nothing s doubt other = by (told_of_doubt s doubt other)
  where
    by : (x : Told) → is_verdict x ≡ false → done_for x (s.member other) doubt.txn doubt.member other ≡ []
    by told.Settled h = refl
    by told.Down h = refl
    by told.Commit h = absurd (let z : true ≡ false = h in cc)
    by told.InDoubt h = refl
    by told.Stranger h = refl
    by told.Reachable h = refl
    by told.Abort h = absurd (let z : true ≡ false = h in cc)

pub may_consult : (s : Federation) (doubt : Doubt) (n : ℕ) → MayAsk s doubt → suc n ≤ length s.kinds → suc n ≢ doubt.member → MayConsult s doubt (suc n)
may_consult s doubt n may high apart =
    record { asker = may.asker; asked = (let e : 1 ≤ suc n = omega arith in e, high); apart = λ e. apart (sym e); home = may.home }

module _ (s : Federation) (doubt : Doubt) (n : ℕ) (high : suc n ≤ length s.kinds) (apart : suc n ≢ doubt.member) (silent : AreSilent s doubt (others_to n doubt.member)) where
  -- the first one that tells a verdict makes the turn
  pub turn_is : is_verdict (told_of_doubt s doubt (suc n)) ≡ true → doubt_turn s doubt ≡ consultation_of s doubt (suc n)
  turn_is verdict =
      let front = others_front (length s.kinds - suc n) (suc n) doubt.member in
      let whole : length s.kinds ≡ (length s.kinds - suc n) + suc n = omega (arith, high) in
      ap (asked_in_turn s doubt) (ap (λ k. others_to k doubt.member) whole ∙ front.1 ∙ ap (λ xs. xs ++ front.0) (others_next n doubt.member apart) ∙ append_assoc (others_to n doubt.member) (suc n ∷ []) front.0)
      ∙ asked_first s doubt (others_to n doubt.member) front.0 (suc n) silent verdict

  pub turn_cut : (file : Spot → Option File) (fault : WorldFault) → IsCutAlong (consultation_of s doubt (suc n)) s file fault → IsCutAlong (doubt_turn s doubt) s file fault
  turn_cut file fault = by (is_verdict (told_of_doubt s doubt (suc n))) refl
    where
      by : (b : Bool) → is_verdict (told_of_doubt s doubt (suc n)) ≡ b → IsCutAlong (consultation_of s doubt (suc n)) s file fault → IsCutAlong (doubt_turn s doubt) s file fault
      by true e h = subst (λ hs. IsCutAlong hs s file fault) (sym (turn_is e)) h
      by false e h = cut_ahead [] (doubt_turn s doubt) s file fault (subst (λ hs. IsCutAlong hs s file fault) (silent_nothing s doubt (suc n) e) h)

-- nobody tells a verdict
pub turn_none : (s : Federation) (doubt : Doubt) (n : ℕ) → n ≡ length s.kinds → AreSilent s doubt (others_to n doubt.member) → doubt_turn s doubt ≡ []
turn_none s doubt n all silent = ap (λ k. asked_in_turn s doubt (others_to k doubt.member)) (sym all) ∙ asked_none s doubt (others_to n doubt.member) silent

pub asks_fail : {E : Type 0} (takes : Kind → Type 0) (stands_for : E → EngineState → Type 0) (s : Federation) (number : ℕ) (doubt : Doubt) (w : World E) (file : Spot → Option File) (result : Result (List Item) WorldFault) (fault : WorldFault) →
    IsErr result × IsErrAnd result (λ f. f ≡ fault) → IsCutAlong (doubt_turn s doubt) s file fault → AsksAs takes stands_for s number doubt w file result
asks_fail takes stands_for s number doubt w file (Ok items) fault is h = absurd (let z : false ≡ true = is.0 in cc)
asks_fail takes stands_for s number doubt w file (Err f) fault is h = subst (IsCutAlong (doubt_turn s doubt) s file) (sym is.1) h
