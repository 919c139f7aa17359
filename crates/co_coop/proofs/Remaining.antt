-- Which doubts remain behind their turns.
use Rattle.std.proofs.Common.{◌≡◌, ◌≢◌, ◌⊎◌, inl, inr, ℕ, zero, suc, Bool, true, false, ◌==◌, ◌≤◌, if◌then◌else◌, List, [], ◌∷◌, ◌++◌, length, Option, None, Some, refl, sym, ap, ◌∙◌, subst, arith}
use Rattle.std.specs.Option.{is_some}
use Rattle.std.proofs.lemmas.Bool.{eqb-true, eqb-false}
use Rattle.co_base.specs.declared.node.Node.TheVariants as node
use Rattle.co_message.specs.declared.event.Event.TheVariants as event
use Rattle.co_state.specs.declared.engine_state.Vote.{Vote}
use Rattle.co_state.specs.Table.{look}
use Rattle.co_plain.specs.Federation.{Federation}
use Rattle.co_plain.specs.MemberStep.{standing_of}
use Rattle.co_plain.specs.Runs.{run}
use Rattle.co_plain.specs.Step.{step}
use Rattle.co_plain.specs.declared.happening.Happening.TheVariants as happening
use Rattle.co_plain.specs.declared.standing.Standing.{Standing}
use Rattle.co_plain.specs.declared.standing.Standing.TheVariants.{IsActive, IsVoted, IsInstalled, IsAbsent}
use Rattle.co_cluster.specs.declared.doubting.Doubt.{Doubt}
use Rattle.co_law_coop.specs.declared.told.Told.{Told}
use Rattle.co_law_coop.specs.declared.told.Told.TheVariants as told
use Rattle.co_law_coop.specs.Consulting.{letting_go, done_for}
use Rattle.co_coop.proofs.Votes.{LeavesVotes, leaves_all, leaves_on, hand_leaves, timer_leaves_all, hand_gone}
use Rattle.co_settle.specs.Reached.{IsReached}
use Rattle.co_coop.specs.Consulted.{told_of_doubt, consultation_of, is_voted_there}
use Rattle.co_coop.specs.Turn.{is_verdict, others_to, asked_in_turn, doubt_turn}
use Rattle.co_coop.proofs.Aborting.{timer_apart}
use Rattle.co_coop.proofs.Asked.{reached_invariants, voted_stands}
use Rattle.co_coop.proofs.Turning.{AreSilent, silent_more, others_asker, others_next}

-- ---- who is in doubt stands voted

pub voted_is : (st : Standing) → is_voted_there st ≡ true → st ≡ IsVoted
voted_is IsActive h = absurd (let z : false ≡ true = h in cc)
voted_is IsVoted h = refl
voted_is IsInstalled h = absurd (let z : false ≡ true = h in cc)
voted_is IsAbsent h = absurd (let z : false ≡ true = h in cc)

-- what is told where the member is not in doubt is no verdict
doubt_of_verdict : (b u : Bool) (x : Told) → is_verdict (if b then (if u then x else told.Down) else told.Settled) ≡ true → b ≡ true
doubt_of_verdict true u x h = refl
doubt_of_verdict false u x h = h

module _ (s : Federation) (r : IsReached s) (doubt : Doubt) where
  abbrev m : ℕ
  m = doubt.member

  abbrev t : ℕ
  t = doubt.txn

  -- an abort is told by a member that has not voted
  aborts_unvoted : (other : ℕ) → standing_of (s.member other) t ≡ IsActive → look (s.member other).engine.voted t ≡ None
  aborts_unvoted other e = by (look (s.member other).engine.voted t) refl
    where
      by : (o : Option Vote) → look (s.member other).engine.voted t ≡ o → look (s.member other).engine.voted t ≡ None
      by None q = q
      by (Some vote) q =
          let z : is_voted_there IsActive ≡ true = ap is_voted_there (sym e) ∙ voted_stands s (reached_invariants s r) t other ∙ ap is_some q in
          absurd (let y : false ≡ true = z in cc)

  letting_leaves : (other : ℕ) (x : Standing) → standing_of (s.member other) t ≡ x → LeavesVotes t m s (run (letting_go x t other ++ happening.Hand t m false ∷ []) s)
  letting_leaves other IsActive e =
      let z = (step s (happening.Line (event.Timer t (node.Member other)))).state in
      leaves_on t m s z (step z (happening.Hand t m false)).state (timer_leaves_all s t m other (aborts_unvoted other e)) (hand_leaves z t m false)
  letting_leaves other IsVoted e = hand_leaves s t m false
  letting_leaves other IsInstalled e = hand_leaves s t m false
  letting_leaves other IsAbsent e = hand_leaves s t m false

  done_leaves : (other : ℕ) (x : Told) → LeavesVotes t m s (run (done_for x (s.member other) t m other) s)
  done_leaves other told.Commit = hand_leaves s t m true
  done_leaves other told.Abort = letting_leaves other (standing_of (s.member other) t) refl
  done_leaves other told.Settled = leaves_all t m s
  done_leaves other told.Down = leaves_all t m s
  done_leaves other told.InDoubt = leaves_all t m s
  done_leaves other told.Stranger = leaves_all t m s
  done_leaves other told.Reachable = leaves_all t m s

  asked_leaves : (others : List ℕ) → LeavesVotes t m s (run (asked_in_turn s doubt others) s)
  asked_leaves [] = leaves_all t m s
  asked_leaves (other ∷ others) = by (asked_leaves others) (is_verdict (told_of_doubt s doubt other))
    where
      by : LeavesVotes t m s (run (asked_in_turn s doubt others) s) → (v : Bool) → LeavesVotes t m s (run (if v then consultation_of s doubt other else asked_in_turn s doubt others) s)
      by rest false = rest
      by rest true = done_leaves other (told_of_doubt s doubt other)

  pub turn_leaves : LeavesVotes t m s (run (doubt_turn s doubt) s)
  turn_leaves = asked_leaves (others_to (length s.kinds) m)

  -- ---- a verdict ends the doubt

  module _ (up : (s.member m).up ≡ true) (voted : standing_of (s.member m) t ≡ IsVoted) where
    not_active : (other : ℕ) → standing_of (s.member other) t ≡ IsActive → other ≢ m
    not_active other e same = let z : IsActive ≡ IsVoted = sym e ∙ ap (λ k. standing_of (s.member k) t) same ∙ voted in cc

    letting_gone : (other : ℕ) (x : Standing) → standing_of (s.member other) t ≡ x →
        ((run (letting_go x t other ++ happening.Hand t m false ∷ []) s).member m).up ≡ true → look ((run (letting_go x t other ++ happening.Hand t m false ∷ []) s).member m).engine.voted t ≡ None
    letting_gone other IsActive e =
        let z = (step s (happening.Line (event.Timer t (node.Member other)))).state in
        let same = timer_apart s t other m (not_active other e) in
        hand_gone z t m false (ap (λ x. standing_of x t) same ∙ voted) (ap (λ x. x.up) same ∙ up)
    letting_gone other IsVoted e = hand_gone s t m false voted up
    letting_gone other IsInstalled e = hand_gone s t m false voted up
    letting_gone other IsAbsent e = hand_gone s t m false voted up

    pub done_gone : (other : ℕ) (x : Told) → is_verdict x ≡ true → ((run (done_for x (s.member other) t m other) s).member m).up ≡ true → look ((run (done_for x (s.member other) t m other) s).member m).engine.voted t ≡ None
    done_gone other told.Commit h = hand_gone s t m true voted up
    done_gone other told.Abort h = letting_gone other (standing_of (s.member other) t) refl
    done_gone other told.Settled h = absurd (let z : false ≡ true = h in cc)
    done_gone other told.Down h = absurd (let z : false ≡ true = h in cc)
    done_gone other told.InDoubt h = absurd (let z : false ≡ true = h in cc)
    done_gone other told.Stranger h = absurd (let z : false ≡ true = h in cc)
    done_gone other told.Reachable h = absurd (let z : false ≡ true = h in cc)

-- ---- who is asked

-- all are silent, or one of them tells the verdict of the turn
abbrev pub SomeTells : Federation → Doubt → List ℕ → Type 0
SomeTells s doubt others = (other : ℕ) × (is_verdict (told_of_doubt s doubt other) ≡ true) × (asked_in_turn s doubt others ≡ consultation_of s doubt other)

pub first_verdict : (s : Federation) (doubt : Doubt) (others : List ℕ) → AreSilent s doubt others ⊎ SomeTells s doubt others
first_verdict s doubt [] = inl tt
first_verdict s doubt (other ∷ others) = by (first_verdict s doubt others) (is_verdict (told_of_doubt s doubt other)) refl
  where
    by : AreSilent s doubt others ⊎ SomeTells s doubt others → (b : Bool) → is_verdict (told_of_doubt s doubt other) ≡ b → AreSilent s doubt (other ∷ others) ⊎ SomeTells s doubt (other ∷ others)
    by rest true e = inr (other, e, ap (λ b. if b then consultation_of s doubt other else asked_in_turn s doubt others) e)
    by (inl h) false e = inl (e, h)
    by (inr (o, v, is)) false e = inr (o, v, ap (λ b. if b then consultation_of s doubt other else asked_in_turn s doubt others) e ∙ is)

silent_parts : (s : Federation) (doubt : Doubt) (xs : List ℕ) (other : ℕ) → AreSilent s doubt (xs ++ other ∷ []) → AreSilent s doubt xs × (is_verdict (told_of_doubt s doubt other) ≡ false)
silent_parts s doubt [] other h = (tt, h.0)
silent_parts s doubt (x ∷ xs) other h = let p = silent_parts s doubt xs other h.1 in ((h.0, p.0), p.1)

-- to be silent is to be so one by one
pub each_silent : (s : Federation) (doubt : Doubt) (n : ℕ) → AreSilent s doubt (others_to n doubt.member) → (other : ℕ) → 1 ≤ other → other ≤ n → other ≢ doubt.member → is_verdict (told_of_doubt s doubt other) ≡ false
each_silent s doubt zero h other low high apart = absurd (omega (arith, low, high))
each_silent s doubt (suc n) h other low high apart = by (each_silent s doubt n) (suc n == doubt.member) refl (other == suc n) refl
  where
    by : (AreSilent s doubt (others_to n doubt.member) → (o : ℕ) → 1 ≤ o → o ≤ n → o ≢ doubt.member → is_verdict (told_of_doubt s doubt o) ≡ false) → (b : Bool) → (suc n == doubt.member) ≡ b → (k : Bool) → (other == suc n) ≡ k →
        is_verdict (told_of_doubt s doubt other) ≡ false
    by rest true e true q = absurd (apart (eqb-true other (suc n) q ∙ eqb-true (suc n) doubt.member e))
    by rest true e false q =
        let below : other ≤ n = let d = eqb-false other (suc n) q in omega (arith, high, d) in
        rest (subst (AreSilent s doubt) (others_asker n doubt.member (eqb-true (suc n) doubt.member e)) h) other low below apart
    by rest false e true q =
        let p = silent_parts s doubt (others_to n doubt.member) (suc n) (subst (AreSilent s doubt) (others_next n doubt.member (eqb-false (suc n) doubt.member e)) h) in
        ap (λ o. is_verdict (told_of_doubt s doubt o)) (eqb-true other (suc n) q) ∙ p.1
    by rest false e false q =
        let p = silent_parts s doubt (others_to n doubt.member) (suc n) (subst (AreSilent s doubt) (others_next n doubt.member (eqb-false (suc n) doubt.member e)) h) in
        let below : other ≤ n = let d = eqb-false other (suc n) q in omega (arith, high, d) in
        rest p.0 other low below apart

pub all_silent : (s : Federation) (doubt : Doubt) (n : ℕ) → ((other : ℕ) → 1 ≤ other → other ≤ n → other ≢ doubt.member → is_verdict (told_of_doubt s doubt other) ≡ false) → AreSilent s doubt (others_to n doubt.member)
all_silent s doubt zero h = tt
all_silent s doubt (suc n) h = by (all_silent s doubt n (λ other low high apart. h other low (let l : other ≤ suc n = omega (arith, high) in l) apart)) (suc n == doubt.member) refl
  where
    by : AreSilent s doubt (others_to n doubt.member) → (b : Bool) → (suc n == doubt.member) ≡ b → AreSilent s doubt (others_to (suc n) doubt.member)
    by rest true e = subst (AreSilent s doubt) (sym (others_asker n doubt.member (eqb-true (suc n) doubt.member e))) rest
    by rest false e =
        let apart = eqb-false (suc n) doubt.member e in
        subst (AreSilent s doubt) (sym (others_next n doubt.member apart)) (silent_more s doubt (others_to n doubt.member) (suc n) rest (h (suc n) (let l : 1 ≤ suc n = omega arith in l) (let l : suc n ≤ suc n = omega arith in l) apart))
