-- Who is presumed aborted, or lost told operations, is never decided and never installed.
use Rattle.std.proofs.Common.{◌≡◌, inl, inr, ℕ, Bool, true, false, ◌||◌, ◌≤◌, ◌==◌, List, [], ◌∷◌, ◌++◌, Option, None, Some, refl, sym, ap, ◌∙◌, subst, arith}
use Rattle.std.proofs.lemmas.Bool.{or_left, or_from, or_parts, eqb-true, eqb-false, false_from_ne_true}
use Rattle.co_message.specs.declared.message.Message.TheVariants as message
use Rattle.co_state.specs.Table.{look, holds}
use Rattle.co_plain.specs.declared.coord_state.Entry.TheVariants as entry
use Rattle.co_plain.specs.declared.happening.Happening.{Happening}
use Rattle.co_plain.specs.declared.happening.Happening.TheVariants as happening
use Rattle.co_plain.specs.declared.session.Session.{Session}
use Rattle.co_plain.specs.Numbers.{has_number}
use Rattle.co_plain.specs.CoordStep.{has_part, members_of}
use Rattle.co_plain.specs.Sessions.{count_at}
use Rattle.co_plain.specs.Wire.{was_sent}
use Rattle.co_plain.specs.Federation.{Federation}
use Rattle.co_plain.specs.Step.{step}
use Rattle.co_plain.specs.Decisions.{told_of, told_in}
use Rattle.co_plain.specs.CommitmentOrder.{Trace, Began, Operated, Committed, trace_of}
use Rattle.co_plain.specs.Invariants.{Memory, view, stands}
use Rattle.co_plain.specs.Moves.{Move, Install, CommitLocally, Decide, Guard, GuardsHold, effect, session_by_member}
use Rattle.co_law_base.proofs.Lookups.{found_holds}
use Rattle.co_law_base.proofs.Commits.{lacks_none}
use Rattle.co_law_base.proofs.Facts.{rest_of, alive, belongs, Begun, settled, Here, Before, OpenEntry, Facts}
use Rattle.co_law_base.proofs.Carrying.{LivesOn, one_lives, settled_alive}
use Rattle.co_law_base.proofs.CoordMoves.{one_yes}
use Rattle.co_law_base.proofs.LogMoves.{local_apart}
use Rattle.co_law_base.proofs.VoteMoves.{as_settled}
use Rattle.co_law_base.proofs.Sending.{told_parts, part_member}
use Rattle.co_law_base.proofs.KeptTold.{told_begun}
use Rattle.co_plain.specs.Premises.{IsTrueVerdict, AreTrueVerdicts}
use Rattle.co_law_moves.proofs.Steps.{step_keeps}
use Rattle.co_law_moves.specs.EventMoves.{moves_of}
use Rattle.co_law_moves.specs.MoveTraces.{move_trace, moves_trace, items_along}
use Rattle.co_law_moves.proofs.MoveByMove.{move_keeps}
use Rattle.co_law_moves.proofs.StepsMade.{event_made}
use Rattle.co_law_moves.proofs.StepsTold.{step_told}
use Rattle.co_law_moves.proofs.MoveOnward.{move_onward}
use Rattle.co_law_moves.proofs.Onward.{Onward, onward_same, onward_on, disarm_onward, lives_back, present, absent_votes}
use Rattle.co_law_moves.proofs.ByMoves.{step_leaves}
use Rattle.co_law_runs.proofs.Working.{Working, move_works, disarm_works}
use Rattle.co_law_runs.proofs.Agreement.{stands_where_told}
use Rattle.co_law_runs.specs.OnlyTimers.{tells_commit}

pub data Hopeless (s : Federation) (t : ℕ) : Type 0 where
  Dead : (c : ℕ) → belongs (rest_of s) t c → alive (rest_of s) c t ≡ false → Hopeless s t
  Lost : (m : ℕ) → 1 ≤ count_at (told_of s t) m → (LivesOn (rest_of s) t → present (s.member m) t ≡ false) → Hopeless s t

pub hopeless_on : (s z : Federation) → Onward s z → (t : ℕ) → Hopeless s t → Hopeless z t
hopeless_on s z o t (Dead c b d) = Dead c (o.belongs_on t c b) (false_from_ne_true (alive (rest_of z) c t) (λ a. let q : true ≡ false = sym (o.alive_back t c b a) ∙ d in cc))
hopeless_on s z o t (Lost m l h) = let k = o.counts t m in Lost m (omega (arith, l, k)) (λ lives. o.nowhere m t lives l (h (lives_back s z o t lives)))

unless_same : (u t : ℕ) → (u ≡ t → ⊥) → ((u == t) || false) ≡ false
unless_same u t h = or_from (u == t) false (false_from_ne_true (u == t) (λ e. h (eqb-true u t e))) refl

module _ (s : Federation) (f : Facts s) (w : Working s) (t : ℕ) where
  installs_not : (m : ℕ) → holds (s.member m).engine.voted t ≡ true → settled (rest_of s) t → Hopeless s t → ⊥
  installs_not m v d (Dead c b dead) = let q : true ≡ false = sym (settled_alive (rest_of s) f.numbers t c b d) ∙ dead in cc
  installs_not m v (Before c k) (Lost n l h) =
      let q : true ≡ false = sym (f.numbers.commit_used c t k) ∙ f.numbers.new t (told_begun (look s.sessions t) n l) in cc
  installs_not m v (Here d) (Lost n l h) =
      let absent = (or_parts (holds (s.member n).engine.active t) (stands (view Memory (s.member n)) t) (h (λ c b. settled_alive (rest_of s) f.numbers t c b (Here d)))).1 in
      let q : true ≡ false = sym (stands_where_told s f w t m n d (or_left _ _ v) l) ∙ absent in cc

  lives_open : (c : ℕ) → OpenEntry (rest_of s) c (s.coord c).log.stable t → holds (s.coord c).table t ≡ true → LivesOn (rest_of s) t
  lives_open c o here = one_lives (rest_of s) f.numbers t c (Begun o.begun_there) (or_left _ _ here)

  open_not_dead : (c d : ℕ) → OpenEntry (rest_of s) c (s.coord c).log.stable t → holds (s.coord c).table t ≡ true → belongs (rest_of s) t d → alive (rest_of s) d t ≡ false → ⊥
  open_not_dead c d o here b dead = let q : true ≡ false = sym (lives_open c o here d b) ∙ dead in cc

  decides_not : (c : ℕ) → Guard s (Decide t c) → Hopeless s t → ⊥
  decides_not c (inl p) (Dead d b dead) = open_not_dead c d ((f.coords c).idle t p.0) (found_holds (s.coord c).table t entry.Idle p.0) b dead
  decides_not c (inr p) (Dead d b dead) = open_not_dead c d ((f.coords c).collecting t p.0 p.1 p.3).still (found_holds (s.coord c).table t (entry.Collecting p.0 p.1) p.3) b dead
  decides_not c (inl p) (Lost n l h) =
      let q : false ≡ true = ap (λ ps. has_part ps n) (sym p.1) ∙ told_parts (told_of s t) n l in cc
  decides_not c (inr p) (Lost n l h) =
      let here = found_holds (s.coord c).table t (entry.Collecting p.0 p.1) p.3 in
      let x = (f.coords c).collecting t p.0 p.1 p.3 in
      let part : has_number (members_of p.0) n ≡ true = part_member p.0 n ∙ ap (λ ps. has_part ps n) x.parts_told ∙ told_parts (told_of s t) n l in
      let sent : was_sent s.sent (message.Vote t n c true) ≡ true =
      one_yes (λ k. was_sent s.sent (message.Vote t k c true) ≡ true) p.1 p.2 n p.4 (x.yeses_sent n) (lacks_none (members_of p.0) (p.2 ∷ p.1) n p.5 part) in
      let stood = f.sent.yeses_stand t n c Memory sent (or_left _ _ here) in
      let absent = (or_parts (holds (s.member n).engine.active t) (stands (view Memory (s.member n)) t) (h (lives_open c x.still here))).1 in
      let q : true ≡ false = sym stood ∙ absent in cc

  locally_not : (m : ℕ) → Guard s (CommitLocally t m) → Hopeless s t → ⊥
  locally_not m g hopeless = by (look s.sessions t) refl g.0 hopeless
    where
      by : (o : Option Session) → look s.sessions t ≡ o → session_by_member o m → Hopeless s t → ⊥
      by None e b h = absurd b
      by (Some session) e b (Dead c k dead) = local_apart s f.numbers t c m session k e b
      by (Some session) e b (Lost n l h) = now (n == m) refl
        where
          here : present (s.member n) t ≡ false
          here = h (λ c k. absurd (local_apart s f.numbers t c m session k e b))

          now : (z : Bool) → (n == m) ≡ z → ⊥
          now true q =
              absent_votes (s.member m).engine t (count_at (told_of s t) m) g.3 g.2
              (ap (λ k. holds (s.member k).engine.active t) (sym (eqb-true n m q)) ∙ (or_parts (holds (s.member n).engine.active t) (stands (view Memory (s.member n)) t) here).0)
          now false q =
              let none : count_at session.told n ≡ 0 = f.numbers.local t m n session e b (eqb-false n m q) in
              let z : 1 ≤ 0 = subst (λ k. 1 ≤ k) (ap (λ o. count_at (told_in o) n) e ∙ none) l in
              omega (arith, z)

pub move_tells_none : (s : Federation) → Facts s → Working s → (t : ℕ) → Hopeless s t → (move : Move) → Guard s move → tells_commit (move_trace s move) t ≡ false
move_tells_none s f w t h (Install u m) g =
    unless_same u t (λ e. installs_not s f w t m (subst (λ k. holds (s.member m).engine.voted k ≡ true) e g.0) (subst (settled (rest_of s)) e (as_settled s u g.1)) h)
move_tells_none s f w t h (Decide u c) g = unless_same u t (λ e. decides_not s f w t c (subst (λ k. Guard s (Decide k c)) e g) h)
move_tells_none s f w t h (CommitLocally u m) g = unless_same u t (λ e. locally_not s f w t m (subst (λ k. Guard s (CommitLocally k m)) e g) h)
move_tells_none s f w t h _ g = refl

pub tells_more : (xs ys : List Trace) (t : ℕ) → tells_commit xs t ≡ false → tells_commit ys t ≡ false → tells_commit (xs ++ ys) t ≡ false
tells_more [] ys t p q = q
tells_more (Began u by ∷ xs) ys t p q = tells_more xs ys t p q
tells_more (Operated u m o reply ∷ xs) ys t p q = tells_more xs ys t p q
tells_more (Committed at u ∷ xs) ys t p q = let k = or_parts (u == t) (tells_commit xs t) p in or_from _ _ k.0 (tells_more xs ys t k.1 q)

moves_tell_none : (moves : List Move) (s : Federation) → Facts s → Working s → (t : ℕ) → Hopeless s t → GuardsHold moves s → tells_commit (moves_trace moves s) t ≡ false
moves_tell_none [] s f w t h g = refl
moves_tell_none (move ∷ moves) s f w t h g =
    tells_more (move_trace s move) (moves_trace moves (effect s move)) t (move_tells_none s f w t h move g.0)
    (moves_tell_none moves (effect s move) (move_keeps s f move g.0) (move_works s f move g.0 w) t (hopeless_on s (effect s move) (move_onward s f move g.0) t h) g.1)

pub step_works : (s : Federation) → Facts s → (h : Happening) → IsTrueVerdict s h → Working s → Working (step s h).state
step_works = step_leaves (λ s z. Working s → Working z) (λ s w. w) (λ s z w p q r. q (p r)) (λ s f move g w. move_works s f move g w) (λ s f w. disarm_works s w)

pub step_onward : (s : Federation) → Facts s → (h : Happening) → IsTrueVerdict s h → Onward s (step s h).state
step_onward = step_leaves Onward onward_same onward_on (λ s f move g. move_onward s f move g) (λ s f. disarm_onward s)

step_tells_none : (s : Federation) → Facts s → Working s → (t : ℕ) → Hopeless s t → (h : Happening) → IsTrueVerdict s h → tells_commit (moves_trace (moves_of s h) s) t ≡ false
step_tells_none s f w t hopeless (happening.Line e) v =
    moves_tell_none (moves_of s (happening.Line e)) s f w t hopeless (event_made s f (happening.Line e) (λ n. let z : happening.Line e ≡ happening.Disarm = n in cc) v).guards
step_tells_none s f w t hopeless (happening.Hand u m commit) v =
    moves_tell_none (moves_of s (happening.Hand u m commit)) s f w t hopeless (event_made s f (happening.Hand u m commit) (λ n. let z : happening.Hand u m commit ≡ happening.Disarm = n in cc) v).guards
step_tells_none s f w t hopeless happening.Disarm v = refl

-- in no continuation a commit record of it becomes stable
pub run_tells_none : (hs : List Happening) (s : Federation) → Facts s → Working s → (t : ℕ) → Hopeless s t → AreTrueVerdicts hs s → tells_commit (trace_of (items_along hs s)) t ≡ false
run_tells_none [] s f w t h v = refl
run_tells_none (x ∷ hs) s f w t h v =
    ap (λ k. tells_commit k t) (step_told s f x (items_along hs (step s x).state))
    ∙ tells_more (moves_trace (moves_of s x) s) (trace_of (items_along hs (step s x).state)) t (step_tells_none s f w t h x v.0)
    (run_tells_none hs (step s x).state (step_keeps s f x v.0) (step_works s f x v.0 w) t (hopeless_on s (step s x).state (step_onward s f x v.0) t h) v.1)
