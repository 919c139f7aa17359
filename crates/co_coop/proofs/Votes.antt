-- What a consultation leaves of the votes: a member that is up was up, and has the votes that it had, but for the one that was handed a verdict.
use Rattle.std.proofs.Common.{◌≡◌, ◌≢◌, ℕ, Bool, true, false, ◌==◌, if◌then◌else◌, List, [], ◌∷◌, Option, None, Some, refl, sym, ap, ◌∙◌, subst}
use Rattle.std.proofs.lemmas.Bool.{eqb-true, eqb-false, eq-eqb}
use Rattle.co_base.specs.declared.node.Node.TheVariants as node
use Rattle.co_frame.specs.Gate.{batch_is_stable}
use Rattle.co_message.specs.declared.event.Event.TheVariants as event
use Rattle.co_state.specs.declared.engine_state.Vote.{Vote}
use Rattle.co_state.specs.Effects.{install_vote}
use Rattle.co_state.specs.Table.{look}
use Rattle.co_plain.specs.declared.happening.Happening.TheVariants as happening
use Rattle.co_plain.specs.declared.member_state.MemberState.{MemberState}
use Rattle.co_plain.specs.declared.member_step.MemberStep.{MemberStep}
use Rattle.co_plain.specs.declared.outcome.Outcome.{Outcome}
use Rattle.co_plain.specs.declared.outcome.Outcome.TheVariants.{Completes, StopsAt}
use Rattle.co_plain.specs.declared.standing.Standing.{Standing}
use Rattle.co_plain.specs.declared.standing.Standing.TheVariants.{IsActive, IsVoted, IsInstalled, IsAbsent}
use Rattle.co_record.specs.declared.record.Record.{Record}
use Rattle.co_record.specs.declared.record.Record.TheVariants as log
use Rattle.co_message.specs.declared.answer.Answer.TheVariants as answer
use Rattle.co_message.specs.declared.message.Message.TheVariants as message
use Rattle.co_plain.specs.Federation.{Federation}
use Rattle.co_plain.specs.LogWrite.{outcome_of}
use Rattle.co_plain.specs.Member.{coord_of, installed_state, commit_by, abort_by, timer_by, member_decide, member_timer}
use Rattle.co_plain.specs.MemberStep.{standing_of, stopped_member, forced_by}
use Rattle.co_plain.specs.Step.{step, up_member}
use Rattle.co_law_base.proofs.Lookups.{without_here, without_there}

-- of one member: where it is up, it has its votes, but for this one
abbrev LeavesAt : ℕ → MemberState → MemberState → Type 0
LeavesAt t x y = y.up ≡ true → (u : ℕ) → t ≢ u → look y.engine.voted u ≡ look x.engine.voted u

abbrev IsGoneAt : ℕ → MemberState → Type 0
IsGoneAt t y = y.up ≡ true → look y.engine.voted t ≡ None

not_up : {A : Type 0} → false ≡ true → A
not_up h = absurd (let z : false ≡ true = h in cc)

module _ (m : ℕ) (x : MemberState) (t coord : ℕ) where
  installs : (u : ℕ) → t ≢ u → look (installed_state x t).engine.voted u ≡ look x.engine.voted u
  installs u n = by (look x.engine.voted t)
    where
      by : (o : Option Vote) → look (install_vote x.engine t o).voted u ≡ look x.engine.voted u
      by None = refl
      by (Some vote) = without_there x.engine.voted t u n

  installs_here : look (installed_state x t).engine.voted t ≡ None
  installs_here = by (look x.engine.voted t) refl
    where
      by : (o : Option Vote) → look x.engine.voted t ≡ o → look (install_vote x.engine t o).voted t ≡ None
      by None e = e
      by (Some vote) e = without_here x.engine.voted t

  stopped_leaves : {A : Type 0} (next : MemberState) (call : ℕ) (b : Bool) (batch : List Record) → (stopped_member m next call b batch).state.up ≡ true → A
  stopped_leaves next call true batch h = not_up h
  stopped_leaves next call false batch h = not_up h

  commit_leaves : (st : Standing) → LeavesAt t x (commit_by m x t coord st).state
  commit_leaves IsActive up u n = refl
  commit_leaves IsInstalled up u n = refl
  commit_leaves IsAbsent up u n = refl
  commit_leaves IsVoted up u n = by (outcome_of x.log.armed 4) up
    where
      by : (o : Outcome) → (forced_by m (installed_state x t) (log.Commit t [] ∷ []) answer.Installed (Some (message.Ack t m coord)) o).state.up ≡ true →
          look (forced_by m (installed_state x t) (log.Commit t [] ∷ []) answer.Installed (Some (message.Ack t m coord)) o).state.engine.voted u ≡ look x.engine.voted u
      by Completes h = installs u n
      by (StopsAt call leaves) h = stopped_leaves (installed_state x t) call (batch_is_stable call leaves) (log.Commit t [] ∷ []) h

  abort_leaves : (st : Standing) → LeavesAt t x (abort_by x t st).state
  abort_leaves IsActive up u n = without_there x.engine.voted t u n
  abort_leaves IsVoted up u n = without_there x.engine.voted t u n
  abort_leaves IsInstalled up u n = refl
  abort_leaves IsAbsent up u n = refl

  decide_leaves : (commit : Bool) → LeavesAt t x (member_decide m x t coord commit).state
  decide_leaves true = commit_leaves (standing_of x t)
  decide_leaves false = abort_leaves (standing_of x t)

  decide_gone : (commit : Bool) → standing_of x t ≡ IsVoted → IsGoneAt t (member_decide m x t coord commit).state
  decide_gone true e = subst (λ st. IsGoneAt t (commit_by m x t coord st).state) (sym e) (λ up. by (outcome_of x.log.armed 4) up)
    where
      by : (o : Outcome) → (forced_by m (installed_state x t) (log.Commit t [] ∷ []) answer.Installed (Some (message.Ack t m coord)) o).state.up ≡ true →
          look (forced_by m (installed_state x t) (log.Commit t [] ∷ []) answer.Installed (Some (message.Ack t m coord)) o).state.engine.voted t ≡ None
      by Completes h = installs_here
      by (StopsAt call leaves) h = stopped_leaves (installed_state x t) call (batch_is_stable call leaves) (log.Commit t [] ∷ []) h
  decide_gone false e = subst (λ st. IsGoneAt t (abort_by x t st).state) (sym e) (λ up. without_here x.engine.voted t)

  timer_leaves : LeavesAt t x (member_timer x t).state
  timer_leaves = by (standing_of x t)
    where
      by : (st : Standing) → LeavesAt t x (timer_by x t st).state
      by IsActive up u n = without_there x.engine.voted t u n
      by IsVoted up u n = refl
      by IsInstalled up u n = refl
      by IsAbsent up u n = refl

-- ---- of a federation

pub record LeavesVotes (t m : ℕ) (s z : Federation) : Type 0 where
  pub up : (n : ℕ) → (z.member n).up ≡ true → (s.member n).up ≡ true
  pub same : (n u : ℕ) → (z.member n).up ≡ true → ((m ≡ n) × (t ≡ u) → ⊥) → look (z.member n).engine.voted u ≡ look (s.member n).engine.voted u

pub leaves_all : (t m : ℕ) (s : Federation) → LeavesVotes t m s s
leaves_all t m s = record { up = λ n h. h; same = λ n u h apart. refl }

pub leaves_on : (t m : ℕ) (s z w : Federation) → LeavesVotes t m s z → LeavesVotes t m z w → LeavesVotes t m s w
leaves_on t m s z w g k = record { up = λ n h. g.up n (k.up n h); same = λ n u h apart. k.same n u h apart ∙ g.same n u (k.up n h) apart }

member_leaves : (s : Federation) (t m : ℕ) (b : Bool) (did : MemberStep) → (s.member m).up ≡ b → LeavesAt t (s.member m) did.state → LeavesVotes t m s (up_member s m b did).state
member_leaves s t m false did e h = leaves_all t m s
member_leaves s t m true did e h = record { up = λ n. up n (m == n) refl; same = λ n u. same n u (m == n) refl }
  where
    up : (n : ℕ) (b : Bool) → (m == n) ≡ b → (if m == n then did.state else s.member n).up ≡ true → (s.member n).up ≡ true
    up n true q k = ap (λ i. (s.member i).up) (sym (eqb-true m n q)) ∙ e
    up n false q k = ap (λ c. (if c then did.state else s.member n).up) (sym q) ∙ k

    same : (n u : ℕ) (b : Bool) → (m == n) ≡ b → (if m == n then did.state else s.member n).up ≡ true → ((m ≡ n) × (t ≡ u) → ⊥) →
        look (if m == n then did.state else s.member n).engine.voted u ≡ look (s.member n).engine.voted u
    same n u true q k apart =
        ap (λ c. look (if c then did.state else s.member n).engine.voted u) q
        ∙ h (ap (λ c. (if c then did.state else s.member n).up) (sym q) ∙ k) u (λ same_txn. apart (eqb-true m n q, same_txn))
        ∙ ap (λ i. look (s.member i).engine.voted u) (eqb-true m n q)
    same n u false q k apart = ap (λ c. look (if c then did.state else s.member n).engine.voted u) q

pub hand_leaves : (s : Federation) (t m : ℕ) (commit : Bool) → LeavesVotes t m s (step s (happening.Hand t m commit)).state
hand_leaves s t m commit = member_leaves s t m (s.member m).up (member_decide m (s.member m) t (coord_of (s.member m) t) commit) refl (decide_leaves m (s.member m) t (coord_of (s.member m) t) commit)

timer_none : (x : MemberState) (t : ℕ) → look x.engine.voted t ≡ None → look (member_timer x t).state.engine.voted t ≡ None
timer_none x t none = by (standing_of x t)
  where
    by : (st : Standing) → look (timer_by x t st).state.engine.voted t ≡ None
    by IsActive = without_here x.engine.voted t
    by IsVoted = none
    by IsInstalled = none
    by IsAbsent = none

timer_none_at : (s : Federation) (t other : ℕ) → look (s.member other).engine.voted t ≡ None → look ((step s (happening.Line (event.Timer t (node.Member other)))).state.member other).engine.voted t ≡ None
timer_none_at s t other none = by (s.member other).up
  where
    by : (b : Bool) → look ((up_member s other b (member_timer (s.member other) t)).state.member other).engine.voted t ≡ None
    by false = none
    by true = ap (λ c. look (if c then (member_timer (s.member other) t).state else s.member other).engine.voted t) (eq-eqb other other refl) ∙ timer_none (s.member other) t none

-- the timer of a transaction that has not voted leaves all votes
pub timer_leaves_all : (s : Federation) (t m other : ℕ) → look (s.member other).engine.voted t ≡ None → LeavesVotes t m s (step s (happening.Line (event.Timer t (node.Member other)))).state
timer_leaves_all s t m other none = by (member_leaves s t other (s.member other).up (member_timer (s.member other) t) refl (timer_leaves other (s.member other) t 0))
  where
    z : Federation
    z = (step s (happening.Line (event.Timer t (node.Member other)))).state

    by : LeavesVotes t other s z → LeavesVotes t m s z
    by g = record { up = g.up; same = λ n u h apart. now n u h (other == n) refl (t == u) refl }
      where
        now : (n u : ℕ) → (z.member n).up ≡ true → (b : Bool) → (other == n) ≡ b → (c : Bool) → (t == u) ≡ c → look (z.member n).engine.voted u ≡ look (s.member n).engine.voted u
        now n u h false q c r = g.same n u h (λ p. eqb-false other n q p.0)
        now n u h true q false r = g.same n u h (λ p. eqb-false t u r p.1)
        now n u h true q true r =
            subst (λ i. look (z.member i).engine.voted u ≡ look (s.member i).engine.voted u) (eqb-true other n q)
            (subst (λ v. look (z.member other).engine.voted v ≡ look (s.member other).engine.voted v) (eqb-true t u r) (timer_none_at s t other none ∙ sym none))

-- who was handed a verdict where it was voted is in doubt no more
pub hand_gone : (s : Federation) (t m : ℕ) (commit : Bool) → standing_of (s.member m) t ≡ IsVoted → (s.member m).up ≡ true → IsGoneAt t ((step s (happening.Hand t m commit)).state.member m)
hand_gone s t m commit e up = by (s.member m).up up
  where
    did : MemberStep
    did = member_decide m (s.member m) t (coord_of (s.member m) t) commit

    by : (b : Bool) → b ≡ true → IsGoneAt t ((up_member s m b did).state.member m)
    by false h = not_up h
    by true h = subst (IsGoneAt t) (sym (ap (λ c. if c then did.state else s.member m) (eq-eqb m m refl))) (decide_gone m (s.member m) t (coord_of (s.member m) t) commit e)
