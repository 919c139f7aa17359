-- Which events give an answer of the voting rule, and which one to an operation.
use Rattle.std.proofs.Common.{◌≡◌, ℕ, Bool, true, false, ◌≤◌, if◌then◌else◌, List, Option, None, Some, refl, sym, ap, ◌∙◌}
use Rattle.co_base.specs.declared.node.Node.{Node}
use Rattle.co_base.specs.declared.node.Node.TheVariants as node
use Rattle.co_base.specs.declared.op.Op.{Op}
use Rattle.co_base.specs.declared.op.Op.TheVariants as op
use Rattle.co_message.specs.declared.answer.Answer.{Answer}
use Rattle.co_message.specs.declared.answer.Answer.TheVariants as answer
use Rattle.co_message.specs.declared.event.Event.{Event}
use Rattle.co_message.specs.declared.event.Event.TheVariants as event
use Rattle.co_message.specs.declared.message.Message.TheVariants as message
use Rattle.co_state.specs.declared.verdict.Verdict.TheVariants.{StaleRead, HeldBy}
use Rattle.co_state.specs.Table.{look}
use Rattle.co_plain.specs.declared.member_step.MemberStep.{MemberStep}
use Rattle.co_plain.specs.declared.member_state.AskedMark.{AskedMark}
use Rattle.co_plain.specs.declared.member_state.MemberState.{MemberState}
use Rattle.co_plain.specs.declared.session.Session.{Session}
use Rattle.co_plain.specs.Numbers.{counted}
use Rattle.co_plain.specs.Federation.{Federation, answers, at_member, message_list}
use Rattle.co_plain.specs.Member.{member_op, member_prepare, member_vote}
use Rattle.co_plain.specs.LocalCommit.{member_local_commit}
use Rattle.co_plain.specs.Coordinator.{coord_commit}
use Rattle.co_plain.specs.Sessions.{Refuses, Grants, leave_to_visit, leave_to_end, unless_asked, may_visit, parts_of, count_at}
use Rattle.co_plain.specs.Step.{up_member, operated, operate_with, reply_in, entered, coord_answers, local_answers, commit_at, commit_with, arrives, step_line}
use Rattle.co_plain.specs.Wire.{was_sent}
use Rattle.co_law_node.specs.Causes.{Exactly}
use Rattle.co_law_exact.specs.Events.{answer_in, AnswersWith, AsksAtHome, AsksTheRule, Finds, FindsLost, VoteAnswersAreExact, ComesToRow, Operates, IsGone, IsFull, IsBlocked, IsDone, OperationAnswersAreExact}
use Rattle.co_law_exact.specs.Votes.{MayVote, MayVoteAgain}
use Rattle.co_law_exact.proofs.Ballots.{held_exact, no_exact}
use Rattle.co_law_exact.proofs.Alone.{held_alone, blocked_alone}
use Rattle.co_law_exact.proofs.CoordTells as coords
use Rattle.co_law_exact.proofs.LineTells.{items_answer, told_in, MayLack, line_lacks}
use Rattle.co_law_exact.proofs.Lost.{lost_prepare, lost_again, lost_alone}
use Rattle.co_law_exact.proofs.MemberTells.{is_told}
use Rattle.co_law_exact.proofs.Operations.{gone_exact, operations_exact}

clash : {A : Type 0} → false ≡ true → A
clash h = absurd (let z : false ≡ true = h in cc)

-- an answer that is looked for is no other one
unlike : {A : Type 0} (h b : Bool) (o : Option Answer) (a : Answer) → told_in h b o ≡ false → is_told h b a ≡ true → o ≡ Some a → A
unlike h b o a p q e = clash (sym p ∙ ap (told_in h b) e ∙ q)

abbrev answered : Answer → Option Answer → Answer
answered d None = d
answered d (Some a) = a

-- a step of a member answers what the member does
step_exact : (s : Federation) (m : ℕ) (did : MemberStep) (a : Answer) → Exactly (AnswersWith (at_member s m did) a) (did.answer ≡ a)
step_exact s m did a =
    let same = items_answer did.marks (message_list did.sent) did.answer in
    (λ h. ap (answered a) (sym same ∙ h), λ h. same ∙ ap Some h)

module _ (h b : Bool) (a : Answer) (looked : is_told h b a ≡ true) where
  -- where it is up
  up_exact : (s : Federation) (m : ℕ) (up : Bool) (did : MemberStep) (Q : Type 0) → Exactly (did.answer ≡ a) Q → Exactly (AnswersWith (up_member s m up did) a) ((up ≡ true) × Q)
  up_exact s m false did Q e = (unlike h b (Some (answer.Down (node.Member m))) a refl looked, λ p. clash p.0)
  up_exact s m true did Q e = let x = step_exact s m did a in (λ k. (refl, e.0 (x.0 k)), λ p. x.1 (e.1 p.1))

  another : (s : Federation) (e : Event) → MayLack false h b e → {A : Type 0} → AnswersWith (step_line s e) a → A
  another s e may k = unlike h b (answer_in (step_line s e).items) a (line_lacks false h b s e may).1 looked k

-- ---- an answer of the voting rule

-- what a member answers with it where it may ask the rule, and the rule finds the row
record IsOfRule (a : Answer) (row : MemberState → ℕ → ℕ → ℕ → Type 0) : Type 0 where
  looked : is_told true false a ≡ true
  prepare : (m : ℕ) (x : MemberState) (t d n : ℕ) → Exactly ((member_prepare m x t d n).answer ≡ a) (MayVote x t × row x t n n)
  again : (m : ℕ) (x : MemberState) (t : ℕ) → Exactly ((member_vote m x t).answer ≡ a) ((mark : AskedMark) × MayVoteAgain x t mark × row x t mark.count mark.count)
  alone : (m : ℕ) (x : MemberState) (t carried : ℕ) → Exactly ((member_local_commit m x t carried).answer ≡ a) ((1 ≤ carried) × row x t carried (counted carried))

module _ (s : Federation) (a : Answer) (row : MemberState → ℕ → ℕ → ℕ → Type 0) (of : IsOfRule a row) where
  other : {A : Type 0} (b : Answer) → is_told true false b ≡ false → Some b ≡ Some a → A
  other b e h = unlike true false (Some b) a e of.looked h

  rule_prepare : (t d m n : ℕ) → Exactly (AnswersWith (step_line s (event.Deliver (message.Prepare t d m n))) a) (AsksTheRule row s (event.Deliver (message.Prepare t d m n)))
  rule_prepare t d m n = by (was_sent s.sent (message.Prepare t d m n)) refl
    where
      arrived : Exactly (AnswersWith (arrives s (message.Prepare t d m n)) a) (((s.member m).up ≡ true) × (MayVote (s.member m) t × row (s.member m) t n n))
      arrived = up_exact true false a of.looked s m (s.member m).up (member_prepare m (s.member m) t d n) (MayVote (s.member m) t × row (s.member m) t n n) (of.prepare m (s.member m) t d n)

      by : (k : Bool) → was_sent s.sent (message.Prepare t d m n) ≡ k →
          Exactly (AnswersWith (if k then arrives s (message.Prepare t d m n) else answers s answer.Unsent) a) (AsksTheRule row s (event.Deliver (message.Prepare t d m n)))
      by true e = (λ h. let p = arrived.0 h in ((e, p.0), p.1.0, p.1.1), λ p. arrived.1 (p.0.1, (p.1, p.2)))
      by false e = (other answer.Unsent refl, λ p. clash (sym e ∙ p.0.0))

  rule_at : (t : ℕ) (session : Session) (at : Node) → Exactly (AnswersWith (commit_at s t session at) a) (AsksAtHome row s t session at)
  rule_at t session (node.Coord c) = (by (s.coord c).up, λ p. absurd p)
    where
      by : (up : Bool) → AnswersWith (coord_answers s t session c up (coord_commit c (s.coord c) t (parts_of session.told))) a → ⊥
      by true h =
          let did = coord_commit c (s.coord c) t (parts_of session.told) in
          other did.answer (coords.commit_lacks false true false c (s.coord c) t (parts_of session.told)).1 (sym (items_answer did.marks did.sent did.answer) ∙ h)
      by false h = other (answer.Down (node.Coord c)) refl h
  rule_at t session (node.Member m) = by (s.member m).up
    where
      by : (up : Bool) → Exactly (AnswersWith (local_answers s t session m up (member_local_commit m (s.member m) t (count_at session.told m))) a)
          ((up ≡ true) × (1 ≤ count_at session.told m) × row (s.member m) t (count_at session.told m) (counted (count_at session.told m)))
      by true =
          let x = step_exact s m (member_local_commit m (s.member m) t (count_at session.told m)) a in
          let e = of.alone m (s.member m) t (count_at session.told m) in
          (λ h. let p = e.0 (x.0 h) in (refl, p.0, p.1), λ p. x.1 (e.1 (p.1, p.2)))
      by false = (other (answer.Down (node.Member m)) refl, λ p. clash p.0)

  rule_commit : (t : ℕ) → Exactly (AnswersWith (step_line s (event.Commit t)) a) (AsksTheRule row s (event.Commit t))
  rule_commit t = (to (look s.sessions t) refl, from)
    where
      granted : (session : Session) → look s.sessions t ≡ Some session → (k : Bool) → session.asked ≡ k →
          AnswersWith (commit_with s t (if k then Refuses answer.Asked else Grants session)) a → AsksTheRule row s (event.Commit t)
      granted session e true q h = other answer.Asked refl h
      granted session e false q h = (session, e, q, (rule_at t session session.by).0 h)

      to : (o : Option Session) → look s.sessions t ≡ o → AnswersWith (commit_with s t (leave_to_end o)) a → AsksTheRule row s (event.Commit t)
      to None e h = other answer.NotBegun refl h
      to (Some session) e h = granted session e session.asked refl h

      from : AsksTheRule row s (event.Commit t) → AnswersWith (commit_with s t (leave_to_end (look s.sessions t))) a
      from p =
          ap (λ o. answer_in (commit_with s t (leave_to_end o)).items) p.1
          ∙ ap (λ k. answer_in (commit_with s t (if k then Refuses answer.Asked else Grants p.0)).items) p.2
          ∙ (rule_at t p.0 p.0.by).1 p.3

  unruled : (e : Event) → MayLack false true false e → {A : Type 0} → AnswersWith (step_line s e) a → A
  unruled e may h = another true false a of.looked s e may h

  rule_events : (e : Event) → Exactly (AnswersWith (step_line s e) a) (AsksTheRule row s e)
  rule_events (event.Deliver (message.Prepare t d m n)) = rule_prepare t d m n
  rule_events (event.Vote t m) =
      up_exact true false a of.looked s m (s.member m).up (member_vote m (s.member m) t)
      ((mark : AskedMark) × MayVoteAgain (s.member m) t mark × row (s.member m) t mark.count mark.count) (of.again m (s.member m) t)
  rule_events (event.Commit t) = rule_commit t
  rule_events (event.Deliver (message.Decide t d m k)) = (unruled (event.Deliver (message.Decide t d m k)) tt, λ p. absurd p)
  rule_events (event.Deliver (message.Vote t m d k)) = (unruled (event.Deliver (message.Vote t m d k)) tt, λ p. absurd p)
  rule_events (event.Deliver (message.Ask t m d)) = (unruled (event.Deliver (message.Ask t m d)) tt, λ p. absurd p)
  rule_events (event.Deliver (message.Ack t m d)) = (unruled (event.Deliver (message.Ack t m d)) tt, λ p. absurd p)
  rule_events (event.Begin t c) = (unruled (event.Begin t c) tt, λ p. absurd p)
  rule_events (event.Local t m) = (unruled (event.Local t m) tt, λ p. absurd p)
  rule_events (event.Read t m key) = (unruled (event.Read t m key) refl, λ p. absurd p)
  rule_events (event.Write t m key value) = (unruled (event.Write t m key value) refl, λ p. absurd p)
  rule_events (event.Erase t m key) = (unruled (event.Erase t m key) refl, λ p. absurd p)
  rule_events (event.Scan t m span) = (unruled (event.Scan t m span) refl, λ p. absurd p)
  rule_events (event.Abort t) = (unruled (event.Abort t) tt, λ p. absurd p)
  rule_events (event.Timer t at) = (unruled (event.Timer t at) tt, λ p. absurd p)
  rule_events (event.Ask t m) = (unruled (event.Ask t m) tt, λ p. absurd p)
  rule_events (event.Resend t c) = (unruled (event.Resend t c) tt, λ p. absurd p)
  rule_events (event.Crash at) = (unruled (event.Crash at) tt, λ p. absurd p)
  rule_events (event.Restart at) = (unruled (event.Restart at) tt, λ p. absurd p)
  rule_events (event.Arm at call leaves) = (unruled (event.Arm at call leaves) tt, λ p. absurd p)
  rule_events (event.Checkpoint at) = (unruled (event.Checkpoint at) tt, λ p. absurd p)

of_held : (u : ℕ) → IsOfRule (answer.Held u) (Finds (HeldBy u))
of_held u =
    record {
      looked = refl;
      prepare = λ m x t d n. (held_exact m x).prepare t d n u;
      again = λ m x t. (held_exact m x).again t u;
      alone = λ m x t carried. (held_exact m x).alone t carried u;
    }

of_stale : (key : List ℕ) → IsOfRule (answer.NoStale key) (Finds (StaleRead key))
of_stale key =
    record {
      looked = refl;
      prepare = λ m x t d n. (no_exact m x).stale t d n key;
      again = λ m x t. (no_exact m x).stale_again t key;
      alone = λ m x t carried. (no_exact m x).stale_alone t carried key;
    }

of_lost : (kept count : ℕ) → IsOfRule (answer.NoLost kept count) (FindsLost kept count)
of_lost kept count =
    record {
      looked = refl;
      prepare = λ m x t d n. lost_prepare m x t kept count d n;
      again = λ m x t. lost_again m x t kept count;
      alone = λ m x t carried. lost_alone m x t kept count carried;
    }

held_rule : (s : Federation) (u : ℕ) (e : Event) → Exactly (AnswersWith (step_line s e) (answer.Held u)) (AsksTheRule (Finds (HeldBy u)) s e)
held_rule s u e = rule_events s (answer.Held u) (Finds (HeldBy u)) (of_held u) e

pub vote_answers : (s : Federation) (e : Event) → VoteAnswersAreExact s e
vote_answers s e =
    record {
      held = λ u. held_rule s u e;
      held_alone = λ u h. held_alone s u e ((held_rule s u e).0 h);
      stale = λ key. rule_events s (answer.NoStale key) (Finds (StaleRead key)) (of_stale key) e;
      lost = λ kept count. rule_events s (answer.NoLost kept count) (FindsLost kept count) (of_lost kept count) e;
    }

-- ---- an answer to an operation

record IsOfOperation (a : Answer) (row : MemberState → ℕ → ℕ → Op → Type 0) : Type 0 where
  looked : is_told false true a ≡ true
  done : (x : MemberState) (t carried : ℕ) (o : Op) → Exactly ((member_op x t carried o).answer ≡ a) (row x t carried o)

module _ (s : Federation) (a : Answer) (row : MemberState → ℕ → ℕ → Op → Type 0) (of : IsOfOperation a row) where
  not_it : {A : Type 0} (b : Answer) → is_told false true b ≡ false → Some b ≡ Some a → A
  not_it b e h = unlike false true (Some b) a e of.looked h

  operation : (t m : ℕ) (o : Op) → Exactly (AnswersWith (operate_with s t m o (leave_to_visit (look s.sessions t) m)) a) (ComesToRow row s t m o)
  operation t m o = (to (look s.sessions t) refl, from)
    where
      done : (session : Session) (up : Bool) → Exactly (AnswersWith (operated s t session m o up (member_op (s.member m) t (count_at session.told m) o)) a) ((up ≡ true) × row (s.member m) t (count_at session.told m) o)
      done session true =
          let x = step_exact (entered s t session m o (reply_in (member_op (s.member m) t (count_at session.told m) o).answer)) m (member_op (s.member m) t (count_at session.told m) o) a in
          let e = of.done (s.member m) t (count_at session.told m) o in
          (λ h. (refl, e.0 (x.0 h)), λ p. x.1 (e.1 p.1))
      done session false = (not_it (answer.Down (node.Member m)) refl, λ p. clash p.0)

      granted : (session : Session) → look s.sessions t ≡ Some session → may_visit session.by m ≡ true → (k : Bool) → session.asked ≡ k →
          AnswersWith (operate_with s t m o (if k then Refuses answer.Asked else Grants session)) a → ComesToRow row s t m o
      granted session e v true q h = not_it answer.Asked refl h
      granted session e v false q h = let p = (done session (s.member m).up).0 h in (session, (e, v, q, p.0), p.1)

      visits : (session : Session) → look s.sessions t ≡ Some session → (k : Bool) → may_visit session.by m ≡ k →
          AnswersWith (operate_with s t m o (if k then unless_asked session else Refuses answer.NotBegun)) a → ComesToRow row s t m o
      visits session e true v h = granted session e v session.asked refl h
      visits session e false v h = not_it answer.NotBegun refl h

      to : (z : Option Session) → look s.sessions t ≡ z → AnswersWith (operate_with s t m o (leave_to_visit z m)) a → ComesToRow row s t m o
      to None e h = not_it answer.NotBegun refl h
      to (Some session) e h = visits session e (may_visit session.by m) refl h

      from : ComesToRow row s t m o → AnswersWith (operate_with s t m o (leave_to_visit (look s.sessions t) m)) a
      from p =
          ap (λ z. answer_in (operate_with s t m o (leave_to_visit z m)).items) p.1.0
          ∙ ap (λ k. answer_in (operate_with s t m o (if k then unless_asked p.0 else Refuses answer.NotBegun)).items) p.1.1
          ∙ ap (λ k. answer_in (operate_with s t m o (if k then Refuses answer.Asked else Grants p.0)).items) p.1.2
          ∙ (done p.0 (s.member m).up).1 (p.1.3, p.2)

  no_operation : (e : Event) → MayLack false false true e → {A : Type 0} → AnswersWith (step_line s e) a → A
  no_operation e may h = another false true a of.looked s e may h

  operation_events : (e : Event) → Exactly (AnswersWith (step_line s e) a) (Operates row s e)
  operation_events (event.Read t m key) = operation t m (op.Read key)
  operation_events (event.Write t m key value) = operation t m (op.Write key value)
  operation_events (event.Erase t m key) = operation t m (op.Erase key)
  operation_events (event.Scan t m span) = operation t m (op.Scan span)
  operation_events (event.Commit t) = (no_operation (event.Commit t) refl, λ p. absurd p)
  operation_events (event.Deliver (message.Prepare t d m n)) = (no_operation (event.Deliver (message.Prepare t d m n)) (refl, refl), λ p. absurd p)
  operation_events (event.Vote t m) = (no_operation (event.Vote t m) (refl, refl), λ p. absurd p)
  operation_events (event.Deliver (message.Decide t d m k)) = (no_operation (event.Deliver (message.Decide t d m k)) tt, λ p. absurd p)
  operation_events (event.Deliver (message.Vote t m d k)) = (no_operation (event.Deliver (message.Vote t m d k)) tt, λ p. absurd p)
  operation_events (event.Deliver (message.Ask t m d)) = (no_operation (event.Deliver (message.Ask t m d)) tt, λ p. absurd p)
  operation_events (event.Deliver (message.Ack t m d)) = (no_operation (event.Deliver (message.Ack t m d)) tt, λ p. absurd p)
  operation_events (event.Begin t c) = (no_operation (event.Begin t c) tt, λ p. absurd p)
  operation_events (event.Local t m) = (no_operation (event.Local t m) tt, λ p. absurd p)
  operation_events (event.Abort t) = (no_operation (event.Abort t) tt, λ p. absurd p)
  operation_events (event.Timer t at) = (no_operation (event.Timer t at) tt, λ p. absurd p)
  operation_events (event.Ask t m) = (no_operation (event.Ask t m) tt, λ p. absurd p)
  operation_events (event.Resend t c) = (no_operation (event.Resend t c) tt, λ p. absurd p)
  operation_events (event.Crash at) = (no_operation (event.Crash at) tt, λ p. absurd p)
  operation_events (event.Restart at) = (no_operation (event.Restart at) tt, λ p. absurd p)
  operation_events (event.Arm at call leaves) = (no_operation (event.Arm at call leaves) tt, λ p. absurd p)
  operation_events (event.Checkpoint at) = (no_operation (event.Checkpoint at) tt, λ p. absurd p)

blocked_rule : (s : Federation) (u : ℕ) (e : Event) → Exactly (AnswersWith (step_line s e) (answer.Blocked u)) (Operates (IsBlocked u) s e)
blocked_rule s u e = operation_events s (answer.Blocked u) (IsBlocked u) (record { looked = refl; done = λ x t carried o. (operations_exact x).blocked t carried u o }) e

pub operation_answers : (s : Federation) (e : Event) → OperationAnswersAreExact s e
operation_answers s e =
    record {
      gone = λ kept count. operation_events s (answer.Gone kept count) (IsGone kept count) (record { looked = refl; done = λ x t carried o. gone_exact x t carried o kept count }) e;
      full = operation_events s answer.TooMany IsFull (record { looked = refl; done = λ x t carried o. (operations_exact x).too_many t carried o }) e;
      blocked = λ u. blocked_rule s u e;
      blocked_alone = λ u h. blocked_alone s u e ((blocked_rule s u e).0 h);
      replied = λ reply. operation_events s (answer.Replied reply) (IsDone reply) (record { looked = refl; done = λ x t carried o. (operations_exact x).replied t carried o reply }) e;
    }
