-- What a client does with a local transaction is its list of moves.
use Rattle.std.proofs.Common.{◌≡◌, ℕ, Bool, true, false, not, ◌==◌, ◌≤◌, if◌then◌else◌, List, [], ◌∷◌, ◌++◌, None, Some, refl, sym, ap, ◌∙◌, subst, arith}
use Rattle.std.proofs.lemmas.Bool.{eq-eqb}
use Rattle.std.proofs.lemmas.Bool.Decides.{nat_tests}
use Rattle.co_base.specs.declared.node.Node.TheVariants as node
use Rattle.co_message.specs.declared.answer.Answer.TheVariants as answer
use Rattle.co_record.specs.declared.record.Record.{Record}
use Rattle.co_record.specs.declared.record.Record.TheVariants as log
use Rattle.co_frame.specs.Gate.{batch_is_stable}
use Rattle.co_state.specs.declared.verdict.Verdict.{Verdict}
use Rattle.co_state.specs.declared.verdict.Verdict.TheVariants.{LostOperations, StaleRead, HeldBy, VoteYes}
use Rattle.co_state.specs.Table.{look, holds, put}
use Rattle.co_state.specs.Effects.{after_cast}
use Rattle.co_state.specs.VotingRule.{vote_of}
use Rattle.co_state.specs.Changes.{sets_of}
use Rattle.co_state.specs.EngineState.{operations_of}
use Rattle.co_plain.specs.declared.member_state.MemberState.{MemberState}
use Rattle.co_plain.specs.declared.outcome.Outcome.{Outcome}
use Rattle.co_plain.specs.declared.outcome.Outcome.TheVariants.{Completes, StopsAt}
use Rattle.co_plain.specs.declared.session.Session.{Session}
use Rattle.co_plain.specs.declared.standing.Standing.{Standing}
use Rattle.co_plain.specs.declared.standing.Standing.TheVariants.{IsActive, IsVoted, IsInstalled, IsAbsent}
use Rattle.co_plain.specs.Numbers.{counted}
use Rattle.co_plain.specs.LogWrite.{marks_of, outcome_of, with_batch}
use Rattle.co_plain.specs.MemberStep.{says, standing_of, dropped, member_down, member_down_with, stopped_member, forced_by}
use Rattle.co_plain.specs.LocalCommit.{local_coord, local_commit_by, member_local_commit, local_abort_by}
use Rattle.co_plain.specs.Sessions.{count_at, asked_to_end}
use Rattle.co_base.specs.Nodes.{same_node}
use Rattle.co_plain.specs.Federation.{Federation, with_session, with_member, at_member, noted, decide_all, decided_where}
use Rattle.co_plain.specs.Step.{marked_asked, is_held}
use Rattle.co_plain.specs.Decisions.{told_of, told_in, asked_in}
use Rattle.co_plain.specs.Moves.{Move, CommitLocally, CrashMember, AskEnd, DropActive, Guard, effect, marked_over, with_decision, local_state, session_by_member}
use Rattle.co_plain.specs.Member.{prepare_record, voted_state, installed_state}
use Rattle.co_plain.specs.declared.session.Decided.{Decided}
use Rattle.co_law_base.proofs.Lookups.{put_here}
use Rattle.co_law_moves.proofs.Standings.{active_is, install_kind}
use Rattle.co_law_moves.specs.EventMoves.{drop_moves, local_decision_moves, local_verdict_moves, local_commit_moves, local_abort_moves}
use Rattle.co_law_moves.proofs.Made.{MadeOver, no_move, one_more, made_to, made_from, member_first, member_still, crash_made}
use Rattle.co_law_moves.proofs.MemberMade.{absent_same}
use Rattle.co_law_moves.proofs.ClientMade.{ask_first}
use Rattle.co_law_moves.specs.OwnGuards.{Logs}
use Rattle.co_law_moves.proofs.FactsOver.{FactsOver, waiting_quiet, asks_over, local_unvoted}
use Rattle.co_law_moves.proofs.Marks.{AllQuiet, commit_marks}

-- the member after its own decision, and its records
abbrev pub decided_alone : MemberState → ℕ → ℕ → MemberState
decided_alone x t n = installed_state (voted_state x t local_coord (counted n)) t

abbrev pub batch_alone : MemberState → ℕ → ℕ → List Record
batch_alone x t n = log.Commit t [] ∷ prepare_record t local_coord (counted n) (sets_of (operations_of x.engine t)) ∷ []

-- its commit record decides it
pub decides_alone : (s : Federation) (t m : ℕ) (session : Session) → session.by ≡ node.Member m → AllQuiet (put s.sessions t (asked_to_end session)) (node.Member m) (s.member m).log.waiting →
    decide_all (put s.sessions t (asked_to_end session)) s.decided (marks_of (node.Member m) (batch_alone (s.member m) t (count_at session.told m) ++ (s.member m).log.waiting)) ≡ record { txn = t; told = told_of (with_session s t (asked_to_end session)) t } ∷ s.decided
decides_alone s t m session mine quiet =
    commit_marks (put s.sessions t (asked_to_end session)) (node.Member m) s.decided t []
    (prepare_record t local_coord (counted (count_at session.told m)) (sets_of (operations_of (s.member m).engine t)) ∷ (s.member m).log.waiting)
    (tt, quiet)
    ∙ decides_it s.decided
  where
    decides_it : (ds : List Decided) → decided_where (look (put s.sessions t (asked_to_end session)) t) (node.Member m) t ds ≡ record { txn = t; told = told_of (with_session s t (asked_to_end session)) t } ∷ ds
    decides_it ds =
        subst (λ o. decided_where o (node.Member m) t ds ≡ record { txn = t; told = told_in o } ∷ ds) (sym (put_here s.sessions t (asked_to_end session)))
        (ap (λ b. if b then record { txn = t; told = session.told } ∷ ds else ds) (ap (λ k. same_node k (node.Member m)) mine ∙ eq-eqb m m refl))

positive : (n : ℕ) → (n == 0) ≡ false → 1 ≤ n
positive n h = grind (arith, nat_tests, h)

module _ (l : Logs) (s : Federation) (f : FactsOver l s) (t m : ℕ) (session : Session) (e : look s.sessions t ≡ Some session) (mine : session.by ≡ node.Member m) (unasked : session.asked ≡ false) where
  abbrev s1 : Federation
  s1 = with_session s t (asked_to_end session)

  f1 : FactsOver l (with_session s t (asked_to_end session))
  f1 = asks_over l s f t session e

  still1 : MadeOver l s (AskEnd t ∷ []) (with_member (with_session s t (asked_to_end session)) m (s.member m))
  still1 = ask_first l s t session e [] (with_member (with_session s t (asked_to_end session)) m (s.member m)) (member_still l (with_session s t (asked_to_end session)) m)

  -- what is there is dropped
  drops : MadeOver l s (AskEnd t ∷ drop_moves (holds (s.member m).engine.active t) t m) (with_member (with_session s t (asked_to_end session)) m (dropped (s.member m) t))
  drops = ask_first l s t session e (drop_moves (holds (s.member m).engine.active t) t m) (with_member (with_session s t (asked_to_end session)) m (dropped (s.member m) t)) (by (holds (s.member m).engine.active t) refl)
    where
      by : (b : Bool) → holds (s.member m).engine.active t ≡ b → MadeOver l (with_session s t (asked_to_end session)) (drop_moves b t m) (with_member (with_session s t (asked_to_end session)) m (dropped (s.member m) t))
      by true a = record { same = refl; guards = (a, tt) }
      by false a =
          made_to l (with_session s t (asked_to_end session)) [] (with_member (with_session s t (asked_to_end session)) m (s.member m)) (with_member (with_session s t (asked_to_end session)) m (dropped (s.member m) t))
          (λ i. with_member (with_session s t (asked_to_end session)) m (sym (absent_same l (with_session s t (asked_to_end session)) m f1 t (local_unvoted l s f t m session e mine) a) i))
          (member_still l (with_session s t (asked_to_end session)) m)

  pub local_abort_made : (st : Standing) → standing_of (s.member m) t ≡ st →
      MadeOver l s (local_abort_moves t m st) (at_member (marked_asked s t session (not (is_held (local_abort_by (s.member m) t st).answer))) m (local_abort_by (s.member m) t st)).state
  local_abort_made IsActive i =
      let a : holds (s.member m).engine.active t ≡ true = active_is _ _ _ i in
      ask_first l s t session e (DropActive t m ∷ []) (with_member (with_session s t (asked_to_end session)) m (dropped (s.member m) t)) (record { same = refl; guards = (a, tt) })
  local_abort_made IsVoted i = still1
  local_abort_made IsInstalled i = still1
  local_abort_made IsAbsent i = still1

  abbrev local : Federation
  local = with_decision (with_member (with_session s t (asked_to_end session)) m (local_state (s.member m) t (count_at session.told m))) t

  guarded : 1 ≤ count_at session.told m → vote_of (s.member m).engine t (count_at session.told m) ≡ VoteYes → Guard s (CommitLocally t m)
  guarded n v = (
    subst (λ o. session_by_member o m) (sym e) mine,
    ap asked_in e ∙ unasked,
    subst (λ ts. 1 ≤ count_at ts m) (sym (ap told_in e)) n,
    subst (λ ts. vote_of (s.member m).engine t (count_at ts m) ≡ VoteYes) (sym (ap told_in e)) v,
  )

  does : effect s (CommitLocally t m) ≡ with_decision (with_member (with_session s t (asked_to_end session)) m (local_state (s.member m) t (count_at session.told m))) t
  does = ap (λ o. with_decision (with_member (marked_over s t o) m (local_state (s.member m) t (count_at (told_in o) m))) t) e

  decides : 1 ≤ count_at session.told m → vote_of (s.member m).engine t (count_at session.told m) ≡ VoteYes → (moves : List Move) (z : Federation) → MadeOver l local moves z → MadeOver l s (CommitLocally t m ∷ moves) z
  decides n v moves z r = one_more l s z (CommitLocally t m) moves (guarded n v) (made_from l (effect s (CommitLocally t m)) local moves z does r)

  abbrev next : MemberState
  next = decided_alone (s.member m) t (count_at session.told m)

  marks_decide : decide_all (put s.sessions t (asked_to_end session)) s.decided (marks_of (node.Member m) (batch_alone (s.member m) t (count_at session.told m) ++ (s.member m).log.waiting)) ≡ record { txn = t; told = told_of (with_session s t (asked_to_end session)) t } ∷ s.decided
  marks_decide = decides_alone s t m session mine (waiting_quiet l s f m (put s.sessions t (asked_to_end session)))

  forced_made : 1 ≤ count_at session.told m → vote_of (s.member m).engine t (count_at session.told m) ≡ VoteYes → (o : Outcome) →
      MadeOver l s (local_decision_moves t m o) (at_member (marked_asked s t session (not (is_held (forced_by m (decided_alone (s.member m) t (count_at session.told m)) (batch_alone (s.member m) t (count_at session.told m)) answer.Committed None o).answer))) m (forced_by m (decided_alone (s.member m) t (count_at session.told m)) (batch_alone (s.member m) t (count_at session.told m)) answer.Committed None o)).state
  forced_made n v Completes =
      let z = (at_member (with_session s t (asked_to_end session)) m (forced_by m (decided_alone (s.member m) t (count_at session.told m)) (batch_alone (s.member m) t (count_at session.told m)) answer.Committed None Completes)).state in
      decides n v [] z (made_to l local [] local z (λ i. record local { decided = sym (marks_decide) i }) (no_move l local))
  forced_made n v (StopsAt call leaves) = by (batch_is_stable call leaves)
    where
      by : (b : Bool) → MadeOver l s (if b then CommitLocally t m ∷ CrashMember m ∷ [] else AskEnd t ∷ CrashMember m ∷ [])
          (at_member (marked_asked s t session (not (is_held (stopped_member m (decided_alone (s.member m) t (count_at session.told m)) call b (batch_alone (s.member m) t (count_at session.told m))).answer))) m (stopped_member m (decided_alone (s.member m) t (count_at session.told m)) call b (batch_alone (s.member m) t (count_at session.told m)))).state
      by true =
          let z = (at_member (with_session s t (asked_to_end session)) m (stopped_member m (decided_alone (s.member m) t (count_at session.told m)) call true (batch_alone (s.member m) t (count_at session.told m)))).state in
          let down = member_down (decided_alone (s.member m) t (count_at session.told m)) (with_batch (s.member m).log (batch_alone (s.member m) t (count_at session.told m))) in
          decides n v (CrashMember m ∷ []) z
          (made_to l local (CrashMember m ∷ []) (noted (with_member (with_decision (with_session s t (asked_to_end session)) t) m down) [] []) z
          (λ i. record (noted (with_member (with_decision (with_session s t (asked_to_end session)) t) m down) [] []) { decided = sym (marks_decide) i })
          (crash_made l (with_decision (with_session s t (asked_to_end session)) t) m (local_state (s.member m) t (count_at session.told m)) [] refl))
      by false =
          let z = (at_member (with_session s t (asked_to_end session)) m (stopped_member m (decided_alone (s.member m) t (count_at session.told m)) call false (batch_alone (s.member m) t (count_at session.told m)))).state in
          ask_first l s t session e (CrashMember m ∷ []) z
          (made_to l (with_session s t (asked_to_end session)) (CrashMember m ∷ []) (noted (with_member (with_session s t (asked_to_end session)) m (member_down (s.member m) (s.member m).log)) [] []) z
          (ap (λ k. noted (with_member (with_session s t (asked_to_end session)) m (member_down_with k (s.member m).log)) [] [])
          (sym (install_kind (after_cast (s.member m).engine t local_coord (counted (count_at session.told m))) t (look (after_cast (s.member m).engine t local_coord (counted (count_at session.told m))).voted t))))
          (member_first l (with_session s t (asked_to_end session)) m (CrashMember m ∷ []) (noted (with_member (with_session s t (asked_to_end session)) m (member_down (s.member m) (s.member m).log)) [] [])
          (crash_made l (with_session s t (asked_to_end session)) m (s.member m) [] refl)))

  by_verdict : 1 ≤ count_at session.told m → (v : Verdict) → vote_of (s.member m).engine t (count_at session.told m) ≡ v →
      MadeOver l s (local_verdict_moves (s.member m) t m v) (at_member (marked_asked s t session (not (is_held (local_commit_by m (s.member m) t (count_at session.told m) v).answer))) m (local_commit_by m (s.member m) t (count_at session.told m) v)).state
  by_verdict n LostOperations v = drops
  by_verdict n (StaleRead key) v = drops
  by_verdict n (HeldBy u) v = member_still l s m
  by_verdict n VoteYes v = forced_made n v (outcome_of (s.member m).log.armed 4)

  by_count : (b : Bool) → (count_at session.told m == 0) ≡ b →
      MadeOver l s (if b then AskEnd t ∷ [] else local_verdict_moves (s.member m) t m (vote_of (s.member m).engine t (count_at session.told m)))
      (at_member (marked_asked s t session (not (is_held (if b then says (s.member m) answer.Absent else local_commit_by m (s.member m) t (count_at session.told m) (vote_of (s.member m).engine t (count_at session.told m))).answer))) m
      (if b then says (s.member m) answer.Absent else local_commit_by m (s.member m) t (count_at session.told m) (vote_of (s.member m).engine t (count_at session.told m)))).state
  by_count true z = still1
  by_count false z = by_verdict (positive (count_at session.told m) z) (vote_of (s.member m).engine t (count_at session.told m)) refl

  pub local_commit_made : MadeOver l s (local_commit_moves (s.member m) t m (count_at session.told m)) (at_member (marked_asked s t session (not (is_held (member_local_commit m (s.member m) t (count_at session.told m)).answer))) m (member_local_commit m (s.member m) t (count_at session.told m))).state
  local_commit_made = by_count (count_at session.told m == 0) refl
