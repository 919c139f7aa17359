-- Each event of a member is its list of moves.
use Rattle.std.proofs.Common.{◌≡◌, ◌⊎◌, inl, inr, ℕ, Bool, true, false, List, [], ◌∷◌, ◌++◌, Option, None, Some, refl, sym, ap, ◌∙◌, subst}
use Rattle.std.proofs.lemmas.Bool.{eq-eqb, false_from_ne_true}
use Rattle.co_base.specs.declared.node.Node.TheVariants as node
use Rattle.co_message.specs.declared.answer.Answer.{Answer}
use Rattle.co_message.specs.declared.answer.Answer.TheVariants as answer
use Rattle.co_plain.specs.Moves.{cast_state, install_state, Move, MarkAsked, Cast, DropActive, DropVoted, Install, CrashMember, RestartMember, ArmMember, CloseMemberSpare, FillMemberSpare}
use Rattle.co_message.specs.declared.message.Message.{Message}
use Rattle.co_message.specs.declared.message.Message.TheVariants as message
use Rattle.co_record.specs.declared.record.Record.{Record}
use Rattle.co_record.specs.declared.record.Record.TheVariants as log
use Rattle.co_serial.specs.SerialRun.{with_at}
use Rattle.co_state.specs.declared.verdict.Verdict.{Verdict}
use Rattle.co_state.specs.declared.verdict.Verdict.TheVariants.{LostOperations, StaleRead, HeldBy, VoteYes}
use Rattle.co_state.specs.Table.{look, holds}
use Rattle.co_state.specs.Changes.{sets_of}
use Rattle.co_state.specs.EngineState.{operations_of}
use Rattle.co_state.specs.VotingRule.{vote_of}
use Rattle.co_base.specs.declared.leaves.Stop.{Stop}
use Rattle.co_plain.specs.declared.member_state.AskedMark.{AskedMark}
use Rattle.co_plain.specs.declared.member_state.MemberState.{MemberState}
use Rattle.co_plain.specs.declared.outcome.Outcome.{Outcome}
use Rattle.co_plain.specs.declared.outcome.Outcome.TheVariants.{Completes, StopsAt}
use Rattle.co_plain.specs.declared.standing.Standing.{Standing}
use Rattle.co_plain.specs.declared.standing.Standing.TheVariants.{IsActive, IsVoted, IsInstalled, IsAbsent}
use Rattle.co_plain.specs.Numbers.{next_generation}
use Rattle.co_plain.specs.LogWrite.{checkpoint_marks, marks_of, outcome_of, with_batch, with_filled_spare, with_spare, with_stop, with_waiting, generation_of}
use Rattle.co_frame.specs.Gate.{batch_is_stable, closes_spare}
use Rattle.co_plain.specs.MemberStep.{says, standing_of, with_log, dropped, member_down, member_down_with, stopped_member, forced_by}
use Rattle.co_plain.specs.Member.{prepare_record, voted_state, vote_by, coord_of, with_mark, prepare_by, vote_where_asked, vote_again_by, installed_state, commit_by, abort_by, timer_by, ask_by}
use Rattle.co_plain.specs.MemberLog.{stopped_fill, fill_by, close_by, checkpoint_by, member_spare, restart_by}
use Rattle.co_plain.specs.Wire.{was_sent}
use Rattle.co_plain.specs.Federation.{Federation, with_member, at_member, noted, message_list}
use Rattle.co_plain.specs.Decisions.{votes_for, IsPresumedAborted}
use Rattle.co_plain.specs.Invariants.{Memory, Stable, view}
use Rattle.co_law_engine.proofs.YesTells.{in_some}
use Rattle.co_law_base.proofs.Lookups.{holds_found, put_here}
use Rattle.co_law_base.proofs.Commits.{holds_new}
use Rattle.co_law_base.proofs.Facts.{rest_of, settled, alive, belongs, Facts}
use Rattle.co_law_base.proofs.Carrying.{at_here}
use Rattle.co_law_base.proofs.TwoViews.{committed_both}
use Rattle.co_law_base.proofs.LogMoves.{without_absent, not_held}
use Rattle.co_law_moves.proofs.Marks.{AllQuiet, quiet_marks}
use Rattle.co_law_moves.proofs.Standings.{active_is, voted_is, installed_is, absent_is, votes_own, install_kind}
use Rattle.co_law_moves.specs.EventMoves.{sends, written_moves, stopped_moves, drop_moves, vote_moves, prepare_moves, asked_moves, again_moves, commit_moves, abort_moves, timer_moves, question_moves, closing_moves, member_checkpoint_moves, restart_moves}
use Rattle.co_law_moves.proofs.KeptFrom.{settled_is, dead_is}
use Rattle.co_law_moves.proofs.Made.{where_map, AllowedOver, AllAllowedOver, MadeOver, no_move, made_to, member_first, member_still, member_then, sends_made, crash_made}
use Rattle.co_law_moves.specs.OwnGuards.{Logs, Where}
use Rattle.co_law_moves.proofs.FactsOver.{FactsOver, where_sound, marked_over', waiting_quiet, vote_quiet}

-- the messages of a step that sends at most one
one_allowed : (l : Logs) (z : Federation) (note : Option Message) → ((k : Message) → note ≡ Some k → AllowedOver l z k) → AllAllowedOver l z (message_list note)
one_allowed l z None g = tt
one_allowed l z (Some k) g = (g k refl, tt)

only : (l : Logs) (z : Federation) (note : Message) → AllowedOver l z note → (k : Message) → Some note ≡ Some k → AllowedOver l z k
only l z note g k e = subst (AllowedOver l z) (in_some e) g

-- A forced batch: the move, or the move and a crash, or the crash alone.
abbrev pub Follows : Logs → Federation → ℕ → MemberState → MemberState → Move → Type 0
Follows l s m x next move = (moves : List Move) (z : Federation) → MadeOver l (with_member s m next) moves z → MadeOver l (with_member s m x) (move ∷ moves) z

pub forced_made : (l : Logs) (s : Federation) (m : ℕ) (x next : MemberState) (batch : List Record) (a : Answer) (note : Option Message) (move : Move) →
    Follows l s m x (with_log next (with_batch next.log batch)) move → member_down next next.log ≡ member_down x x.log →
    AllQuiet s.sessions (node.Member m) (batch ++ next.log.waiting) → ((k : Message) → note ≡ Some k → AllowedOver l (with_member s m (with_log next (with_batch next.log batch))) k) →
    (o : Outcome) → MadeOver l (with_member s m x) (written_moves move (CrashMember m) (sends (message_list note)) o) (at_member s m (forced_by m next batch a note o)).state
forced_made l s m x next batch a note move done same q g Completes =
    done (sends (message_list note)) (at_member s m (forced_by m next batch a note Completes)).state
    (sends_made l (with_member s m (with_log next (with_batch next.log batch))) (marks_of (node.Member m) (batch ++ next.log.waiting)) (message_list note)
    (quiet_marks s.sessions (node.Member m) s.decided (batch ++ next.log.waiting) q) (one_allowed l (with_member s m (with_log next (with_batch next.log batch))) note g))
forced_made l s m x next batch a note move done same q g (StopsAt call leaves) = by (batch_is_stable call leaves)
  where
    by : (b : Bool) → MadeOver l (with_member s m x) (stopped_moves move (CrashMember m) b) (at_member s m (stopped_member m next call b batch)).state
    by true =
        done (CrashMember m ∷ []) (at_member s m (stopped_member m next call true batch)).state
        (crash_made l s m (with_log next (with_batch next.log batch)) (marks_of (node.Member m) (batch ++ next.log.waiting)) (quiet_marks s.sessions (node.Member m) s.decided (batch ++ next.log.waiting) q))
    by false =
        made_to l (with_member s m x) (CrashMember m ∷ []) (noted (with_member s m (member_down x x.log)) [] []) (noted (with_member s m (member_down next next.log)) [] [])
        (λ i. noted (with_member s m (sym same i)) [] []) (crash_made l s m x [] refl)

-- what is active is dropped
drop_made : (l : Logs) (s : Federation) (m : ℕ) (x : MemberState) (t : ℕ) → (holds x.engine.active t ≡ false → dropped x t ≡ x) → (b : Bool) → holds x.engine.active t ≡ b →
    (moves : List Move) (z : Federation) → MadeOver l (with_member s m (dropped x t)) moves z → MadeOver l (with_member s m x) (drop_moves b t m ++ moves) z
drop_made l s m x t same true a moves z r =
    member_then l s m x (λ y. dropped y t) (DropActive t m) refl (subst (λ y. holds y.engine.active t ≡ true) (sym (at_here s.member m x)) a) moves z r
drop_made l s m x t same false a moves z r = subst (λ y. MadeOver l (with_member s m y) moves z) (same a) r

-- a vote, by its verdict
vote_made : (l : Logs) (s : Federation) (m : ℕ) (x : MemberState) (t c n : ℕ) → AllQuiet s.sessions (node.Member m) x.log.waiting → was_sent s.sent (message.Prepare t c m n) ≡ true →
    (holds x.engine.active t ≡ false → dropped x t ≡ x) → (v : Verdict) → vote_of x.engine t n ≡ v → MadeOver l (with_member s m x) (vote_moves x t m c n v) (at_member s m (vote_by m x t c n v)).state
vote_made l s m x t c n w p d LostOperations e =
    drop_made l s m x t d (holds x.engine.active t) refl (sends (message.Vote t m c false ∷ [])) (at_member s m (vote_by m x t c n LostOperations)).state
    (sends_made l (with_member s m (dropped x t)) [] (message.Vote t m c false ∷ []) refl ((n, p), tt))
vote_made l s m x t c n w p d (StaleRead key) e =
    drop_made l s m x t d (holds x.engine.active t) refl (sends (message.Vote t m c false ∷ [])) (at_member s m (vote_by m x t c n (StaleRead key))).state
    (sends_made l (with_member s m (dropped x t)) [] (message.Vote t m c false ∷ []) refl ((n, p), tt))
vote_made l s m x t c n w p d (HeldBy u) e = no_move l (with_member s m x)
vote_made l s m x t c n w p d VoteYes e =
    forced_made l s m x (voted_state x t c n) (prepare_record t c n (sets_of (operations_of x.engine t)) ∷ []) answer.Yes (Some (message.Vote t m c true)) (Cast t m c n)
    (member_then l s m x (λ y. cast_state y t c n) (Cast t m c n) refl (p, subst (λ y. vote_of y.engine t n ≡ VoteYes) (sym (at_here s.member m x)) e))
    refl (tt, w)
    (only l (with_member s m (cast_state x t c n)) (message.Vote t m c true) (subst (λ y. votes_for (look y.engine.voted t) c ≡ true) (sym (at_here s.member m (cast_state x t c n)))
    (ap (λ o. votes_for o c) (put_here x.engine.voted t (record { coord = c; count = n; sets = sets_of (operations_of x.engine t) })) ∙ eq-eqb c c refl)))
    (outcome_of x.log.armed 4)

module _ (l : Logs) (s : Federation) (m : ℕ) (f : FactsOver l s) where
  still : MadeOver l s [] (with_member s m (s.member m))
  still = member_still l s m

  w : AllQuiet s.sessions (node.Member m) (s.member m).log.waiting
  w = waiting_quiet l s f m s.sessions

  -- what is nowhere is dropped without a trace
  pub absent_same : (t : ℕ) → holds (s.member m).engine.voted t ≡ false → holds (s.member m).engine.active t ≡ false → dropped (s.member m) t ≡ s.member m
  absent_same t v a = λ i. record {
    up = (s.member m).up;
    engine = record (s.member m).engine { active = without_absent (s.member m).engine.active t (not_held (s.member m).engine.active t a) i; voted = without_absent (s.member m).engine.voted t (not_held (s.member m).engine.voted t v) i };
    committed = (s.member m).committed;
    asked = without_absent (s.member m).asked t unasked i;
    log = (s.member m).log;
  }
    where
      unasked : look (s.member m).asked t ≡ None
      unasked = not_held (s.member m).asked t (false_from_ne_true (holds (s.member m).asked t) (λ h.
          let p = holds_found (s.member m).asked t h in
          let z : true ≡ false = sym (marked_over' l s f m t p.0 p.1).0 ∙ a in cc))

  at_m : (P : MemberState → Type 0) → P (s.member m) → P (with_at s.member m (s.member m) m)
  at_m P h = subst P (sym (at_here s.member m (s.member m))) h

  -- a message of the member as it stands
  sends_here : (note : Message) (a : Answer) → AllowedOver l (with_member s m (s.member m)) note → MadeOver l s (sends (note ∷ [])) (at_member s m (record { state = s.member m; answer = a; sent = Some note; marks = [] })).state
  sends_here note a g = member_first l s m (sends (note ∷ [])) (at_member s m (record { state = s.member m; answer = a; sent = Some note; marks = [] })).state (sends_made l (with_member s m (s.member m)) [] (note ∷ []) refl (g, tt))

  drops_active : (t : ℕ) → holds (s.member m).engine.active t ≡ true → MadeOver l s (DropActive t m ∷ []) (with_member s m (dropped (s.member m) t))
  drops_active t a = record { same = refl; guards = (a, tt) }

  pub prepare_made : (t c n : ℕ) → was_sent s.sent (message.Prepare t c m n) ≡ true → (st : Standing) → standing_of (s.member m) t ≡ st →
      MadeOver l s (prepare_moves (s.member m) t m c n st) (at_member s m (prepare_by m (s.member m) t c n st)).state
  prepare_made t c n p IsActive e =
      let a : holds (s.member m).engine.active t ≡ true = active_is _ _ _ e in
      let z = (at_member s m (prepare_by m (s.member m) t c n IsActive)).state in
      let moves = vote_moves (s.member m) t m c n (vote_of (s.member m).engine t n) in
      member_first l s m (MarkAsked t m c n ∷ moves) z
      (member_then l s m (s.member m) (λ y. with_mark y t c n) (MarkAsked t m c n) refl (at_m (λ y. holds y.engine.active t ≡ true) a, p) moves z
      (vote_made l s m (with_mark (s.member m) t c n) t c n w p (λ k. absurd (let q : true ≡ false = sym a ∙ k in cc)) (vote_of (s.member m).engine t n) refl))
  prepare_made t c n p IsVoted e =
      let v : holds (s.member m).engine.voted t ≡ true = voted_is _ _ _ e in
      sends_here (message.Vote t m (coord_of (s.member m) t) true) answer.Voted (at_m (λ z. votes_for (look z.engine.voted t) (coord_of (s.member m) t) ≡ true) (votes_own s m t v))
  prepare_made t c n p IsInstalled e = still
  prepare_made t c n p IsAbsent e =
      let a = absent_is _ _ _ e in
      member_first l s m (vote_moves (s.member m) t m c n (vote_of (s.member m).engine t n)) (at_member s m (prepare_by m (s.member m) t c n IsAbsent)).state
      (vote_made l s m (s.member m) t c n w p (absent_same t a.1) (vote_of (s.member m).engine t n) refl)

  again_asked : (t : ℕ) → holds (s.member m).engine.active t ≡ true → (o : Option AskedMark) → look (s.member m).asked t ≡ o → MadeOver l s (asked_moves (s.member m) t m o) (at_member s m (vote_where_asked m (s.member m) t o)).state
  again_asked t a None e = still
  again_asked t a (Some mark) e =
      member_first l s m (vote_moves (s.member m) t m mark.coord mark.count (vote_of (s.member m).engine t mark.count)) (at_member s m (vote_where_asked m (s.member m) t (Some mark))).state
      (vote_made l s m (s.member m) t mark.coord mark.count w (marked_over' l s f m t mark e).1 (λ k. absurd (let q : true ≡ false = sym a ∙ k in cc)) (vote_of (s.member m).engine t mark.count) refl)

  pub again_made : (t : ℕ) (st : Standing) → standing_of (s.member m) t ≡ st → MadeOver l s (again_moves (s.member m) t m st) (at_member s m (vote_again_by m (s.member m) t st)).state
  again_made t IsActive e = again_asked t (active_is _ _ _ e) (look (s.member m).asked t) refl
  again_made t IsVoted e = still
  again_made t IsInstalled e = still
  again_made t IsAbsent e = still

  pub timer_made : (t : ℕ) (st : Standing) → standing_of (s.member m) t ≡ st → MadeOver l s (timer_moves t m st) (at_member s m (timer_by (s.member m) t st)).state
  timer_made t IsActive e = drops_active t (active_is _ _ _ e)
  timer_made t IsVoted e = still
  timer_made t IsInstalled e = still
  timer_made t IsAbsent e = still

  pub question_made : (t : ℕ) (st : Standing) → standing_of (s.member m) t ≡ st → MadeOver l s (question_moves (s.member m) t m st) (at_member s m (ask_by m (s.member m) t st)).state
  question_made t IsActive e = still
  question_made t IsVoted e =
      sends_here (message.Ask t m (coord_of (s.member m) t)) answer.Asking (at_m (λ z. votes_for (look z.engine.voted t) (coord_of (s.member m) t) ≡ true) (votes_own s m t (voted_is _ _ _ e)))
  question_made t IsInstalled e = still
  question_made t IsAbsent e = still

  pub commit_made : (t c : ℕ) → Where l (settled (rest_of s) t) → (st : Standing) → standing_of (s.member m) t ≡ st → MadeOver l s (commit_moves (s.member m) t m c st) (at_member s m (commit_by m (s.member m) t c st)).state
  commit_made t c d IsActive e = still
  commit_made t c d IsVoted e =
      let v : holds (s.member m).engine.voted t ≡ true = voted_is _ _ _ e in
      member_first l s m (commit_moves (s.member m) t m c IsVoted) (at_member s m (commit_by m (s.member m) t c IsVoted)).state
      (forced_made l s m (s.member m) (installed_state (s.member m) t) (log.Commit t [] ∷ []) answer.Installed (Some (message.Ack t m c)) (Install t m)
      (member_then l s m (s.member m) (λ y. install_state y t) (Install t m) refl (at_m (λ y. holds y.engine.voted t ≡ true) v, where_map l (settled_is (with_member s m (s.member m)) t) d))
      (ap (λ k. member_down_with k (s.member m).log) (install_kind (s.member m).engine t (look (s.member m).engine.voted t)))
      (vote_quiet l s f m t v, w)
      (only l (with_member s m (install_state (s.member m) t)) (message.Ack t m c) (subst (λ z. holds z.committed t ≡ true) (sym (at_here s.member m (install_state (s.member m) t))) (holds_new (s.member m).committed t)))
      (outcome_of (s.member m).log.armed 4))
  commit_made t c d IsInstalled e = sends_here (message.Ack t m c) answer.Already (at_m (λ z. holds z.committed t ≡ true) (installed_is _ _ _ e))
  commit_made t c d IsAbsent e = still

  drops_voted : (t c : ℕ) → holds (s.member m).engine.voted t ≡ true → Where l (IsPresumedAborted s t) → MadeOver l s (DropVoted t m ∷ []) (with_member s m (with_log (dropped (s.member m) t) (with_waiting (s.member m).log (log.Abort t))))
  drops_voted t c v d = record { same = refl; guards = ((v, d), tt) }

  -- who is voted and is told to abort is presumed aborted
  told_dead : (t c : ℕ) → Facts s → holds (s.member m).engine.voted t ≡ true →
      (belongs (rest_of s) t c × (alive (rest_of s) c t ≡ false)) ⊎ (holds (view Stable (s.member m)).committed t ≡ true) → IsPresumedAborted s t
  told_dead t c f v (inl d) = dead_is s t c d.0 d.1
  told_dead t c f v (inr h) =
      let k : holds (s.member m).committed t ≡ true = ap (λ n. holds n t) (committed_both (rest_of s) m (s.member m) (f.members m)) ∙ h in
      absurd (let z : true ≡ false = sym v ∙ ((f.members m).views Memory).apart t k in cc)

  pub abort_made : (t c : ℕ) → (Facts s → (belongs (rest_of s) t c × (alive (rest_of s) c t ≡ false)) ⊎ (holds (view Stable (s.member m)).committed t ≡ true)) → (st : Standing) → standing_of (s.member m) t ≡ st →
      MadeOver l s (abort_moves t m st) (at_member s m (abort_by (s.member m) t st)).state
  abort_made t c d IsActive e = drops_active t (active_is _ _ _ e)
  abort_made t c d IsVoted e =
      let v : holds (s.member m).engine.voted t ≡ true = voted_is _ _ _ e in
      drops_voted t c v (where_sound l s f (λ g. told_dead t c g v (d g)))
  abort_made t c d IsInstalled e = still
  abort_made t c d IsAbsent e = still

  pub handed_abort_made : (t : ℕ) → Where l (IsPresumedAborted s t) → (st : Standing) → standing_of (s.member m) t ≡ st → MadeOver l s (abort_moves t m st) (at_member s m (abort_by (s.member m) t st)).state
  handed_abort_made t d IsActive e = drops_active t (active_is _ _ _ e)
  handed_abort_made t d IsVoted e = drops_voted t 0 (voted_is _ _ _ e) d
  handed_abort_made t d IsInstalled e = still
  handed_abort_made t d IsAbsent e = still

  pub crash_event_made : MadeOver l s (CrashMember m ∷ []) (at_member s m (says (member_down (s.member m) (s.member m).log) answer.Crashed)).state
  crash_event_made = member_first l s m (CrashMember m ∷ []) (at_member s m (says (member_down (s.member m) (s.member m).log) answer.Crashed)).state (crash_made l s m (s.member m) [] refl)

  pub restart_made : (up : Bool) → MadeOver l s (restart_moves (RestartMember m) up) (at_member s m (restart_by (s.member m) up)).state
  restart_made true = still
  restart_made false =
      record { same = refl; guards = (tt, tt) }

  pub arm_made : (stop : Option Stop) → MadeOver l s (ArmMember m stop ∷ []) (with_member s m (with_log (s.member m) (with_stop (s.member m).log stop)))
  arm_made stop = record { same = refl; guards = (tt, tt) }

  close_made : (o : Outcome) → MadeOver l s (closing_moves (CloseMemberSpare m true) (CrashMember m) (CloseMemberSpare m) o) (at_member s m (close_by (s.member m) o)).state
  close_made Completes = record { same = refl; guards = (tt, tt) }
  close_made (StopsAt call leaves) =
      member_first l s m (CloseMemberSpare m (closes_spare leaves) ∷ CrashMember m ∷ []) (at_member s m (close_by (s.member m) (StopsAt call leaves))).state
      (member_then l s m (s.member m) (λ y. with_log y (with_spare y.log (closes_spare leaves))) (CloseMemberSpare m (closes_spare leaves)) refl tt (CrashMember m ∷ []) (at_member s m (close_by (s.member m) (StopsAt call leaves))).state
      (crash_made l s m (with_log (s.member m) (with_spare (s.member m).log (closes_spare leaves))) [] refl))

  abbrev generation : ℕ
  generation = next_generation (generation_of (s.member m).log.stable)

  abbrev filled : MemberState → MemberState
  filled y = with_log y (with_filled_spare y.log (member_spare m y (next_generation (generation_of y.log.stable))))

  fill_made : (o : Outcome) → MadeOver l s (written_moves (FillMemberSpare m) (CrashMember m) [] o) (at_member s m (fill_by m (s.member m) (next_generation (generation_of (s.member m).log.stable)) o)).state
  fill_made Completes = record { same = refl; guards = (tt, tt) }
  fill_made (StopsAt call leaves) = by (batch_is_stable call leaves)
    where
      by : (b : Bool) → MadeOver l s (stopped_moves (FillMemberSpare m) (CrashMember m) b) (at_member s m (stopped_fill m (s.member m) (next_generation (generation_of (s.member m).log.stable)) call b)).state
      by true =
          let z = (at_member s m (stopped_fill m (s.member m) (next_generation (generation_of (s.member m).log.stable)) call true)).state in
          member_first l s m (FillMemberSpare m ∷ CrashMember m ∷ []) z
          (member_then l s m (s.member m) filled (FillMemberSpare m) refl tt (CrashMember m ∷ []) z
          (crash_made l s m (filled (s.member m)) (checkpoint_marks (node.Member m) generation) refl))
      by false = member_first l s m (CrashMember m ∷ []) (at_member s m (stopped_fill m (s.member m) (next_generation (generation_of (s.member m).log.stable)) call false)).state (crash_made l s m (s.member m) [] refl)

  pub checkpoint_made : (closed : Bool) → MadeOver l s (member_checkpoint_moves (s.member m) m closed) (at_member s m (checkpoint_by m (s.member m) closed)).state
  checkpoint_made false = close_made (outcome_of (s.member m).log.armed 2)
  checkpoint_made true = fill_made (outcome_of (s.member m).log.armed 4)
