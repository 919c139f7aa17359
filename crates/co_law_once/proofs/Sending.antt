-- Which messages each event sends: of its own transaction alone, and of kinds that it may send.
use Rattle.std.proofs.Common.{◌≡◌, ℕ, Bool, true, false, not, ◌||◌, ◌&&◌, ◌==◌, List, [], ◌∷◌, ◌++◌, if◌then◌else◌, Option, None, Some, refl, ap, ◌∙◌}
use Rattle.std.proofs.lemmas.Bool.{eq-eqb}
use Rattle.co_base.specs.declared.node.Node.{Node}
use Rattle.co_base.specs.declared.node.Node.TheVariants as node
use Rattle.co_base.specs.declared.op.Op.{Op}
use Rattle.co_base.specs.declared.op.Op.TheVariants as op
use Rattle.co_base.specs.declared.part.Part.{Part}
use Rattle.co_base.specs.Limits.{most_operations}
use Rattle.co_frame.specs.Gate.{batch_is_stable}
use Rattle.co_message.specs.declared.event.Event.{Event}
use Rattle.co_message.specs.declared.event.Event.TheVariants as event
use Rattle.co_message.specs.declared.message.Message.{Message}
use Rattle.co_message.specs.declared.message.Message.TheVariants as message
use Rattle.co_state.specs.declared.verdict.Verdict.{Verdict}
use Rattle.co_state.specs.declared.verdict.Verdict.TheVariants.{LostOperations, StaleRead, HeldBy, VoteYes}
use Rattle.co_state.specs.LockRule.{lock_blocker}
use Rattle.co_state.specs.Table.{look, holds}
use Rattle.co_state.specs.VotingRule.{vote_of, kept_count}
use Rattle.co_plain.specs.declared.coord_state.CoordState.{CoordState}
use Rattle.co_plain.specs.declared.coord_state.Entry.{Entry}
use Rattle.co_plain.specs.declared.coord_state.Entry.TheVariants as entry
use Rattle.co_plain.specs.declared.happening.Happening.{Happening}
use Rattle.co_plain.specs.declared.happening.Happening.TheVariants as happening
use Rattle.co_plain.specs.declared.member_state.AskedMark.{AskedMark}
use Rattle.co_plain.specs.declared.member_state.MemberState.{MemberState}
use Rattle.co_plain.specs.declared.outcome.Outcome.{Outcome}
use Rattle.co_plain.specs.declared.outcome.Outcome.TheVariants.{Completes, StopsAt}
use Rattle.co_plain.specs.declared.session.Session.{Session}
use Rattle.co_plain.specs.declared.standing.Standing.{Standing}
use Rattle.co_plain.specs.declared.standing.Standing.TheVariants.{IsActive, IsVoted, IsInstalled, IsAbsent}
use Rattle.co_plain.specs.Coordinator.{prepares_to, decisions_to, parts_lacking}
use Rattle.co_plain.specs.CoordStep.{has_part, members_of}
use Rattle.co_plain.specs.Federation.{Federation}
use Rattle.co_plain.specs.LogWrite.{outcome_of}
use Rattle.co_plain.specs.Member.{coord_of}
use Rattle.co_plain.specs.MemberStep.{standing_of}
use Rattle.co_plain.specs.Moves.{Move, Cast, Install, CommitLocally, Decide, CrashMember, CrashCoord, CloseMemberSpare, CloseCoordSpare, FillMemberSpare, FillCoordSpare, RestartMember, RestartCoord, Begin, BeginLocal, AskEnd, Send}
use Rattle.co_plain.specs.Numbers.{first_lacking, has_number, numbers_lacking}
use Rattle.co_plain.specs.Sessions.{Leave, Refuses, Grants, leave_to_visit, leave_to_end, count_at, parts_of}
use Rattle.co_plain.specs.Step.{is_used}
use Rattle.co_plain.specs.Wire.{was_sent}
use Rattle.co_law_moves.specs.EventMoves.{sends, where_up, written_moves, stopped_moves, unless_lock, operation_moves, operate_with_moves, operate_moves, drop_moves, vote_moves, prepare_moves, asked_moves, again_moves, commit_moves, abort_moves, decision_moves, timer_moves, question_moves, closing_moves, member_checkpoint_moves, restart_moves, local_decision_moves, local_verdict_moves, local_commit_moves, local_abort_moves, decided_at_once, commit_entry_moves, leave_moves, abort_entry_moves, yes_counted_moves, yes_moves, no_moves, ask_moves, ack_counted_moves, ack_moves, coord_timer_moves, resend_moves, coord_checkpoint_moves, begin_moves, commit_at_moves, commit_with_moves, abort_at_moves, abort_with_moves, arrival_moves, line_moves, moves_of}
use Rattle.co_law_moves.specs.MoveTraces.{sent_by, sent_by_move}
use Rattle.co_law_once.specs.Costs.{mends}
use Rattle.co_law_once.proofs.Origins.{AllPass, fits}

module _ (f : Message → Bool) where
  abbrev pub Passes : List Move → Type 0
  Passes moves = AllPass f (sent_by moves)

  pub where_up_passes : (up : Bool) (moves : List Move) → Passes moves → Passes (where_up up moves)
  where_up_passes true moves a = a
  where_up_passes false moves a = tt

  sends_pass : (notes : List Message) → AllPass f notes → Passes (sends notes)
  sends_pass [] a = tt
  sends_pass (note ∷ notes) a = (a.0, sends_pass notes a.1)

  written_passes : (done crash : Move) (rest : List Move) → sent_by_move done ≡ [] → sent_by_move crash ≡ [] → Passes rest → (o : Outcome) → Passes (written_moves done crash rest o)
  written_passes done crash rest d c a Completes = rw d a
  written_passes done crash rest d c a (StopsAt call leaves) = by (batch_is_stable call leaves)
    where
      by : (b : Bool) → Passes (stopped_moves done crash b)
      by true = rw d (rw c tt)
      by false = rw c tt

  -- what a transaction's own events send
  module _ (u : ℕ) where
    operation_passes : (x : MemberState) (m : ℕ) (o : Op) (carried : ℕ) → Passes (operation_moves x u m o carried)
    operation_passes x m o carried = by (kept_count x.engine u == carried)
      where
        blocked : (z : Option ℕ) → Passes (unless_lock u m o z)
        blocked (Some v) = tt
        blocked None = tt

        full : (b : Bool) → Passes (if b then [] else unless_lock u m o (lock_blocker x.engine u o))
        full true = tt
        full false = blocked (lock_blocker x.engine u o)

        by : (b : Bool) → Passes (if b then (if carried == most_operations then [] else unless_lock u m o (lock_blocker x.engine u o)) else [])
        by true = full (carried == most_operations)
        by false = tt

    pub operate_passes : (s : Federation) (m : ℕ) (o : Op) → Passes (operate_moves s u m o)
    operate_passes s m o = by (leave_to_visit (look s.sessions u) m)
      where
        by : (l : Leave) → Passes (operate_with_moves s u m o l)
        by (Refuses a) = tt
        by (Grants session) = where_up_passes (s.member m).up _ (operation_passes (s.member m) m o (count_at session.told m))

    pub begin_passes : (move : Move) → sent_by_move move ≡ [] → (used up : Bool) → Passes (begin_moves move used up)
    begin_passes move e true up = tt
    begin_passes move e false true = rw e tt
    begin_passes move e false false = tt

    module _ (m : ℕ) (fit : (c : ℕ) (g : Bool) → f (message.Vote u m c g) ≡ true) where
      dropped_votes : (b : Bool) (c : ℕ) → Passes (drop_moves b u m ++ Send (message.Vote u m c false) ∷ [])
      dropped_votes true c = (fit c false, tt)
      dropped_votes false c = (fit c false, tt)

      vote_passes : (x : MemberState) (c n : ℕ) (v : Verdict) → Passes (vote_moves x u m c n v)
      vote_passes x c n LostOperations = dropped_votes (holds x.engine.active u) c
      vote_passes x c n (StaleRead key) = dropped_votes (holds x.engine.active u) c
      vote_passes x c n (HeldBy w) = tt
      vote_passes x c n VoteYes = written_passes (Cast u m c n) (CrashMember m) (sends (message.Vote u m c true ∷ [])) refl refl (fit c true, tt) (outcome_of x.log.armed 4)

      pub prepare_passes : (x : MemberState) (c n : ℕ) (st : Standing) → Passes (prepare_moves x u m c n st)
      prepare_passes x c n IsActive = vote_passes x c n (vote_of x.engine u n)
      prepare_passes x c n IsVoted = (fit (coord_of x u) true, tt)
      prepare_passes x c n IsInstalled = tt
      prepare_passes x c n IsAbsent = vote_passes x c n (vote_of x.engine u n)

      pub again_passes : (x : MemberState) (st : Standing) → Passes (again_moves x u m st)
      again_passes x IsActive = by (look x.asked u)
        where
          by : (o : Option AskedMark) → Passes (asked_moves x u m o)
          by None = tt
          by (Some mark) = vote_passes x mark.coord mark.count (vote_of x.engine u mark.count)
      again_passes x IsVoted = tt
      again_passes x IsInstalled = tt
      again_passes x IsAbsent = tt

    pub commit_passes : (m c : ℕ) → f (message.Ack u m c) ≡ true → (x : MemberState) (commit : Bool) → Passes (decision_moves x u m c commit)
    commit_passes m c fit x true = by (standing_of x u)
      where
        by : (st : Standing) → Passes (commit_moves x u m c st)
        by IsActive = tt
        by IsVoted = written_passes (Install u m) (CrashMember m) (sends (message.Ack u m c ∷ [])) refl refl (fit, tt) (outcome_of x.log.armed 4)
        by IsInstalled = (fit, tt)
        by IsAbsent = tt
    commit_passes m c fit x false = by (standing_of x u)
      where
        by : (st : Standing) → Passes (abort_moves u m st)
        by IsActive = tt
        by IsVoted = tt
        by IsInstalled = tt
        by IsAbsent = tt

    pub timer_passes : (m : ℕ) (st : Standing) → Passes (timer_moves u m st)
    timer_passes m IsActive = tt
    timer_passes m IsVoted = tt
    timer_passes m IsInstalled = tt
    timer_passes m IsAbsent = tt

    pub question_passes : (m : ℕ) → ((c : ℕ) → f (message.Ask u m c) ≡ true) → (x : MemberState) (st : Standing) → Passes (question_moves x u m st)
    question_passes m fit x IsActive = tt
    question_passes m fit x IsVoted = (fit (coord_of x u), tt)
    question_passes m fit x IsInstalled = tt
    question_passes m fit x IsAbsent = tt

    pub local_commit_passes : (m : ℕ) (x : MemberState) (carried : ℕ) → Passes (local_commit_moves x u m carried)
    local_commit_passes m x carried = by (carried == 0)
      where
        drops : (b : Bool) → Passes (AskEnd u ∷ drop_moves b u m)
        drops true = tt
        drops false = tt

        stopped : (b : Bool) → Passes (if b then CommitLocally u m ∷ CrashMember m ∷ [] else AskEnd u ∷ CrashMember m ∷ [])
        stopped true = tt
        stopped false = tt

        decided : (o : Outcome) → Passes (local_decision_moves u m o)
        decided Completes = tt
        decided (StopsAt call leaves) = stopped (batch_is_stable call leaves)

        verdict : (v : Verdict) → Passes (local_verdict_moves x u m v)
        verdict LostOperations = drops (holds x.engine.active u)
        verdict (StaleRead key) = drops (holds x.engine.active u)
        verdict (HeldBy w) = tt
        verdict VoteYes = decided (outcome_of x.log.armed 4)

        by : (b : Bool) → Passes (if b then AskEnd u ∷ [] else local_verdict_moves x u m (vote_of x.engine u carried))
        by true = tt
        by false = verdict (vote_of x.engine u carried)

    local_abort_passes : (m : ℕ) (st : Standing) → Passes (local_abort_moves u m st)
    local_abort_passes m IsActive = tt
    local_abort_passes m IsVoted = tt
    local_abort_passes m IsInstalled = tt
    local_abort_passes m IsAbsent = tt

    module _ (c : ℕ) where
      prepares_pass : ((m n : ℕ) → f (message.Prepare u c m n) ≡ true) → (parts : List Part) → AllPass f (prepares_to c u parts)
      prepares_pass fit [] = tt
      prepares_pass fit (p ∷ ps) = (fit p.member p.count, prepares_pass fit ps)

      decisions_pass : (commit : Bool) → ((m : ℕ) → f (message.Decide u c m commit) ≡ true) → (ms : List ℕ) → AllPass f (decisions_to c u commit ms)
      decisions_pass commit fit [] = tt
      decisions_pass commit fit (m ∷ ms) = (fit m, decisions_pass commit fit ms)

      leave_passes : ((m : ℕ) → f (message.Decide u c m false) ≡ true) → (parts : List Part) → Passes (leave_moves u c parts)
      leave_passes fit parts = sends_pass (decisions_to c u false (members_of parts)) (decisions_pass false fit (members_of parts))

      commit_entry_passes : ((m n : ℕ) → f (message.Prepare u c m n) ≡ true) → (y : CoordState) (parts : List Part) (o : Option Entry) → Passes (commit_entry_moves y u c parts o)
      commit_entry_passes fit y parts None = tt
      commit_entry_passes fit y [] (Some entry.Idle) = by (outcome_of y.log.armed 4)
        where
          stopped : (b : Bool) → Passes (stopped_moves (Decide u c) (CrashCoord c) b)
          stopped true = tt
          stopped false = tt

          by : (o : Outcome) → Passes (decided_at_once u c o)
          by Completes = tt
          by (StopsAt call leaves) = stopped (batch_is_stable call leaves)
      commit_entry_passes fit y (p ∷ ps) (Some entry.Idle) = sends_pass (prepares_to c u (p ∷ ps)) (prepares_pass fit (p ∷ ps))
      commit_entry_passes fit y parts (Some (entry.Collecting ps yeses)) = tt
      commit_entry_passes fit y parts (Some (entry.Committed ms acks)) = tt

      abort_entry_passes : ((m : ℕ) → f (message.Decide u c m false) ≡ true) → (parts : List Part) (o : Option Entry) → Passes (abort_entry_moves u c parts o)
      abort_entry_passes fit parts None = tt
      abort_entry_passes fit parts (Some entry.Idle) = leave_passes fit parts
      abort_entry_passes fit parts (Some (entry.Collecting ps yeses)) = tt
      abort_entry_passes fit parts (Some (entry.Committed ms acks)) = tt

      pub yes_passes : ((m : ℕ) → f (message.Decide u c m true) ≡ true) → (y : CoordState) (m : ℕ) (o : Option Entry) → Passes (yes_moves y u c m o)
      yes_passes fit y m None = tt
      yes_passes fit y m (Some entry.Idle) = tt
      yes_passes fit y m (Some (entry.Committed ms acks)) = tt
      yes_passes fit y m (Some (entry.Collecting parts yeses)) = by (has_part parts m && not (has_number yeses m))
        where
          counted : (o : Option ℕ) → Passes (yes_counted_moves y u c m parts o)
          counted (Some k) = tt
          counted None =
              written_passes (Decide u c) (CrashCoord c) (sends (decisions_to c u true (members_of parts))) refl refl
              (sends_pass (decisions_to c u true (members_of parts)) (decisions_pass true fit (members_of parts))) (outcome_of y.log.armed 4)

          by : (b : Bool) → Passes (if b then yes_counted_moves y u c m parts (first_lacking (members_of parts) (m ∷ yeses)) else [])
          by true = counted (first_lacking (members_of parts) (m ∷ yeses))
          by false = tt

      pub no_passes : ((m : ℕ) → f (message.Decide u c m false) ≡ true) → (m : ℕ) (o : Option Entry) → Passes (no_moves u c m o)
      no_passes fit m None = tt
      no_passes fit m (Some entry.Idle) = tt
      no_passes fit m (Some (entry.Committed ms acks)) = tt
      no_passes fit m (Some (entry.Collecting parts yeses)) = by (has_part parts m)
        where
          by : (b : Bool) → Passes (if b then leave_moves u c parts else [])
          by true = leave_passes fit parts
          by false = tt

      pub ask_passes : ((m : ℕ) (b : Bool) → f (message.Decide u c m b) ≡ true) → (m : ℕ) (o : Option Entry) → Passes (ask_moves u c m o)
      ask_passes fit m None = (fit m false, tt)
      ask_passes fit m (Some entry.Idle) = tt
      ask_passes fit m (Some (entry.Collecting parts yeses)) = tt
      ask_passes fit m (Some (entry.Committed ms acks)) = (fit m true, tt)

      pub ack_passes : (m : ℕ) (o : Option Entry) → Passes (ack_moves u c m o)
      ack_passes m None = tt
      ack_passes m (Some entry.Idle) = tt
      ack_passes m (Some (entry.Collecting parts yeses)) = tt
      ack_passes m (Some (entry.Committed ms acks)) = by (has_number ms m && not (has_number acks m))
        where
          counted : (o : Option ℕ) → Passes (ack_counted_moves u c m o)
          counted (Some k) = tt
          counted None = tt

          by : (b : Bool) → Passes (if b then ack_counted_moves u c m (first_lacking ms (m ∷ acks)) else [])
          by true = counted (first_lacking ms (m ∷ acks))
          by false = tt

      pub coord_timer_passes : ((m : ℕ) → f (message.Decide u c m false) ≡ true) → (o : Option Entry) → Passes (coord_timer_moves u c o)
      coord_timer_passes fit None = tt
      coord_timer_passes fit (Some entry.Idle) = tt
      coord_timer_passes fit (Some (entry.Collecting parts yeses)) = leave_passes fit parts
      coord_timer_passes fit (Some (entry.Committed ms acks)) = tt

      pub resend_passes : ((m n : ℕ) → f (message.Prepare u c m n) ≡ true) → ((m : ℕ) → f (message.Decide u c m true) ≡ true) → (o : Option Entry) → Passes (resend_moves u c o)
      resend_passes p d None = tt
      resend_passes p d (Some entry.Idle) = tt
      resend_passes p d (Some (entry.Collecting parts yeses)) = sends_pass (prepares_to c u (parts_lacking parts yeses)) (prepares_pass p (parts_lacking parts yeses))
      resend_passes p d (Some (entry.Committed ms acks)) = sends_pass (decisions_to c u true (numbers_lacking ms acks)) (decisions_pass true d (numbers_lacking ms acks))

    pub end_passes : (s : Federation) → ((c m n : ℕ) → f (message.Prepare u c m n) ≡ true) → Passes (commit_with_moves s u (leave_to_end (look s.sessions u)))
    end_passes s fit = by (leave_to_end (look s.sessions u))
      where
        at : (session : Session) (n : Node) → Passes (commit_at_moves s u session n)
        at session (node.Coord c) = where_up_passes (s.coord c).up _ (commit_entry_passes c (fit c) (s.coord c) (parts_of session.told) (look (s.coord c).table u))
        at session (node.Member m) = where_up_passes (s.member m).up _ (local_commit_passes m (s.member m) (count_at session.told m))

        by : (l : Leave) → Passes (commit_with_moves s u l)
        by (Refuses a) = tt
        by (Grants session) = at session session.by

    pub aborts_pass : (s : Federation) → ((c m : ℕ) → f (message.Decide u c m false) ≡ true) → Passes (abort_with_moves s u (leave_to_end (look s.sessions u)))
    aborts_pass s fit = by (leave_to_end (look s.sessions u))
      where
        at : (session : Session) (n : Node) → Passes (abort_at_moves s u session n)
        at session (node.Coord c) = where_up_passes (s.coord c).up _ (abort_entry_passes c (fit c) (parts_of session.told) (look (s.coord c).table u))
        at session (node.Member m) = where_up_passes (s.member m).up _ (local_abort_passes m (standing_of (s.member m) u))

        by : (l : Leave) → Passes (abort_with_moves s u l)
        by (Refuses a) = tt
        by (Grants session) = at session session.by

  -- events of nodes alone
  closing_passes : (done crash : Move) (closes : Bool → Move) → sent_by_move done ≡ [] → sent_by_move crash ≡ [] → ((b : Bool) → sent_by_move (closes b) ≡ []) → (o : Outcome) → Passes (closing_moves done crash closes o)
  closing_passes done crash closes d c e Completes = rw d tt
  closing_passes done crash closes d c e (StopsAt call leaves) = rw (e _) (rw c tt)

  restarts_pass : (move : Move) → sent_by_move move ≡ [] → (up : Bool) → Passes (restart_moves move up)
  restarts_pass move e true = tt
  restarts_pass move e false = rw e tt

away : (b c : Bool) → b ≡ false → (not b || c) ≡ true
away b c e = rw e refl

either : (b : Bool) → (not b || b) ≡ true
either true = refl
either false = refl

same_member : (m : ℕ) (b : Bool) → (not b || ((m == m) && b)) ≡ true
same_member m b = ap (λ z. not b || (z && b)) (eq-eqb m m refl) ∙ either b

-- Where nothing is mended, what is sent of the transaction may come from here.
module _ (t : ℕ) (s : Federation) where
  arrival_fits : (note : Message) → mends t (happening.Line (event.Deliver note)) ≡ false → AllPass (fits t (happening.Line (event.Deliver note))) (sent_by (arrival_moves s note))
  arrival_fits (message.Prepare u c m n) e =
      let f = fits t (happening.Line (event.Deliver (message.Prepare u c m n))) in
      where_up_passes f (s.member m).up _ (prepare_passes f u m (λ d g. same_member m (u == t)) (s.member m) c n (standing_of (s.member m) u))
  arrival_fits (message.Decide u c m b) e =
      let f = fits t (happening.Line (event.Deliver (message.Decide u c m b))) in
      where_up_passes f (s.member m).up _ (commit_passes f u m c (same_member m (u == t)) (s.member m) b)
  arrival_fits (message.Vote u m c true) e =
      let f = fits t (happening.Line (event.Deliver (message.Vote u m c true))) in
      where_up_passes f (s.coord c).up _ (yes_passes f u c (λ k. either (u == t)) (s.coord c) m (look (s.coord c).table u))
  arrival_fits (message.Vote u m c false) e =
      let f = fits t (happening.Line (event.Deliver (message.Vote u m c false))) in
      where_up_passes f (s.coord c).up _ (no_passes f u c (λ k. away (u == t) _ e) m (look (s.coord c).table u))
  arrival_fits (message.Ask u m c) e =
      let f = fits t (happening.Line (event.Deliver (message.Ask u m c))) in
      where_up_passes f (s.coord c).up _ (ask_passes f u c (λ k b. away (u == t) _ e) m (look (s.coord c).table u))
  arrival_fits (message.Ack u m c) e =
      let f = fits t (happening.Line (event.Deliver (message.Ack u m c))) in
      where_up_passes f (s.coord c).up _ (ack_passes f u c m (look (s.coord c).table u))

  line_fits : (e : Event) → mends t (happening.Line e) ≡ false → AllPass (fits t (happening.Line e)) (sent_by (line_moves s e))
  line_fits (event.Begin u c) e = begin_passes (fits t (happening.Line (event.Begin u c))) u (Begin u c) refl (is_used s u) (s.coord c).up
  line_fits (event.Local u m) e = begin_passes (fits t (happening.Line (event.Local u m))) u (BeginLocal u m) refl (is_used s u) (s.member m).up
  line_fits (event.Read u m key) e = operate_passes (fits t (happening.Line (event.Read u m key))) u s m (op.Read key)
  line_fits (event.Write u m key value) e = operate_passes (fits t (happening.Line (event.Write u m key value))) u s m (op.Write key value)
  line_fits (event.Erase u m key) e = operate_passes (fits t (happening.Line (event.Erase u m key))) u s m (op.Erase key)
  line_fits (event.Scan u m span) e = operate_passes (fits t (happening.Line (event.Scan u m span))) u s m (op.Scan span)
  line_fits (event.Commit u) e = end_passes (fits t (happening.Line (event.Commit u))) u s (λ c m n. either (u == t))
  line_fits (event.Abort u) e = aborts_pass (fits t (happening.Line (event.Abort u))) u s (λ c m. away (u == t) _ e)
  line_fits (event.Deliver note) e = by (was_sent s.sent note)
    where
      by : (b : Bool) → AllPass (fits t (happening.Line (event.Deliver note))) (sent_by (if b then arrival_moves s note else []))
      by true = arrival_fits note e
      by false = tt
  line_fits (event.Vote u m) e =
      let f = fits t (happening.Line (event.Vote u m)) in
      where_up_passes f (s.member m).up _ (again_passes f u m (λ c g. away (u == t) _ e) (s.member m) (standing_of (s.member m) u))
  line_fits (event.Timer u (node.Member m)) e =
      let f = fits t (happening.Line (event.Timer u (node.Member m))) in where_up_passes f (s.member m).up _ (timer_passes f u m (standing_of (s.member m) u))
  line_fits (event.Timer u (node.Coord c)) e =
      let f = fits t (happening.Line (event.Timer u (node.Coord c))) in
      where_up_passes f (s.coord c).up _ (coord_timer_passes f u c (λ m. away (u == t) _ e) (look (s.coord c).table u))
  line_fits (event.Ask u m) e =
      let f = fits t (happening.Line (event.Ask u m)) in
      where_up_passes f (s.member m).up _ (question_passes f u m (λ c. away (u == t) _ e) (s.member m) (standing_of (s.member m) u))
  line_fits (event.Resend u c) e =
      let f = fits t (happening.Line (event.Resend u c)) in
      where_up_passes f (s.coord c).up _ (resend_passes f u c (λ m n. away (u == t) _ e) (λ m. away (u == t) _ e) (look (s.coord c).table u))
  line_fits (event.Crash (node.Member m)) e = where_up_passes (fits t (happening.Line (event.Crash (node.Member m)))) (s.member m).up _ tt
  line_fits (event.Crash (node.Coord c)) e = where_up_passes (fits t (happening.Line (event.Crash (node.Coord c)))) (s.coord c).up _ tt
  line_fits (event.Restart (node.Member m)) e = restarts_pass (fits t (happening.Line (event.Restart (node.Member m)))) (RestartMember m) refl (s.member m).up
  line_fits (event.Restart (node.Coord c)) e = restarts_pass (fits t (happening.Line (event.Restart (node.Coord c)))) (RestartCoord c) refl (s.coord c).up
  line_fits (event.Arm (node.Member m) call leaves) e = where_up_passes (fits t (happening.Line (event.Arm (node.Member m) call leaves))) (s.member m).up _ tt
  line_fits (event.Arm (node.Coord c) call leaves) e = where_up_passes (fits t (happening.Line (event.Arm (node.Coord c) call leaves))) (s.coord c).up _ tt
  line_fits (event.Checkpoint (node.Member m)) e = where_up_passes (fits t (happening.Line (event.Checkpoint (node.Member m)))) (s.member m).up _ (by (s.member m).log.spare_closed)
    where
      by : (closed : Bool) → AllPass (fits t (happening.Line (event.Checkpoint (node.Member m)))) (sent_by (member_checkpoint_moves (s.member m) m closed))
      by false = closing_passes (fits t (happening.Line (event.Checkpoint (node.Member m)))) (CloseMemberSpare m true) (CrashMember m) (CloseMemberSpare m) refl refl (λ b. refl) (outcome_of (s.member m).log.armed 2)
      by true = written_passes (fits t (happening.Line (event.Checkpoint (node.Member m)))) (FillMemberSpare m) (CrashMember m) [] refl refl tt (outcome_of (s.member m).log.armed 4)
  line_fits (event.Checkpoint (node.Coord c)) e = where_up_passes (fits t (happening.Line (event.Checkpoint (node.Coord c)))) (s.coord c).up _ (by (s.coord c).log.spare_closed)
    where
      by : (closed : Bool) → AllPass (fits t (happening.Line (event.Checkpoint (node.Coord c)))) (sent_by (coord_checkpoint_moves (s.coord c) c closed))
      by false = closing_passes (fits t (happening.Line (event.Checkpoint (node.Coord c)))) (CloseCoordSpare c true) (CrashCoord c) (CloseCoordSpare c) refl refl (λ b. refl) (outcome_of (s.coord c).log.armed 2)
      by true = written_passes (fits t (happening.Line (event.Checkpoint (node.Coord c)))) (FillCoordSpare c) (CrashCoord c) [] refl refl tt (outcome_of (s.coord c).log.armed 4)

  pub event_fits : (h : Happening) → mends t h ≡ false → AllPass (fits t h) (sent_by (moves_of s h))
  event_fits (happening.Line e) q = line_fits e q
  event_fits (happening.Hand u m b) q =
      let f = fits t (happening.Hand u m b) in where_up_passes f (s.member m).up _ (commit_passes f u m (coord_of (s.member m) u) (away (u == t) _ q) (s.member m) b)
  event_fits happening.Disarm q = tt
