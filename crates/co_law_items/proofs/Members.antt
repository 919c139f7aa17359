-- Each event of a member whose state names such keys, values and numbers answers, sends, marks and leaves such ones; and beside the records that
-- waited it tells of at most two.
use Rattle.std.proofs.Common.{◌≡◌, ℕ, Bool, true, false, ◌+◌, ◌≤◌, ◌==◌, if◌then◌else◌, is_some, List, [], ◌∷◌, ◌++◌, length, Option, None, Some, IfSome, refl, sym, subst, arith, length-append}
use Rattle.std.specs.FinMap.{entries, keys}
use Rattle.std.specs.List.{AllByRecursion}
use Rattle.co_base.proofs.Ordered.{sorted_none}
use Rattle.co_base.specs.declared.leaves.Leaves.{Leaves}
use Rattle.co_base.specs.declared.node.Node.TheVariants as node
use Rattle.co_base.specs.declared.op.Op.{Op}
use Rattle.co_base.specs.Limits.{most_coordinators, most_members, most_operations}
use Rattle.co_message.specs.declared.answer.Answer.{Answer}
use Rattle.co_message.specs.declared.answer.Answer.TheVariants as answer
use Rattle.co_message.specs.declared.answer.Cause.TheVariants as cause
use Rattle.co_message.specs.declared.message.Message.{Message}
use Rattle.co_message.specs.declared.message.Message.TheVariants as message
use Rattle.co_frame.specs.Gate.{batch_is_stable, closes_spare}
use Rattle.co_record.specs.declared.record.Record.{Record}
use Rattle.co_record.specs.declared.record.Record.TheVariants as log
use Rattle.co_schedule.specs.View.{IsWithin, IsTxn, IsCount, IsMessageFor}
use Rattle.co_state.specs.Changes.{sets_of}
use Rattle.co_state.specs.Effects.{dumped_rows, dumped_undos}
use Rattle.co_state.specs.EngineState.{operations_of}
use Rattle.co_state.specs.LockRule.{lock_blocker}
use Rattle.co_state.specs.Table.{look, holds}
use Rattle.co_state.specs.VotingRule.{vote_of, kept_count}
use Rattle.co_state.specs.declared.engine_state.Vote.{Vote}
use Rattle.co_state.specs.declared.verdict.Verdict.{Verdict}
use Rattle.co_state.specs.declared.verdict.Verdict.TheVariants.{LostOperations, StaleRead, HeldBy, VoteYes}
use Rattle.co_plain.specs.Federation.{message_list}
use Rattle.co_plain.specs.LocalCommit.{local_coord, local_commit_by, member_local_commit, local_abort_by, member_local_abort}
use Rattle.co_plain.specs.LogWrite.{outcome_of, with_batch, with_filled_spare, with_spare, with_stop, with_waiting, generation_of, marks_of, checkpoint_marks}
use Rattle.co_plain.specs.Member.{unless_blocked, member_op, prepare_record, voted_state, vote_by, vote_on, coord_of, coord_in, with_mark, prepare_by, member_prepare, vote_where_asked, vote_again_by, member_vote, installed_state, commit_by, abort_by, member_decide, timer_by, member_timer, ask_by, member_ask, member_deliver}
use Rattle.co_plain.specs.MemberLog.{prepares_onto, member_spare, stopped_fill, fill_by, close_by, checkpoint_by, member_checkpoint, member_crash, restart_by, member_restart, member_arm}
use Rattle.co_plain.specs.MemberStep.{says, standing_by, member_down, with_engine, with_log, dropped, stopped_member, forced_by, force_member}
use Rattle.co_plain.specs.Numbers.{counted, next_generation}
use Rattle.co_plain.specs.declared.log_state.LogState.{LogState}
use Rattle.co_plain.specs.declared.member_state.AskedMark.{AskedMark}
use Rattle.co_plain.specs.declared.member_state.MemberState.{MemberState}
use Rattle.co_plain.specs.declared.member_step.MemberStep.{MemberStep}
use Rattle.co_plain.specs.declared.outcome.Outcome.{Outcome}
use Rattle.co_plain.specs.declared.outcome.Outcome.TheVariants.{Completes, StopsAt}
use Rattle.co_transcript.specs.Items.{IsMark}
use Rattle.co_law_base.proofs.ImageRules.{EachEntry}
use Rattle.co_law_items.proofs.Named.{all_append, Holds, holds_nothing, holds_put, holds_without, holds_each, IsOpOf, IsVoteOf, changes_of_named}
use Rattle.co_law_items.proofs.Engines.{IsEngineOf, IsVerdictOf, operations_named, replies_named, blocker_named, verdict_named, operation_named, cast_named, install_named, drop_named, dumped_rows_named, dumped_undos_named}
use Rattle.co_law_items.proofs.Logs.{IsOutcome, outcome_named, generation_small, IsRecordOf, IsLogOf, engine_named, batched, crashed, marks_named, marks_counted, checkpoint_named}
use Rattle.co_law_items.proofs.Answers.{IsAnswerOf}

-- what a prepare asked
abbrev pub IsAsked : ℕ → AskedMark → Type 0
IsAsked t mark = IsWithin 1 most_coordinators mark.coord × IsCount mark.count

counted_small : (n : ℕ) → counted n ≤ 65535
counted_small n = omega arith

module _ (P : List ℕ → Type 0) where
  pub record IsMemberOf (x : MemberState) : Type 0 where
    pub engine : IsEngineOf P x.engine
    pub asked : Holds IsAsked x.asked
    pub log : IsLogOf P x.log

  -- a step of a member with so many records that wait
  pub record MemberDid (waiting : ℕ) (did : MemberStep) : Type 0 where
    pub state : IsMemberOf did.state
    pub answer : IsAnswerOf P did.answer
    pub sent : AllByRecursion (IsMessageFor most_members most_coordinators) (message_list did.sent)
    pub marks : AllByRecursion IsMark did.marks
    pub few : length did.marks + length did.state.log.waiting ≤ waiting + 2

  down_named : (x : MemberState) (l : LogState) → AllByRecursion (IsRecordOf P) l.stable → IsMemberOf (member_down x l)
  down_named x l h = record { engine = engine_named P x.engine.kind l.stable h; asked = holds_nothing IsAsked; log = crashed P l h }

  logged : (x : MemberState) → IsMemberOf x → (l : LogState) → IsLogOf P l → IsMemberOf (with_log x l)
  logged x n l h = record { engine = n.engine; asked = n.asked; log = h }

  module _ (m : ℕ) (own : IsWithin 1 most_members m) where
    -- however a forced write ends
    forces : (next : MemberState) → IsMemberOf next → (batch : List Record) → AllByRecursion (IsRecordOf P) batch → length batch ≤ 2 →
        (a : Answer) → IsAnswerOf P a → (sent : Option Message) → AllByRecursion (IsMessageFor most_members most_coordinators) (message_list sent) →
        MemberDid (length next.log.waiting) (force_member m next batch a sent)
    forces next n batch h short a said sent goes = by (outcome_of next.log.armed 4) (outcome_named next.log.armed n.log.armed 4)
      where
        out : List Record
        out = batch ++ next.log.waiting

        all : AllByRecursion (IsRecordOf P) out
        all = all_append (IsRecordOf P) batch next.log.waiting h n.log.waiting

        count : length (marks_of (node.Member m) out) + 0 ≤ length next.log.waiting + 2
        count = let c = marks_counted (node.Member m) out in let d = length-append batch next.log.waiting in omega (arith, c, d, short)

        stopped : (call : ℕ) → IsWithin 1 4 call → (c : Bool) → MemberDid (length next.log.waiting) (stopped_member m next call c batch)
        stopped call k true =
            record {
              state = down_named next (with_batch next.log batch) (batched P next.log n.log batch h).stable;
              answer = k;
              sent = tt;
              marks = marks_named P (node.Member m) own out all;
              few = count;
            }
        stopped call k false =
            record { state = down_named next next.log n.log.stable; answer = k; sent = tt; marks = tt; few = omega arith }

        by : (o : Outcome) → IsOutcome o → MemberDid (length next.log.waiting) (forced_by m next batch a sent o)
        by Completes k =
            record {
              state = logged next n (with_batch next.log batch) (batched P next.log n.log batch h);
              answer = said;
              sent = goes;
              marks = marks_named P (node.Member m) own out all;
              few = count;
            }
        by (StopsAt call leaves) k = stopped call k (batch_is_stable call leaves)

    module _ (x : MemberState) (n : IsMemberOf x) where
      abbrev Did : MemberStep → Type 0
      Did = MemberDid (length x.log.waiting)

      -- a state with the same log, and an answer alone
      tells : (z : MemberState) → IsMemberOf z → length z.log.waiting ≤ length x.log.waiting + 1 → (a : Answer) → IsAnswerOf P a → Did (says z a)
      tells z k more a said = record { state = k; answer = said; sent = tt; marks = tt; few = omega (arith, more) }

      stays : (a : Answer) → IsAnswerOf P a → Did (says x a)
      stays a said = tells x n (omega arith) a said

      sends : (z : MemberState) → IsMemberOf z → length z.log.waiting ≤ length x.log.waiting + 1 → (a : Answer) → IsAnswerOf P a → (note : Message) → IsMessageFor most_members most_coordinators note →
          Did (record { state = z; answer = a; sent = Some note; marks = [] })
      sends z k more a said note goes = record { state = k; answer = said; sent = (goes, tt); marks = tt; few = omega (arith, more) }

      drops : (t : ℕ) → IsMemberOf (dropped x t)
      drops t = record { engine = drop_named P x.engine n.engine t; asked = holds_without IsAsked x.asked n.asked t; log = n.log }

      pub did_op : (t carried : ℕ) (op : Op) → IsTxn t → IsOpOf P op → Did (member_op x t carried op)
      did_op t carried op small p = by (kept_count x.engine t == carried) (carried == most_operations)
        where
          free : (o : Option ℕ) → IfSome o IsTxn → Did (unless_blocked x t op o)
          free (Some u) h = stays (answer.Blocked u) h
          free None h =
              tells (with_engine x _) (record { engine = operation_named P x.engine n.engine t op small p; asked = n.asked; log = n.log }) (omega arith) _
              (replies_named P x.engine n.engine t op)

          by : (kept most : Bool) →
              Did (if kept then (if most then says x answer.TooMany else unless_blocked x t op (lock_blocker x.engine t op)) else says x (answer.Gone (counted (kept_count x.engine t)) (counted carried)))
          by true true = stays answer.TooMany tt
          by true false = free (lock_blocker x.engine t op) (blocker_named P x.engine n.engine t op)
          by false most = stays _ (counted_small (kept_count x.engine t), counted_small carried)

      -- the records of a vote
      prepared : (t coord count : ℕ) → IsTxn t → IsWithin 1 most_coordinators coord → IsRecordOf P (prepare_record t coord count (sets_of (operations_of x.engine t)))
      prepared t coord count small near = (small, near, changes_of_named P (operations_of x.engine t) (operations_named P x.engine n.engine t))

      votes : (t coord count : ℕ) → IsTxn t → IsWithin 1 most_coordinators coord → IsMemberOf (voted_state x t coord count)
      votes t coord count small near =
          record { engine = cast_named P x.engine n.engine t coord count small near; asked = holds_without IsAsked x.asked n.asked t; log = n.log }

      pub did_vote_on : (t coord count : ℕ) → IsTxn t → IsWithin 1 most_coordinators coord → IsCount count → Did (vote_on m x t coord count)
      did_vote_on t coord count small near few = by (vote_of x.engine t count) (verdict_named P x.engine n.engine t count)
        where
          by : (v : Verdict) → IsVerdictOf P v → Did (vote_by m x t coord count v)
          by LostOperations h = sends (dropped x t) (drops t) (omega arith) _ (counted_small (kept_count x.engine t), few) _ (small, own, near)
          by (StaleRead key) h = sends (dropped x t) (drops t) (omega arith) _ h _ (small, own, near)
          by (HeldBy u) h = stays (answer.Held u) h
          by VoteYes h =
              forces (voted_state x t coord count) (votes t coord count small near) (prepare_record t coord count (sets_of (operations_of x.engine t)) ∷ [])
              (prepared t coord count small near, tt) (omega arith) answer.Yes tt (Some (message.Vote t m coord true)) ((small, own, near), tt)

      pub did_vote : (t : ℕ) → IsTxn t → Did (member_vote m x t)
      did_vote t small = by (holds x.engine.active t) (holds x.engine.voted t) (holds x.committed t)
        where
          asked : (o : Option AskedMark) → look x.asked t ≡ o → Did (vote_where_asked m x t o)
          asked None e = stays answer.Unasked tt
          asked (Some mark) e = let k = n.asked t mark e in did_vote_on t mark.coord mark.count small k.0 k.1

          by : (a v c : Bool) → Did (vote_again_by m x t (standing_by a v c))
          by true v c = asked (look x.asked t) refl
          by false true c = stays answer.Voted tt
          by false false true = stays answer.Already tt
          by false false false = stays answer.Absent tt

      -- the coordinator of who is voted
      near_in : (t : ℕ) (vote : Vote) → look x.engine.voted t ≡ Some vote → IsWithin 1 most_coordinators (coord_of x t)
      near_in t vote e = subst (λ o. IsWithin 1 most_coordinators (coord_in o)) (sym e) (n.engine.voted t vote e).1

      pub did_ask : (t : ℕ) → IsTxn t → Did (member_ask m x t)
      did_ask t small = by (holds x.engine.active t) (look x.engine.voted t) (holds x.committed t) refl
        where
          by : (a : Bool) (o : Option Vote) (c : Bool) → look x.engine.voted t ≡ o → Did (ask_by m x t (standing_by a (is_some o) c))
          by true o c e = stays answer.Unvoted tt
          by false (Some vote) c e = sends x n (omega arith) answer.Asking tt _ (small, own, near_in t vote e)
          by false None true e = stays answer.Already tt
          by false None false e = stays answer.Absent tt

      pub did_timer : (t : ℕ) → Did (member_timer x t)
      did_timer t = by (holds x.engine.active t) (holds x.engine.voted t) (holds x.committed t)
        where
          by : (a v c : Bool) → Did (timer_by x t (standing_by a v c))
          by true v c = tells (dropped x t) (drops t) (omega arith) answer.Dropped tt
          by false true c = stays answer.Kept tt
          by false false true = stays answer.Already tt
          by false false false = stays answer.Absent tt

      pub did_local_abort : (t : ℕ) → Did (member_local_abort x t)
      did_local_abort t = by (holds x.engine.active t) (holds x.engine.voted t) (holds x.committed t)
        where
          by : (a v c : Bool) → Did (local_abort_by x t (standing_by a v c))
          by true v c = tells (dropped x t) (drops t) (omega arith) (answer.Aborted cause.Client) tt
          by false true c = stays answer.Absent tt
          by false false true = stays answer.Absent tt
          by false false false = stays answer.Absent tt

      pub did_decide : (t coord : ℕ) (commit : Bool) → IsTxn t → IsWithin 1 most_coordinators coord → Did (member_decide m x t coord commit)
      did_decide t coord true small near = by (holds x.engine.active t) (holds x.engine.voted t) (holds x.committed t)
        where
          by : (a v c : Bool) → Did (commit_by m x t coord (standing_by a v c))
          by true v c = stays answer.Absent tt
          by false true c =
              forces (installed_state x t) (record { engine = install_named P x.engine n.engine t; asked = n.asked; log = n.log }) (log.Commit t [] ∷ [])
              ((small, (tt, sorted_none _)), tt) (omega arith) answer.Installed tt (Some (message.Ack t m coord)) ((small, own, near), tt)
          by false false true = sends x n (omega arith) answer.Already tt _ (small, own, near)
          by false false false = stays answer.Absent tt
      did_decide t coord false small near = by (holds x.engine.active t) (holds x.engine.voted t) (holds x.committed t)
        where
          by : (a v c : Bool) → Did (abort_by x t (standing_by a v c))
          by true v c = tells (dropped x t) (drops t) (omega arith) answer.Dropped tt
          by false true c =
              tells (with_log (dropped x t) (with_waiting x.log (log.Abort t)))
              (logged (dropped x t) (drops t) (with_waiting x.log (log.Abort t)) (record { stable = n.log.stable; waiting = (small, n.log.waiting); armed = n.log.armed })) (omega arith) answer.Dropped tt
          by false false true = stays answer.Already tt
          by false false false = stays answer.Absent tt

      pub did_local_commit : (t carried : ℕ) → IsTxn t → Did (member_local_commit m x t carried)
      did_local_commit t carried small = by (carried == 0)
        where
          near : IsWithin 1 most_coordinators local_coord
          near = (omega arith, omega arith)

          grants : (v : Verdict) → IsVerdictOf P v → Did (local_commit_by m x t carried v)
          grants LostOperations h = tells (dropped x t) (drops t) (omega arith) _ (counted_small (kept_count x.engine t), counted_small carried)
          grants (StaleRead key) h = tells (dropped x t) (drops t) (omega arith) _ h
          grants (HeldBy u) h = stays (answer.Held u) h
          grants VoteYes h =
              let voted = votes t local_coord (counted carried) small near in
              forces (installed_state (voted_state x t local_coord (counted carried)) t)
              (record { engine = install_named P (voted_state x t local_coord (counted carried)).engine voted.engine t; asked = voted.asked; log = n.log })
              (log.Commit t [] ∷ prepare_record t local_coord (counted carried) (sets_of (operations_of x.engine t)) ∷ [])
              ((small, (tt, sorted_none _)), (prepared t local_coord (counted carried) small near, tt)) (omega arith) answer.Committed tt None tt

          by : (b : Bool) → Did (if b then says x answer.Absent else local_commit_by m x t carried (vote_of x.engine t carried))
          by true = stays answer.Absent tt
          by false = grants (vote_of x.engine t carried) (verdict_named P x.engine n.engine t carried)

      pub did_crash : Did (member_crash x)
      did_crash = tells (member_down x x.log) (down_named x x.log n.log.stable) (omega arith) answer.Crashed tt

      pub did_restart : Did (member_restart x)
      did_restart = by x.up
        where
          by : (b : Bool) → Did (restart_by x b)
          by true = stays answer.Running tt
          by false =
              tells (record { up = true; engine = x.engine; committed = x.committed; asked = x.asked; log = x.log }) (record { engine = n.engine; asked = n.asked; log = n.log }) (omega arith) answer.Up tt

      pub did_arm : (call : ℕ) (leaves : Leaves) → IsWithin 1 4 call → Did (member_arm x call leaves)
      did_arm call leaves h =
          let stop = with_stop x.log (Some (record { call = call; leaves = leaves })) in
          tells (with_log x stop) (logged x n stop (record { stable = n.log.stable; waiting = n.log.waiting; armed = h })) (omega arith) answer.Armed tt

      -- votes that are told again
      lays : (es : List (ℕ × Vote)) (rs : List Record) → AllByRecursion (IsRecordOf P) rs → EachEntry (IsVoteOf P) es → AllByRecursion (IsRecordOf P) (prepares_onto rs es)
      lays [] rs h k = h
      lays (e ∷ es) rs h k = lays es (prepare_record e.0 e.1.coord e.1.count e.1.sets ∷ rs) (k.0, h) k.1

      spare_named : (generation : ℕ) → generation ≤ 4294967295 → AllByRecursion (IsRecordOf P) (member_spare m x generation)
      spare_named generation small =
          lays (entries x.engine.voted)
          (log.Checkpoint (dumped_rows x.engine.kind x.engine) (dumped_undos x.engine.kind x.engine) (keys x.committed) ∷ log.Header (node.Member m) generation ∷ [])
          ((dumped_rows_named P x.engine n.engine x.engine.kind, dumped_undos_named P x.engine n.engine x.engine.kind), (small, tt))
          (holds_each (IsVoteOf P) x.engine.voted n.engine.voted)

      pub did_checkpoint : Did (member_checkpoint m x)
      did_checkpoint = by x.log.spare_closed
        where
          generation : ℕ
          generation = next_generation (generation_of x.log.stable)

          full : AllByRecursion (IsRecordOf P) (member_spare m x generation)
          full = spare_named generation (generation_small (generation_of x.log.stable))

          marked : AllByRecursion IsMark (checkpoint_marks (node.Member m) generation)
          marked = checkpoint_named (node.Member m) own (generation_of x.log.stable)

          stopped : (call : ℕ) → IsWithin 1 4 call → (b : Bool) → Did (stopped_fill m x generation call b)
          stopped call k true =
              record { state = down_named x (with_filled_spare x.log (member_spare m x generation)) full; answer = k; sent = tt; marks = marked; few = omega arith }
          stopped call k false = record { state = down_named x x.log n.log.stable; answer = k; sent = tt; marks = tt; few = omega arith }

          fills : (o : Outcome) → IsOutcome o → Did (fill_by m x generation o)
          fills Completes k =
              record {
                state = logged x n (with_filled_spare x.log (member_spare m x generation)) (record { stable = full; waiting = tt; armed = tt });
                answer = generation_small (generation_of x.log.stable);
                sent = tt;
                marks = marked;
                few = omega arith;
              }
          fills (StopsAt call leaves) k = stopped call k (batch_is_stable call leaves)

          closes : (o : Outcome) → IsOutcome o → Did (close_by x o)
          closes Completes k = tells (with_log x (with_spare x.log true)) (logged x n (with_spare x.log true) (record { stable = n.log.stable; waiting = n.log.waiting; armed = tt })) (omega arith) answer.Closed tt
          closes (StopsAt call leaves) k = tells (member_down x (with_spare x.log (closes_spare leaves))) (down_named x (with_spare x.log (closes_spare leaves)) n.log.stable) (omega arith) (answer.Stopped call) k

          by : (b : Bool) → Did (checkpoint_by m x b)
          by false = closes (outcome_of x.log.armed 2) (outcome_named x.log.armed n.log.armed 2)
          by true = fills (outcome_of x.log.armed 4) (outcome_named x.log.armed n.log.armed 4)

    module _ (x : MemberState) (n : IsMemberOf x) where
      pub did_prepare : (t coord count : ℕ) → IsTxn t → IsWithin 1 most_coordinators coord → IsCount count → MemberDid (length x.log.waiting) (member_prepare m x t coord count)
      did_prepare t coord count small near few = by (holds x.engine.active t) (look x.engine.voted t) (holds x.committed t) refl
        where
          marked : IsMemberOf (with_mark x t coord count)
          marked = record { engine = n.engine; asked = holds_put IsAsked x.asked n.asked t (record { coord = coord; count = count }) (near, few); log = n.log }

          by : (a : Bool) (o : Option Vote) (c : Bool) → look x.engine.voted t ≡ o → MemberDid (length x.log.waiting) (prepare_by m x t coord count (standing_by a (is_some o) c))
          by true o c e = did_vote_on (with_mark x t coord count) marked t coord count small near few
          by false (Some vote) c e = sends x n x n (omega arith) answer.Voted tt _ (small, own, near_in x n t vote e)
          by false None true e = stays x n answer.Already tt
          by false None false e = did_vote_on x n t coord count small near few

      pub did_deliver : (note : Message) → IsMessageFor most_members most_coordinators note → MemberDid (length x.log.waiting) (member_deliver m x note)
      did_deliver (message.Prepare t coord member count) h = did_prepare t coord count h.0 h.1 h.3
      did_deliver (message.Decide t coord member commit) h = did_decide x n t coord commit h.0 h.1
      did_deliver (message.Vote t member coord granted) h = stays x n answer.Absent tt
      did_deliver (message.Ask t member coord) h = stays x n answer.Absent tt
      did_deliver (message.Ack t member coord) h = stays x n answer.Absent tt
