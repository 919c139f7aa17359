-- Each event of a member spends ten bytes at most, and an operation its own bytes too.
use Rattle.std.proofs.Common.{◌≡◌, ℕ, suc, ◌+◌, ◌≤◌, Bool, true, false, ◌==◌, if◌then◌else◌, List, [], ◌∷◌, ◌++◌, Option, None, Some, refl, ap, arith}
use Rattle.std.specs.Cmp.{nat_cmp_total}
use Rattle.std.specs.FinMap.{nat_cmp-IsAntisymmetric}
use Rattle.co_base.specs.declared.leaves.Leaves.{Leaves}
use Rattle.co_base.specs.declared.op.Op.{Op}
use Rattle.co_base.specs.Limits.{most_operations}
use Rattle.co_message.specs.declared.answer.Answer.{Answer}
use Rattle.co_message.specs.declared.answer.Answer.TheVariants as answer
use Rattle.co_message.specs.declared.message.Message.{Message}
use Rattle.co_message.specs.declared.message.Message.TheVariants as message
use Rattle.co_record.specs.declared.record.Record.TheVariants as log
use Rattle.co_state.specs.declared.engine_state.EngineState.{EngineState}
use Rattle.co_state.specs.declared.engine_state.Operation.{Operation}
use Rattle.co_state.specs.declared.engine_state.Vote.{Vote}
use Rattle.co_state.specs.declared.verdict.Verdict.{Verdict}
use Rattle.co_state.specs.declared.verdict.Verdict.TheVariants.{LostOperations, StaleRead, HeldBy, VoteYes}
use Rattle.co_state.specs.Table.{look, holds}
use Rattle.co_state.specs.Changes.{sets_of}
use Rattle.co_state.specs.EngineState.{operations_in, operations_of}
use Rattle.co_state.specs.Effects.{after_cast, with_operation}
use Rattle.co_state.specs.LockRule.{lock_blocker}
use Rattle.co_state.specs.ReadRule.{snapshot_of}
use Rattle.co_state.specs.VotingRule.{vote_of, kept_count}
use Rattle.co_plain.specs.declared.member_state.AskedMark.{AskedMark}
use Rattle.co_plain.specs.declared.member_state.MemberState.{MemberState}
use Rattle.co_plain.specs.Numbers.{counted}
use Rattle.co_plain.specs.LogWrite.{with_stop, with_waiting}
use Rattle.co_plain.specs.MemberView.{recovered_view, cast_in}
use Rattle.co_plain.specs.MemberStep.{says, standing_by, with_log, dropped, force_member}
use Rattle.co_plain.specs.Member.{prepare_record, voted_state, installed_state, unless_blocked, member_op, vote_by, vote_on, with_mark, prepare_by, member_prepare, vote_where_asked, vote_again_by, member_vote, commit_by, abort_by, member_decide, timer_by, member_timer, ask_by, member_ask, member_deliver}
use Rattle.co_plain.specs.MemberLog.{member_checkpoint, member_crash, restart_by, member_restart, member_arm}
use Rattle.co_plain.specs.LocalCommit.{local_coord, local_commit_by, member_local_commit, local_abort_by, member_local_abort}
use Rattle.co_plain.specs.Invariants.{Memory, view}
use Rattle.co_law_sizes.specs.LogRoom.{op_bytes}
use Rattle.co_law_sizes.proofs.Weights.{held, insert_weighs, remove_weighs}
use Rattle.co_law_sizes.proofs.Bytes.{ops_bytes, sets_of_bytes, active_weight}
use Rattle.co_law_sizes.proofs.Records.{prepare_bytes, commit_bytes, abort_bytes}
use Rattle.co_law_sizes.proofs.LightMembers.{Light, active_bytes, light_more, light_forced, cast_weight, forget_weight, install_weight, installed_weight, installed_active}
use Rattle.co_law_sizes.proofs.MemberSpares.{light_crash, light_checkpoint}

-- ---- what is active

-- where operations are laid in, those before them count no longer
operated_active : (b : EngineState) (t : ℕ) (op : Op) → active_bytes (with_operation b t op) ≤ op_bytes op + active_bytes b
operated_active b t op = by (look b.active t) refl
  where
    laid : active_bytes (with_operation b t op) + held active_weight t (look b.active t) ≤ (op_bytes op + ops_bytes (operations_of b t)) + active_bytes b
    laid = insert_weighs nat_cmp_total nat_cmp-IsAntisymmetric active_weight b.active t (record { op = op; stamp = snapshot_of b t } ∷ operations_of b t)

    by : (o : Option (List Operation)) → look b.active t ≡ o → active_bytes (with_operation b t op) ≤ op_bytes op + active_bytes b
    by None e = omega (arith, laid, ap (held active_weight t) e, ap (λ z. ops_bytes (operations_in z)) e)
    by (Some os) e = omega (arith, laid, ap (held active_weight t) e, ap (λ z. ops_bytes (operations_in z)) e)

-- and where they are taken out
cast_active : (b : EngineState) (t coord count : ℕ) → active_bytes (after_cast b t coord count) + ops_bytes (operations_of b t) ≤ active_bytes b
cast_active b t coord count = by (look b.active t) refl
  where
    out : active_bytes (after_cast b t coord count) + held active_weight t (look b.active t) ≤ active_bytes b
    out = remove_weighs nat_cmp_total nat_cmp-IsAntisymmetric active_weight b.active t

    by : (o : Option (List Operation)) → look b.active t ≡ o → active_bytes (after_cast b t coord count) + ops_bytes (operations_of b t) ≤ active_bytes b
    by None e = omega (arith, out, ap (held active_weight t) e, ap (λ z. ops_bytes (operations_in z)) e)
    by (Some os) e = omega (arith, out, ap (held active_weight t) e, ap (λ z. ops_bytes (operations_in z)) e)

module _ (n g m : ℕ) (x : MemberState) (l : Light n g x) where
  -- nothing is held beyond
  pub stays : Light (10 + n) g x
  stays = light_more n g (10 + n) g x (omega arith) (omega arith) l

  pub light_operation : (t carried : ℕ) (op : Op) → Light (10 + op_bytes op + n) g (member_op x t carried op).state
  light_operation t carried op = kept (kept_count x.engine t == carried)
    where
      same : Light (10 + op_bytes op + n) g x
      same = light_more n g (10 + op_bytes op + n) g x (omega arith) (omega arith) l

      free : (o : Option ℕ) → Light (10 + op_bytes op + n) g (unless_blocked x t op o).state
      free (Some u) = same
      free None =
          let more = operated_active x.engine t op in
          record {
            memory = omega (arith, l.memory, more);
            told = omega (arith, l.told, more);
            stable = omega (arith, l.stable);
            bytes = omega (arith, l.bytes, more);
            headed = l.headed;
          }

      room : (b : Bool) → Light (10 + op_bytes op + n) g (if b then says x answer.TooMany else unless_blocked x t op (lock_blocker x.engine t op)).state
      room true = same
      room false = free (lock_blocker x.engine t op)

      kept : (b : Bool) → Light (10 + op_bytes op + n) g (if b
          then (if carried == most_operations then says x answer.TooMany else unless_blocked x t op (lock_blocker x.engine t op))
          else says x (answer.Gone (counted (kept_count x.engine t)) (counted carried))).state
      kept true = room (carried == most_operations)
      kept false = same

  -- who is dropped counts no longer
  drops : (t : ℕ) → Light n g (dropped x t)
  drops t =
      let out = remove_weighs nat_cmp_total nat_cmp-IsAntisymmetric active_weight x.engine.active t in
      record {
        memory = omega (arith, l.memory, out, forget_weight (view Memory x) t);
        told = omega (arith, l.told, out);
        stable = l.stable;
        bytes = omega (arith, l.bytes, out);
        headed = l.headed;
      }

  light_drop : (t : ℕ) → Light (10 + n) g (dropped x t)
  light_drop t = light_more n g (10 + n) g (dropped x t) (omega arith) (omega arith) (drops t)

  light_abort : (t : ℕ) → Light (10 + n) g (with_log (dropped x t) (with_waiting x.log (log.Abort t)))
  light_abort t =
      let d = drops t in
      record {
        memory = omega (arith, d.memory);
        told = omega (arith, d.told, forget_weight (recovered_view (x.log.waiting ++ x.log.stable)) t);
        stable = omega (arith, d.stable);
        bytes = omega (arith, d.bytes, abort_bytes t);
        headed = l.headed;
      }

  -- operations become a vote
  vote_made : (t coord count : ℕ) → Vote
  vote_made t coord count = record { coord = coord; count = count; sets = sets_of (operations_of x.engine t) }

  light_cast : (t coord count : ℕ) (a : Answer) (note : Option Message) →
      Light (10 + n) g (force_member m (voted_state x t coord count) (prepare_record t coord count (sets_of (operations_of x.engine t)) ∷ []) a note).state
  unfolding vote_made
  light_cast t coord count a note =
      let sets = sets_of_bytes (operations_of x.engine t) in
      let out = cast_active x.engine t coord count in
      light_forced (10 + n) g m (voted_state x t coord count) (prepare_record t coord count (sets_of (operations_of x.engine t)) ∷ []) a note
      (omega (arith, l.memory, out, sets, cast_weight (view Memory x) t (vote_made t coord count)))
      (omega (arith, l.told, out, sets, cast_weight (recovered_view (x.log.waiting ++ x.log.stable)) t (vote_made t coord count)))
      (omega (arith, l.stable))
      (omega (arith, l.bytes, out, sets, prepare_bytes t coord count (sets_of (operations_of x.engine t))))
      l.headed

  light_install : (t : ℕ) (a : Answer) (note : Option Message) → Light (10 + n) g (force_member m (installed_state x t) (log.Commit t [] ∷ []) a note).state
  light_install t a note =
      let active = installed_active x.engine t (look x.engine.voted t) in
      let told = recovered_view (x.log.waiting ++ x.log.stable) in
      light_forced (10 + n) g m (installed_state x t) (log.Commit t [] ∷ []) a note
      (omega (arith, l.memory, active, installed_weight x.engine x.committed t (look x.engine.voted t) refl))
      (omega (arith, l.told, active, install_weight told t (look told.voted t) refl))
      (omega (arith, l.stable))
      (omega (arith, l.bytes, active, commit_bytes t []))
      l.headed

  -- a vote and its install in one
  light_alone : (t coord count : ℕ) (a : Answer) (note : Option Message) →
      Light (10 + n) g (force_member m (installed_state (voted_state x t coord count) t)
      (log.Commit t [] ∷ prepare_record t coord count (sets_of (operations_of x.engine t)) ∷ []) a note).state
  unfolding vote_made
  light_alone t coord count a note =
      let sets = sets_of_bytes (operations_of x.engine t) in
      let out = cast_active x.engine t coord count in
      let b = after_cast x.engine t coord count in
      let active = installed_active b t (look b.voted t) in
      let told = cast_in (recovered_view (x.log.waiting ++ x.log.stable)) t (vote_made t coord count) in
      light_forced (10 + n) g m (installed_state (voted_state x t coord count) t) (log.Commit t [] ∷ prepare_record t coord count (sets_of (operations_of x.engine t)) ∷ []) a note
      (omega (arith, l.memory, out, sets, active, cast_weight (view Memory x) t (vote_made t coord count), installed_weight b x.committed t (look b.voted t) refl))
      (omega (arith, l.told, out, sets, active, cast_weight (recovered_view (x.log.waiting ++ x.log.stable)) t (vote_made t coord count), install_weight told t (look told.voted t) refl))
      (omega (arith, l.stable))
      (omega (arith, l.bytes, out, sets, active, commit_bytes t [], prepare_bytes t coord count (sets_of (operations_of x.engine t))))
      l.headed

  light_vote_by : (t coord count : ℕ) (v : Verdict) → Light (10 + n) g (vote_by m x t coord count v).state
  light_vote_by t coord count LostOperations = light_drop t
  light_vote_by t coord count (StaleRead key) = light_drop t
  light_vote_by t coord count (HeldBy u) = stays
  light_vote_by t coord count VoteYes = light_cast t coord count answer.Yes (Some (message.Vote t m coord true))

  pub light_vote_on : (t coord count : ℕ) → Light (10 + n) g (vote_on m x t coord count).state
  light_vote_on t coord count = light_vote_by t coord count (vote_of x.engine t count)

  pub light_decision : (t coord : ℕ) (commit : Bool) → Light (10 + n) g (member_decide m x t coord commit).state
  light_decision t coord true = by (holds x.engine.active t) (holds x.engine.voted t) (holds x.committed t)
    where
      by : (a v c : Bool) → Light (10 + n) g (commit_by m x t coord (standing_by a v c)).state
      by true v c = stays
      by false true c = light_install t answer.Installed (Some (message.Ack t m coord))
      by false false true = stays
      by false false false = stays
  light_decision t coord false = by (holds x.engine.active t) (holds x.engine.voted t) (holds x.committed t)
    where
      by : (a v c : Bool) → Light (10 + n) g (abort_by x t (standing_by a v c)).state
      by true v c = light_drop t
      by false true c = light_abort t
      by false false true = stays
      by false false false = stays

  pub light_timer : (t : ℕ) → Light (10 + n) g (member_timer x t).state
  light_timer t = by (holds x.engine.active t) (holds x.engine.voted t) (holds x.committed t)
    where
      by : (a v c : Bool) → Light (10 + n) g (timer_by x t (standing_by a v c)).state
      by true v c = light_drop t
      by false true c = stays
      by false false true = stays
      by false false false = stays

  pub light_question : (t : ℕ) → Light (10 + n) g (member_ask m x t).state
  light_question t = by (holds x.engine.active t) (holds x.engine.voted t) (holds x.committed t)
    where
      by : (a v c : Bool) → Light (10 + n) g (ask_by m x t (standing_by a v c)).state
      by true v c = stays
      by false true c = stays
      by false false true = stays
      by false false false = stays

  pub light_vote : (t : ℕ) → Light (10 + n) g (member_vote m x t).state
  light_vote t = by (holds x.engine.active t) (holds x.engine.voted t) (holds x.committed t)
    where
      asked : (o : Option AskedMark) → Light (10 + n) g (vote_where_asked m x t o).state
      asked None = stays
      asked (Some mark) = light_vote_on t mark.coord mark.count

      by : (a v c : Bool) → Light (10 + n) g (vote_again_by m x t (standing_by a v c)).state
      by true v c = asked (look x.asked t)
      by false true c = stays
      by false false true = stays
      by false false false = stays

  pub light_alone_commit : (t carried : ℕ) → Light (10 + n) g (member_local_commit m x t carried).state
  light_alone_commit t carried = by (carried == 0)
    where
      granted : (v : Verdict) → Light (10 + n) g (local_commit_by m x t carried v).state
      granted LostOperations = light_drop t
      granted (StaleRead key) = light_drop t
      granted (HeldBy u) = stays
      granted VoteYes = light_alone t local_coord (counted carried) answer.Committed None

      by : (b : Bool) → Light (10 + n) g (if b then says x answer.Absent else local_commit_by m x t carried (vote_of x.engine t carried)).state
      by true = stays
      by false = granted (vote_of x.engine t carried)

  pub light_alone_abort : (t : ℕ) → Light (10 + n) g (member_local_abort x t).state
  light_alone_abort t = by (holds x.engine.active t) (holds x.engine.voted t) (holds x.committed t)
    where
      by : (a v c : Bool) → Light (10 + n) g (local_abort_by x t (standing_by a v c)).state
      by true v c = light_drop t
      by false true c = stays
      by false false true = stays
      by false false false = stays

  pub light_crashed : Light (10 + n) g (member_crash x).state
  light_crashed = light_more n g (10 + n) g (member_crash x).state (omega arith) (omega arith) (light_crash n g m x l)

  pub light_restart : Light (10 + n) g (member_restart x).state
  light_restart = by x.up
    where
      by : (b : Bool) → Light (10 + n) g (restart_by x b).state
      by true = stays
      by false = let s = stays in record { memory = s.memory; told = s.told; stable = s.stable; bytes = s.bytes; headed = s.headed }

  pub light_arming : (call : ℕ) (leaves : Leaves) → Light (10 + n) g (member_arm x call leaves).state
  light_arming call leaves = let s = stays in record { memory = s.memory; told = s.told; stable = s.stable; bytes = s.bytes; headed = s.headed }

  pub light_disarmed : Light (10 + n) g (with_log x (with_stop x.log None))
  light_disarmed = let s = stays in record { memory = s.memory; told = s.told; stable = s.stable; bytes = s.bytes; headed = s.headed }

  pub light_filled : Light (10 + n) (suc g) (member_checkpoint m x).state
  light_filled = light_more n (suc g) (10 + n) (suc g) (member_checkpoint m x).state (omega arith) (omega arith) (light_checkpoint n g m x l)

  light_marked : (t coord count : ℕ) → Light n g (with_mark x t coord count)
  light_marked t coord count = record { memory = l.memory; told = l.told; stable = l.stable; bytes = l.bytes; headed = l.headed }

module _ (n g m : ℕ) (x : MemberState) (l : Light n g x) where
  pub light_prepare : (t coord count : ℕ) → Light (10 + n) g (member_prepare m x t coord count).state
  light_prepare t coord count = by (holds x.engine.active t) (holds x.engine.voted t) (holds x.committed t)
    where
      by : (a v c : Bool) → Light (10 + n) g (prepare_by m x t coord count (standing_by a v c)).state
      by true v c = light_vote_on n g m (with_mark x t coord count) (light_marked n g m x l t coord count) t coord count
      by false true c = stays n g m x l
      by false false true = stays n g m x l
      by false false false = light_vote_on n g m x l t coord count

  pub light_delivery : (note : Message) → Light (10 + n) g (member_deliver m x note).state
  light_delivery (message.Prepare t coord member count) = light_prepare t coord count
  light_delivery (message.Decide t coord member commit) = light_decision n g m x l t coord commit
  light_delivery (message.Vote t member coord granted) = stays n g m x l
  light_delivery (message.Ask t member coord) = stays n g m x l
  light_delivery (message.Ack t member coord) = stays n g m x l
