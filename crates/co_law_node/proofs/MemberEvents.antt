-- Each event keeps a member whole.
use Rattle.std.proofs.Common.{◌≡◌, ℕ, Bool, true, false, ◌==◌, ◌≤◌, ◌<◌, if◌then◌else◌, List, [], ◌∷◌, length, reverse, Option, None, Some, refl, sym, ap, ◌∙◌, arith}
use Rattle.std.proofs.lemmas.Bool.{or_from, eqb-true}
use Rattle.std.proofs.lemmas.Bool.Decides.{nat_tests}
use Rattle.co_base.specs.declared.head.Kind.{Kind}
use Rattle.co_base.specs.declared.leaves.Leaves.{Leaves}
use Rattle.co_base.specs.declared.node.Node.TheVariants as node
use Rattle.co_base.specs.declared.op.Op.{Op}
use Rattle.co_base.specs.Limits.{most_operations}
use Rattle.co_message.specs.declared.answer.Answer.TheVariants as answer
use Rattle.co_message.specs.declared.message.Message.TheVariants as message
use Rattle.co_record.specs.declared.record.Record.{Record}
use Rattle.co_state.specs.declared.engine_state.Operation.{Operation}
use Rattle.co_state.specs.declared.verdict.Verdict.{Verdict}
use Rattle.co_state.specs.declared.verdict.Verdict.TheVariants.{LostOperations, StaleRead, HeldBy, VoteYes}
use Rattle.co_state.specs.Table.{look, holds}
use Rattle.co_state.specs.EngineState.{operations_in, operations_of}
use Rattle.co_state.specs.LockRule.{lock_blocker}
use Rattle.co_state.specs.VotingRule.{vote_of, kept_count}
use Rattle.co_plain.specs.declared.member_state.AskedMark.{AskedMark}
use Rattle.co_plain.specs.declared.member_state.MemberState.{MemberState}
use Rattle.co_plain.specs.Numbers.{counted, IsAmong}
use Rattle.co_plain.specs.LogWrite.{with_stop}
use Rattle.co_plain.specs.MemberView.{recovered_view, first_refused_at_member}
use Rattle.co_plain.specs.MemberStep.{says, standing_by, with_log}
use Rattle.co_plain.specs.Member.{unless_blocked, member_op, vote_by, vote_on, with_mark, prepare_by, member_prepare, vote_where_asked, vote_again_by, member_vote, commit_by, abort_by, member_decide, timer_by, member_timer, ask_by, member_ask}
use Rattle.co_plain.specs.MemberLog.{restart_by, member_restart, member_crash, member_arm}
use Rattle.co_plain.specs.LocalCommit.{local_coord, local_commit_by, member_local_commit, local_abort_by, member_local_abort}
use Rattle.co_plain.specs.Opening.{Found, made, opened_member}
use Rattle.co_plain.specs.Invariants.{Memory, view, stands}
use Rattle.co_law_base.proofs.Lookups.{is_nothing, look_none, holds_found}
use Rattle.co_law_node.proofs.Allowed.{Allowed, allowed_from}
use Rattle.co_law_node.proofs.WholeMoves.{Whole, whole_down, stable_allowed, alike, drops, drops_vote, marks, runs}
use Rattle.co_law_node.proofs.WholeVotes.{operates, casts, installs, commits_alone}

module _ (coords : ℕ) (x : MemberState) (w : Whole coords x) where
  -- who is active stands nowhere
  active_stands : (t : ℕ) → holds x.engine.active t ≡ true → stands (view Memory x) t ≡ false
  active_stands t h = let p = holds_found x.engine.active t h in (w.keeps.active t p.0 p.1).0

  pub few_kept : (t : ℕ) → length (operations_of x.engine t) ≤ most_operations
  few_kept t = by (look x.engine.active t) refl
    where
      by : (o : Option (List Operation)) → look x.engine.active t ≡ o → length (operations_in o) ≤ most_operations
      by None e = omega arith
      by (Some os) e = (w.keeps.active t os e).2

  pub whole_operation : (t carried : ℕ) (op : Op) → x.up ≡ true → stands (view Memory x) t ≡ false → Whole coords (member_op x t carried op).state
  whole_operation t carried op u n = kept (kept_count x.engine t == carried) refl
    where
      free : length (operations_of x.engine t) < most_operations → (o : Option ℕ) → Whole coords (unless_blocked x t op o).state
      free few (Some k) = w
      free few None = operates coords x w t op u n few

      room : (kept_count x.engine t == carried) ≡ true → (b : Bool) → (carried == most_operations) ≡ b →
          Whole coords (if b then says x answer.TooMany else unless_blocked x t op (lock_blocker x.engine t op)).state
      room e true f = w
      room e false f =
          free (let few = few_kept t in let same : kept_count x.engine t ≡ carried = eqb-true (kept_count x.engine t) carried e in grind (arith, nat_tests, few, same, f))
          (lock_blocker x.engine t op)

      kept : (b : Bool) → (kept_count x.engine t == carried) ≡ b →
          Whole coords (if b
          then (if carried == most_operations then says x answer.TooMany else unless_blocked x t op (lock_blocker x.engine t op))
          else says x (answer.Gone (counted (kept_count x.engine t)) (counted carried))).state
      kept true e = room e (carried == most_operations) refl
      kept false e = w

  -- a vote, whatever its verdict
  votes_on : (m t coord count : ℕ) → IsAmong coord coords → x.up ≡ true → stands (view Memory x) t ≡ false → Whole coords (vote_on m x t coord count).state
  votes_on m t coord count own u n = by (vote_of x.engine t count) refl
    where
      by : (v : Verdict) → vote_of x.engine t count ≡ v → Whole coords (vote_by m x t coord count v).state
      by LostOperations e = drops coords x w t u n
      by (StaleRead key) e = drops coords x w t u n
      by (HeldBy k) e = w
      by VoteYes e = casts coords x w m t coord count answer.Yes (Some (message.Vote t m coord true)) u e n own

  pub whole_decision : (m t coord : ℕ) (commit : Bool) → x.up ≡ true → Whole coords (member_decide m x t coord commit).state
  whole_decision m t coord true u = by (holds x.engine.active t) (holds x.engine.voted t) refl (holds x.committed t)
    where
      by : (a v : Bool) → holds x.engine.voted t ≡ v → (c : Bool) → Whole coords (commit_by m x t coord (standing_by a v c)).state
      by true v e c = w
      by false true e c = installs coords x w m t answer.Installed (Some (message.Ack t m coord)) u e
      by false false e true = w
      by false false e false = w
  whole_decision m t coord false u = by (holds x.engine.active t) refl (holds x.engine.voted t) refl (holds x.committed t)
    where
      by : (a : Bool) → holds x.engine.active t ≡ a → (v : Bool) → holds x.engine.voted t ≡ v → (c : Bool) → Whole coords (abort_by x t (standing_by a v c)).state
      by true e v f c = drops coords x w t u (active_stands t e)
      by false e true f c = drops_vote coords x w t u f
      by false e false f true = w
      by false e false f false = w

  pub whole_timer : (t : ℕ) → x.up ≡ true → Whole coords (member_timer x t).state
  whole_timer t u = by (holds x.engine.active t) refl (holds x.engine.voted t) (holds x.committed t)
    where
      by : (a : Bool) → holds x.engine.active t ≡ a → (v c : Bool) → Whole coords (timer_by x t (standing_by a v c)).state
      by true e v c = drops coords x w t u (active_stands t e)
      by false e true c = w
      by false e false true = w
      by false e false false = w

  pub whole_question : (m t : ℕ) → Whole coords (member_ask m x t).state
  whole_question m t = by (holds x.engine.active t) (holds x.engine.voted t) (holds x.committed t)
    where
      by : (a v c : Bool) → Whole coords (ask_by m x t (standing_by a v c)).state
      by true v c = w
      by false true c = w
      by false false true = w
      by false false false = w

  pub whole_vote : (m t : ℕ) → x.up ≡ true → Whole coords (member_vote m x t).state
  whole_vote m t u = by (holds x.engine.active t) refl (holds x.engine.voted t) (holds x.committed t)
    where
      asked : stands (view Memory x) t ≡ false → (o : Option AskedMark) → look x.asked t ≡ o → Whole coords (vote_where_asked m x t o).state
      asked n None e = w
      asked n (Some mark) e = votes_on m t mark.coord mark.count (w.keeps.marked t mark e).1 u n

      by : (a : Bool) → holds x.engine.active t ≡ a → (v c : Bool) → Whole coords (vote_again_by m x t (standing_by a v c)).state
      by true e v c = asked (active_stands t e) (look x.asked t) refl
      by false e true c = w
      by false e false true = w
      by false e false false = w

  pub whole_crash : Whole coords (member_crash x).state
  whole_crash = whole_down coords x.engine.kind x.log (stable_allowed coords x w) w.headed

  pub whole_restart : Whole coords (member_restart x).state
  whole_restart = by x.up
    where
      by : (b : Bool) → Whole coords (restart_by x b).state
      by true = w
      by false = alike coords x w true x.log.armed x.log.spare_closed (λ e. absurd (let z : true ≡ false = e in cc))

  pub whole_arming : (call : ℕ) (leaves : Leaves) → x.up ≡ true → Whole coords (member_arm x call leaves).state
  whole_arming call leaves u = alike coords x w x.up (Some (record { call = call; leaves = leaves })) x.log.spare_closed (runs x u)

  pub whole_disarmed : Whole coords (with_log x (with_stop x.log None))
  whole_disarmed = alike coords x w x.up None x.log.spare_closed (λ e. ap (λ z. with_log z (with_stop z.log None)) (w.down e))

  pub whole_local_commit : (m t carried : ℕ) → 1 ≤ coords → x.up ≡ true → stands (view Memory x) t ≡ false → Whole coords (member_local_commit m x t carried).state
  whole_local_commit m t carried some u n = by (carried == 0)
    where
      granted : (v : Verdict) → vote_of x.engine t carried ≡ v → Whole coords (local_commit_by m x t carried v).state
      granted LostOperations e = drops coords x w t u n
      granted (StaleRead key) e = drops coords x w t u n
      granted (HeldBy k) e = w
      granted VoteYes e = commits_alone coords x w m t local_coord (counted carried) carried answer.Committed None u e n (omega arith, some)

      by : (b : Bool) → Whole coords (if b then says x answer.Absent else local_commit_by m x t carried (vote_of x.engine t carried)).state
      by true = w
      by false = granted (vote_of x.engine t carried) refl

  pub whole_local_abort : (t : ℕ) → x.up ≡ true → Whole coords (member_local_abort x t).state
  whole_local_abort t u = by (holds x.engine.active t) refl (holds x.engine.voted t) (holds x.committed t)
    where
      by : (a : Bool) → holds x.engine.active t ≡ a → (v c : Bool) → Whole coords (local_abort_by x t (standing_by a v c)).state
      by true e v c = drops coords x w t u (active_stands t e)
      by false e true c = w
      by false e false true = w
      by false e false false = w

module _ (coords : ℕ) (x : MemberState) (w : Whole coords x) where
  pub whole_prepare : (m t coord count : ℕ) → IsAmong coord coords → 1 ≤ count → x.up ≡ true → Whole coords (member_prepare m x t coord count).state
  whole_prepare m t coord count own some u =
      by (holds x.engine.active t) refl (holds x.engine.voted t) refl (holds x.committed t) refl
    where
      by : (a : Bool) → holds x.engine.active t ≡ a → (v : Bool) → holds x.engine.voted t ≡ v → (c : Bool) → holds x.committed t ≡ c →
          Whole coords (prepare_by m x t coord count (standing_by a v c)).state
      by true e v f c g =
          votes_on coords (with_mark x t coord count) (marks coords x w t coord count u e own some) m t coord count own u (active_stands coords x w t e)
      by false e true f c g = w
      by false e false f true g = w
      by false e false f false g = votes_on coords x w m t coord count own u (or_from _ _ f g)

-- an opened member is whole
pub whole_opened : (coords : ℕ) (kinds : List Kind) (m : ℕ) (found : Found) → first_refused_at_member coords (reverse found.records) ≡ None → Whole coords (opened_member kinds m found)
whole_opened coords kinds m found h =
    let p = told found.records h in
    record {
      allowed = p.0;
      headed = p.1;
      aborts = tt;
      logged = p.2;
      keeps = record {
        active = λ t os e. is_nothing (sym (look_none t) ∙ e);
        installed = λ t e. absurd (let z : false ≡ true = e in cc);
        marked = λ t mark e. is_nothing (sym (look_none t) ∙ e);
      };
      down = λ e. absurd (let z : true ≡ false = e in cc);
    }
  where
    -- a header is made where there are no records
    told : (rs : List Record) → first_refused_at_member coords (reverse rs) ≡ None →
        Allowed coords (made (node.Member m) rs) × (1 ≤ length (made (node.Member m) rs)) × (recovered_view (made (node.Member m) rs) ≡ recovered_view rs)
    told [] a = ((refl, tt), omega arith, refl)
    told (r ∷ rs) a = (allowed_from coords (r ∷ rs) a, omega arith, refl)
