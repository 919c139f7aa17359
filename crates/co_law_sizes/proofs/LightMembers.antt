-- A member beside the bytes that its clients spent: what it holds is bounded by them, and so is its log.
use Rattle.std.proofs.Common.{◌≡◌, ℕ, ◌+◌, ◌*◌, ◌≤◌, Bool, true, false, List, ◌++◌, Option, None, Some, refl, ap, arith}
use Rattle.std.specs.Cmp.{nat_cmp_total}
use Rattle.std.specs.Ordering.{nat_cmp}
use Rattle.std.specs.FinMap.{entries, nat_cmp-IsAntisymmetric}
use Rattle.co_base.specs.declared.head.Kind.{Kind}
use Rattle.co_message.specs.declared.answer.Answer.{Answer}
use Rattle.co_message.specs.declared.message.Message.{Message}
use Rattle.co_record.specs.declared.record.Record.{Record}
use Rattle.co_frame.specs.Gate.{batch_is_stable}
use Rattle.co_state.specs.declared.engine_state.EngineState.{EngineState}
use Rattle.co_state.specs.declared.engine_state.Vote.{Vote}
use Rattle.co_state.specs.Table.{look}
use Rattle.co_state.specs.Effects.{install_vote}
use Rattle.co_plain.specs.declared.log_state.LogState.{LogState}
use Rattle.co_plain.specs.declared.member_state.MemberState.{MemberState}
use Rattle.co_plain.specs.declared.member_view.MemberView.{MemberView}
use Rattle.co_plain.specs.declared.outcome.Outcome.{Outcome}
use Rattle.co_plain.specs.declared.outcome.Outcome.TheVariants.{Completes, StopsAt}
use Rattle.co_plain.specs.LogWrite.{outcome_of, with_batch}
use Rattle.co_plain.specs.MemberView.{Numbers, view_of, recovered_view, cast_in, forget_in, install_in, with_number}
use Rattle.co_plain.specs.MemberStep.{member_down_with, stopped_member, forced_by, force_member}
use Rattle.co_plain.specs.Invariants.{Memory, view}
use Rattle.co_log.specs.Sizes.{log_bytes}
use Rattle.co_law_sizes.proofs.Weights.{weighs, held, insert_weighs, remove_weighs, empty_weighs}
use Rattle.co_law_sizes.proofs.Bytes.{records_weight, changes_weight, sets_bytes, active_weight, voted_weight}
use Rattle.co_law_sizes.proofs.Records.{headers, older_bytes, older_headers}

-- a committed number takes four bytes in a checkpoint
abbrev pub number_weight : ℕ → Unit {0} → ℕ
number_weight t u = 4

abbrev pub view_weight : MemberView → ℕ
view_weight v = records_weight v.records + weighs voted_weight (entries v.voted) + weighs number_weight (entries v.committed)

abbrev pub active_bytes : EngineState → ℕ
active_bytes b = weighs active_weight (entries b.active)

-- With so many bytes spent, and a generation: in memory, by its records with the waiting ones and by the stable ones alone, a member
-- holds no more than was spent, with what is active counted too; and its log is no longer than three times that, and a little.
pub record Light (spent generation : ℕ) (x : MemberState) : Type 0 where
  pub memory : view_weight (view Memory x) + active_bytes x.engine ≤ spent
  pub told : view_weight (recovered_view (x.log.waiting ++ x.log.stable)) + active_bytes x.engine ≤ spent
  pub stable : view_weight (recovered_view x.log.stable) ≤ spent
  pub bytes : log_bytes (x.log.waiting ++ x.log.stable) + active_bytes x.engine ≤ 31 + 3 * spent
  pub headed : headers (x.log.waiting ++ x.log.stable) ≤ generation

pub light_more : (n g m h : ℕ) (x : MemberState) → n ≤ m → g ≤ h → Light n g x → Light m h x
light_more n g m h x some up l =
    record {
      memory = omega (arith, some, l.memory);
      told = omega (arith, some, l.told);
      stable = omega (arith, some, l.stable);
      bytes = omega (arith, some, l.bytes);
      headed = omega (arith, up, l.headed);
    }

-- ---- views

pub cast_weight : (v : MemberView) (t : ℕ) (vote : Vote) → view_weight (cast_in v t vote) ≤ view_weight v + 6 + sets_bytes vote.sets
cast_weight v t vote = omega (arith, insert_weighs nat_cmp_total nat_cmp-IsAntisymmetric voted_weight v.voted t vote)

pub forget_weight : (v : MemberView) (t : ℕ) → view_weight (forget_in v t) ≤ view_weight v
forget_weight v t = omega (arith, remove_weighs nat_cmp_total nat_cmp-IsAntisymmetric voted_weight v.voted t)

number_more : (numbers : Numbers) (t : ℕ) → weighs number_weight (entries (with_number numbers t)) ≤ 4 + weighs number_weight (entries numbers)
number_more numbers t = omega (arith, insert_weighs nat_cmp_total nat_cmp-IsAntisymmetric number_weight numbers t tt)

-- what a vote wrote becomes rows, and its number is kept
pub install_weight : (v : MemberView) (t : ℕ) (o : Option Vote) → look v.voted t ≡ o → view_weight (install_in v t o) ≤ view_weight v + 4
install_weight v t None e = omega arith
install_weight v t (Some vote) e =
    omega (arith, changes_weight vote.sets.writes v.records, remove_weighs nat_cmp_total nat_cmp-IsAntisymmetric voted_weight v.voted t, ap (held voted_weight t) e, number_more v.committed t)

pub installed_weight : (b : EngineState) (numbers : Numbers) (t : ℕ) (o : Option Vote) → look b.voted t ≡ o →
    view_weight (view_of (install_vote b t o) (with_number numbers t)) ≤ view_weight (view_of b numbers) + 4
installed_weight b numbers t None e = omega (arith, number_more numbers t)
installed_weight b numbers t (Some vote) e = install_weight (view_of b numbers) t (Some vote) e

pub installed_active : (b : EngineState) (t : ℕ) (o : Option Vote) → active_bytes (install_vote b t o) ≡ active_bytes b
installed_active b t None = refl
installed_active b t (Some vote) = refl

-- ---- logs

-- a member that is down, or was opened, holds what its records tell
pub light_down : (n g : ℕ) (kind : Kind) (l : LogState) → view_weight (recovered_view l.stable) ≤ n → log_bytes l.stable ≤ 31 + 3 * n → headers l.stable ≤ g →
    Light n g (member_down_with kind l)
light_down n g kind l tells bytes up =
    record {
      memory = omega (arith, tells, nothing);
      told = omega (arith, tells, nothing);
      stable = tells;
      bytes = omega (arith, bytes, nothing);
      headed = up;
    }
  where
    nothing : active_bytes (member_down_with kind l).engine ≡ 0
    nothing = empty_weighs nat_cmp active_weight

-- however a forced write ends
pub light_forced : (n g m : ℕ) (next : MemberState) (batch : List Record) (a : Answer) (message : Option Message) →
    view_weight (view Memory next) + active_bytes next.engine ≤ n →
    view_weight (recovered_view (batch ++ (next.log.waiting ++ next.log.stable))) + active_bytes next.engine ≤ n →
    view_weight (recovered_view next.log.stable) ≤ n →
    log_bytes (batch ++ (next.log.waiting ++ next.log.stable)) + active_bytes next.engine ≤ 31 + 3 * n →
    headers (batch ++ (next.log.waiting ++ next.log.stable)) ≤ g →
    Light n g (force_member m next batch a message).state
light_forced n g m next batch a message memory told stable bytes up = by (outcome_of next.log.armed 4)
  where
    older : log_bytes next.log.stable ≤ log_bytes (batch ++ (next.log.waiting ++ next.log.stable))
    older = omega (arith, older_bytes next.log.waiting next.log.stable, older_bytes batch (next.log.waiting ++ next.log.stable))

    older_up : headers next.log.stable ≤ headers (batch ++ (next.log.waiting ++ next.log.stable))
    older_up = omega (arith, older_headers next.log.waiting next.log.stable, older_headers batch (next.log.waiting ++ next.log.stable))

    stopped : (call : ℕ) (c : Bool) → Light n g (stopped_member m next call c batch).state
    stopped call true = light_down n g next.engine.kind (with_batch next.log batch) (omega (arith, told)) (omega (arith, bytes)) up
    stopped call false = light_down n g next.engine.kind next.log stable (omega (arith, bytes, older)) (omega (arith, up, older_up))

    by : (o : Outcome) → Light n g (forced_by m next batch a message o).state
    by Completes = record { memory = memory; told = told; stable = omega (arith, told); bytes = bytes; headed = up }
    by (StopsAt call leaves) = stopped call (batch_is_stable call leaves)
