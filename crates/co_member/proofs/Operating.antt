-- What an operation of a member answers and leaves.
use Rattle.std.proofs.Common.{◌≡◌, ℕ, Bool, true, false, ◌==◌, Option, None, Some, is_some, refl, sym, ap, ◌∙◌, arith}
use Rattle.std.specs.Prelude.{if◌then◌else◌}
use Rattle.std.proofs.lemmas.Bool.Decides.{nat_tests}
use Rattle.co_base.specs.declared.op.Op.{Op}
use Rattle.co_base.specs.Limits.{most_operations}
use Rattle.co_engine.specs.Calls.{seen_by}
use Rattle.co_engine.specs.declared.answers.Seen.{Seen}
use Rattle.co_engine.specs.declared.answers.Seen.TheVariants.{Answer, Blocked}
use Rattle.co_message.specs.declared.answer.Answer.{Answer as Told}
use Rattle.co_message.specs.declared.answer.Answer.TheVariants as answer
use Rattle.co_plain.specs.Member.{member_op, unless_blocked}
use Rattle.co_plain.specs.MemberStep.{says}
use Rattle.co_plain.specs.Numbers.{counted}
use Rattle.co_plain.specs.declared.member_state.MemberState.{MemberState}
use Rattle.co_state.specs.Effects.{after_operation, with_operation}
use Rattle.co_state.specs.LockRule.{lock_blocker}
use Rattle.co_state.specs.ReadRule.{operation_reply}
use Rattle.co_state.specs.VotingRule.{kept_count}

-- what the engine saw, as an answer
abbrev pub told_of : Seen → Told
told_of (Blocked u) = answer.Blocked u
told_of (Answer reply) = answer.Replied reply

answer_by : (x : MemberState) (t : ℕ) (op : Op) (o : Option ℕ) → told_of (seen_by o (operation_reply x.engine t op)) ≡ (unless_blocked x t op o).answer
answer_by x t op None = refl
answer_by x t op (Some u) = refl

pub answered : (x : MemberState) (t : ℕ) (op : Op) → told_of (seen_by (lock_blocker x.engine t op) (operation_reply x.engine t op)) ≡ (unless_blocked x t op (lock_blocker x.engine t op)).answer
answered x t op = answer_by x t op (lock_blocker x.engine t op)

engine_by : (x : MemberState) (t : ℕ) (op : Op) (o : Option ℕ) → (if is_some o then x.engine else with_operation x.engine t op) ≡ (unless_blocked x t op o).state.engine
engine_by x t op None = refl
engine_by x t op (Some u) = refl

pub engine_after : (x : MemberState) (t : ℕ) (op : Op) → after_operation x.engine t op ≡ (unless_blocked x t op (lock_blocker x.engine t op)).state.engine
engine_after x t op = engine_by x t op (lock_blocker x.engine t op)

-- all else stays
rest_by : (x : MemberState) (t : ℕ) (op : Op) (o : Option ℕ) → ((unless_blocked x t op o).state.asked ≡ x.asked) × ((unless_blocked x t op o).state.committed ≡ x.committed) × ((unless_blocked x t op o).state.engine.kind ≡ x.engine.kind)
rest_by x t op None = (refl, refl, refl)
rest_by x t op (Some u) = (refl, refl, refl)

pub rest_after : (x : MemberState) (t : ℕ) (op : Op) → let y = (unless_blocked x t op (lock_blocker x.engine t op)).state in (y.asked ≡ x.asked) × (y.committed ≡ x.committed) × (y.engine.kind ≡ x.engine.kind)
rest_after x t op = rest_by x t op (lock_blocker x.engine t op)

-- the counts agree, and there are not too many
pub operates : (x : MemberState) (t carried : ℕ) (op : Op) → kept_count x.engine t ≡ carried → (carried ≡ most_operations → ⊥) → unless_blocked x t op (lock_blocker x.engine t op) ≡ member_op x t carried op
operates x t carried op same few =
    let yes_same : (kept_count x.engine t == carried) ≡ true = grind (arith, nat_tests, same) in
    let not_many : (carried == most_operations) ≡ false = grind (arith, nat_tests, few) in
    let step = unless_blocked x t op (lock_blocker x.engine t op) in
    sym (ap (λ b. if b then (if carried == most_operations then says x answer.TooMany else step) else says x (answer.Gone (counted (kept_count x.engine t)) (counted carried))) yes_same
    ∙ ap (λ b. if b then says x answer.TooMany else step) not_many)

log_by : (x : MemberState) (t : ℕ) (op : Op) (o : Option ℕ) → ((unless_blocked x t op o).state.log ≡ x.log) × ((unless_blocked x t op o).state.up ≡ x.up)
log_by x t op None = (refl, refl)
log_by x t op (Some u) = (refl, refl)

few_by : (x : MemberState) (t carried : ℕ) (op : Op) (b : Bool)
    → let y = (if b then says x answer.TooMany else unless_blocked x t op (lock_blocker x.engine t op)).state in (y.log ≡ x.log) × (y.up ≡ x.up)
few_by x t carried op true = (refl, refl)
few_by x t carried op false = log_by x t op (lock_blocker x.engine t op)

op_by : (x : MemberState) (t carried : ℕ) (op : Op) (b : Bool)
    → let y = (if b then (if carried == most_operations then says x answer.TooMany else unless_blocked x t op (lock_blocker x.engine t op)) else says x (answer.Gone (counted (kept_count x.engine t)) (counted carried))).state in (y.log ≡ x.log) × (y.up ≡ x.up)
op_by x t carried op true = few_by x t carried op (carried == most_operations)
op_by x t carried op false = (refl, refl)

-- an operation touches neither the log nor whether the member runs
pub op_log : (x : MemberState) (t carried : ℕ) (op : Op) → ((member_op x t carried op).state.log ≡ x.log) × ((member_op x t carried op).state.up ≡ x.up)
op_log x t carried op = op_by x t carried op (kept_count x.engine t == carried)
