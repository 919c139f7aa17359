use Rattle.std.proofs.Common.{◌≡◌, ◌==◌, ℕ, Bool, false, sym, subst, arith}
use Rattle.std.specs.Prelude.{IfOk, if◌then◌else◌}
use Rattle.std.proofs.lemmas.Bool.Decides.{nat_tests}
use Rattle.co_message.specs.declared.answer.Answer.TheVariants as answer
use Rattle.co_state.specs.Changes.{sets_of}
use Rattle.co_state.specs.EngineState.{operations_of}
use Rattle.co_state.specs.VotingRule.{kept_count, vote_of}
use Rattle.co_member.specs.Plans.{says, local_vote_plan, plan_of}
use Rattle.co_member.proofs.running.Running.local_commit_plan.Goals as goal

some : (n : ℕ) → (n ≡ 0 → ⊥) → (n == 0) ≡ false
some n apart = grind (arith, nat_tests, apart)

pub returns-clause-plan : goal.returns-clause-plan
returns-clause-plan g c = λ kind m x s unvoted.
    let b = x.engine in
    let t = c.args.t in
    let n = c.args.carried in
    subst (λ (none : Bool). IfOk c.local_vote_plan.result (λ course. plan_of course m x t ≡ (if none then says answer.Absent else local_vote_plan t n (kept_count b t) (sets_of (operations_of b t)) (vote_of b t n)))) (sym (some n c.if-carried-eq0.false))
    (c.local_vote_plan.ensures.plan kind m x s unvoted)
