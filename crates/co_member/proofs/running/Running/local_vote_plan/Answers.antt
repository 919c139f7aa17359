use Rattle.std.proofs.Common.{ℕ, None, sym, ap, ◌∙◌}
use Rattle.co_message.specs.declared.answer.Answer.TheVariants as answer
use Rattle.co_plain.specs.Numbers.{counted}
use Rattle.co_state.specs.Changes.{sets_of}
use Rattle.co_state.specs.EngineState.{operations_of}
use Rattle.co_state.specs.VotingRule.{kept_count}
use Rattle.co_vote.specs.Ballots.{verdict_of}
use Rattle.co_member.specs.Plans.{drops, local_vote_plan, plan_of}
use Rattle.co_member.specs.declared.plan.Course.TheVariants.{Carries}
use Rattle.co_member.specs.declared.plan.Plan.{Plan}
use Rattle.co_member.proofs.Changing.{counted_small}
use Rattle.co_member.proofs.running.Running.local_vote_plan.Goals as goal

pub returns-in-NoLost-clause-plan : goal.returns-in-NoLost-clause-plan
returns-in-NoLost-clause-plan g c = λ kind m x s unvoted.
    let b = x.engine in
    let t = c.args.t in
    let v = sym (c.ballot.ensures b x.asked s.undecided unvoted) ∙ ap verdict_of c.in-NoLost.is in
    let kept = sym (counted_small c.kept.result c.kept.type_inv) ∙ ap counted (c.kept.ensures.counted b x.asked s.undecided) in
    let carried = sym (counted_small c.args.carried c.ranges.carried.fits) in
    ap (λ (p : Plan). plan_of (Carries p) m x t) c.drops.ensures ∙ ap (λ (k : ℕ). drops (answer.NoLost k c.args.carried) None) kept ∙ ap (λ (n : ℕ). drops (answer.NoLost (counted (kept_count b t)) n) None) carried
    ∙ ap (local_vote_plan t c.args.carried (kept_count b t) (sets_of (operations_of b t))) (sym v)

pub returns-in-Ok-clause-plan : goal.returns-in-Ok-clause-plan
returns-in-Ok-clause-plan g c = λ kind m x s unvoted.
    let b = x.engine in
    let t = c.args.t in
    let v = sym (c.ballot.ensures b x.asked s.undecided unvoted) ∙ ap verdict_of c.in-NoStale.is in
    ap (λ (p : Plan). plan_of (Carries p) m x t) c.drops-in-Ok.ensures ∙ ap (λ key. drops (answer.NoStale key) None) c.in-Ok.ensures
    ∙ ap (local_vote_plan t c.args.carried (kept_count b t) (sets_of (operations_of b t))) (sym v)

pub returns-in-Held-clause-plan : goal.returns-in-Held-clause-plan
returns-in-Held-clause-plan g c = λ kind m x s unvoted.
    let b = x.engine in
    let t = c.args.t in
    let v = sym (c.ballot.ensures b x.asked s.undecided unvoted) ∙ ap verdict_of c.in-Held.is in
    ap (λ (p : Plan). plan_of (Carries p) m x t) c.says.ensures ∙ ap (local_vote_plan t c.args.carried (kept_count b t) (sets_of (operations_of b t))) (sym v)

pub returns-in-Yes-clause-plan : goal.returns-in-Yes-clause-plan
returns-in-Yes-clause-plan g c = λ kind m x s unvoted.
    let b = x.engine in
    let t = c.args.t in
    let v = sym (c.ballot.ensures b x.asked s.undecided unvoted) ∙ ap verdict_of c.in-Yes.is in
    ap (local_vote_plan t c.args.carried (kept_count b t) (sets_of (operations_of b t))) (sym v)
