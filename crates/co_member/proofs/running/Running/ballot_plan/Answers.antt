use Rattle.std.proofs.Common.{ℕ, Some, false, sym, ap, ◌∙◌}
use Rattle.co_message.specs.declared.answer.Answer.TheVariants as answer
use Rattle.co_message.specs.declared.message.Message.TheVariants as message
use Rattle.co_plain.specs.Numbers.{counted}
use Rattle.co_state.specs.Changes.{sets_of}
use Rattle.co_state.specs.EngineState.{operations_of}
use Rattle.co_state.specs.VotingRule.{kept_count}
use Rattle.co_vote.specs.Ballots.{verdict_of}
use Rattle.co_member.specs.Plans.{drops, plan_of, vote_plan}
use Rattle.co_member.specs.declared.plan.Course.{Course}
use Rattle.co_member.proofs.Changing.{counted_small}
use Rattle.co_member.proofs.running.Running.ballot_plan.Goals as goal

pub returns-in-NoLost : goal.returns-in-NoLost
returns-in-NoLost g c = λ kind x s unvoted.
    let b = x.engine in
    let t = c.args.t in
    let v = sym (c.ballot.ensures b x.asked s.undecided unvoted) ∙ ap verdict_of c.in-NoLost.is in
    let kept = sym (counted_small c.kept.result c.kept.type_inv) ∙ ap counted (c.kept.ensures.counted b x.asked s.undecided) in
    ap (λ (k : Course). plan_of k c.args.member x t) c.refuses.ensures ∙ ap (λ (k : ℕ). drops (answer.NoLost k c.args.count) (Some (message.Vote t c.args.member c.args.coord false))) kept
    ∙ ap (vote_plan c.args.member t c.args.coord c.args.count (kept_count b t) (sets_of (operations_of b t))) (sym v)

pub returns-in-Ok : goal.returns-in-Ok
returns-in-Ok g c = λ kind x s unvoted.
    let b = x.engine in
    let t = c.args.t in
    let v = sym (c.ballot.ensures b x.asked s.undecided unvoted) ∙ ap verdict_of c.in-NoStale.is in
    ap (λ (k : Course). plan_of k c.args.member x t) c.refuses-in-Ok.ensures ∙ ap (λ key. drops (answer.NoStale key) (Some (message.Vote t c.args.member c.args.coord false))) c.in-Ok.ensures
    ∙ ap (vote_plan c.args.member t c.args.coord c.args.count (kept_count b t) (sets_of (operations_of b t))) (sym v)

pub returns-in-Held : goal.returns-in-Held
returns-in-Held g c = λ kind x s unvoted.
    let b = x.engine in
    let t = c.args.t in
    let v = sym (c.ballot.ensures b x.asked s.undecided unvoted) ∙ ap verdict_of c.in-Held.is in
    c.says.ensures ∙ ap (vote_plan c.args.member t c.args.coord c.args.count (kept_count b t) (sets_of (operations_of b t))) (sym v)

pub returns-in-Yes : goal.returns-in-Yes
returns-in-Yes g c = λ kind x s unvoted.
    let b = x.engine in
    let t = c.args.t in
    let v = sym (c.ballot.ensures b x.asked s.undecided unvoted) ∙ ap verdict_of c.in-Yes.is in
    ap (vote_plan c.args.member t c.args.coord c.args.count (kept_count b t) (sets_of (operations_of b t))) (sym v)
