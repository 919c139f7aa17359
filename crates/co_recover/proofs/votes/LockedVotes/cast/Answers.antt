use Rattle.std.proofs.Common.{None, Some, if◌then◌else◌, refl, ap, subst, ◌∙◌}
use Rattle.co_state.specs.Table.{Table, put}
use Rattle.co_state.specs.declared.engine_state.Sets.{Sets}
use Rattle.co_state.specs.declared.engine_state.Vote.{Vote}
use Rattle.co_recover.proofs.Keyed.{against_alike}
use Rattle.co_recover.proofs.Meeting.{answered}
use Rattle.co_recover.specs.Locked.{IsFound, is_against, without_values}
use Rattle.co_recover.proofs.votes.LockedVotes.cast.Goals as goal

pub returns-then-is_some : goal.returns-then-is_some
returns-then-is_some c =
    let voted = c.args.self.now in
    let same = c.in_ok-sets.ensures ∙ ap (λ (v : Vote). without_values v.sets) c.vote.view_is in
    ap (λ b. if b then None else Some (put voted c.args.t c.args.vote))
    (c.if-is_some.ensures ∙ answered c.self.inside.locks c.self.inside.voted voted c.args.t c.args.vote c.args.vote.sets c.vote_against.result c.self.view_is c.requires refl c.self.invariant
    (λ v h. against_alike v c.args.t c.args.vote.sets c.vote_against.result (subst (λ (s : Sets). IsFound (is_against v c.args.t s) c.vote_against.result) same (c.vote_against.ensures v h))))

pub returns : goal.returns
returns c =
    let voted = c.args.self.now in
    let same = c.in_ok-sets.ensures ∙ ap (λ (v : Vote). without_values v.sets) c.vote.view_is in
    ap (λ (v : Table Vote). Some v) (c.replace.ensures.after ∙ c.in_ok-after.ensures ∙ ap (λ (v : Table Vote). put v c.args.t c.args.vote) c.replace-votes.ensures.value)
    ∙ ap (λ b. if b then None else Some (put voted c.args.t c.args.vote))
    (c.if-is_some.ensures ∙ answered c.self.inside.locks c.self.inside.voted voted c.args.t c.args.vote c.args.vote.sets c.vote_against.result c.self.view_is c.requires refl c.self.invariant
    (λ v h. against_alike v c.args.t c.args.vote.sets c.vote_against.result (subst (λ (s : Sets). IsFound (is_against v c.args.t s) c.vote_against.result) same (c.vote_against.ensures v h))))

pub add-requires-clause-sets : goal.add-requires-clause-sets
add-requires-clause-sets c = c.in_ok-sets.ensures ∙ ap (λ (v : Vote). without_values v.sets) c.vote.view_is
