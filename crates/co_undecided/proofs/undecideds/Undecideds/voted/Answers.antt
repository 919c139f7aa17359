use Rattle.std.proofs.Common.{◌++◌, List, sym, ap, subst, ◌∙◌, append_assoc, append-nil}
use Rattle.co_pairs.specs.declared.prepared.Prepared.{Prepared}
use Rattle.co_state.specs.EngineState.{sets_at}
use Rattle.co_undecided.specs.Kept.{vote_told, votes_told}
use Rattle.co_undecided.proofs.Voting.{AreFound, all_found, told_votes}
use Rattle.co_undecided.proofs.undecideds.Undecideds.voted.Goals as goal

pub loop-t-init : goal.loop-t-init
loop-t-init g c = (
  subst (AreFound c.args.self.now.entries) (sym (c.into_iter-t-iterator.ensures.into_iter_gives ∙ c.iter-t-items.ensures)) (all_found c.args.self.now.entries),
  λ b asked r. ap (λ (votes : List Prepared). votes ++ votes_told (sets_at b) c.into_iter-t-iterator.result) c.new-votes.ensures,
)

pub loop-t-preserved : goal.loop-t-preserved
loop-t-preserved g c =
    let steps = c.in-Some.ensures.steps in
    let are = subst (AreFound c.args.self.now.entries) steps c.loop-t.invariant.0 in (
      are.1,
      λ b asked r.
          ap (λ (votes : List Prepared). votes ++ votes_told (sets_at b) c.next.new.self) (c.in_ok-add_vote.ensures b asked r are.0)
          ∙ append_assoc c.loop-t.votes (vote_told (sets_at b) c.in-Some.t.now c.in-Some.entry.now) (votes_told (sets_at b) c.next.new.self)
          ∙ ap (λ es. c.loop-t.votes ++ votes_told (sets_at b) es) (sym steps) ∙ c.loop-t.invariant.1 b asked r,
    )

pub returns : goal.returns
returns g c = λ b asked r.
    sym (append-nil c.loop-t.votes) ∙ ap (λ es. c.loop-t.votes ++ votes_told (sets_at b) es) (sym c.in-None.ensures.steps.0) ∙ c.loop-t.invariant.1 b asked r
    ∙ ap (votes_told (sets_at b)) (c.into_iter-t-iterator.ensures.into_iter_gives ∙ c.iter-t-items.ensures) ∙ told_votes c.args.self.now.entries b asked r.entries
