use Rattle.std.proofs.Common.{◌≡◌, ◌∷◌, ◌++◌, [], sym, ap, ◌∙◌}
use Rattle.std.specs.Prelude.{Some}
use Rattle.co_state.specs.EngineState.{sets_at}
use Rattle.co_state.specs.Table.{look}
use Rattle.co_state.specs.declared.engine_state.Sets.{Sets}
use Rattle.co_state.proofs.Tables.{on_ok}
use Rattle.co_undecided.specs.Kept.{vote_told}
use Rattle.co_undecided.specs.declared.entry.Entry.{Entry}
use Rattle.co_undecided.proofs.Voting.{voted_here}
use Rattle.co_undecided.proofs.undecideds.Undecideds.add_vote.Goals as goal

pub returns-in_ok-copy-in-Voted : goal.returns-in_ok-copy-in-Voted
returns-in_ok-copy-in-Voted g c = λ b asked r here.
    let t = c.args.t in
    let coord = c.in-Voted.coord in
    let count = c.in-Voted.count in
    let is = sym (r.entries t) ∙ here ∙ ap Some c.in-Voted.is in
    let sets = c.in_ok-copy-in-Voted.ensures ∙ c.sets.ensures b asked r (voted_here (look b.active t) (look b.voted t) (look asked t) coord count is) in
    on_ok c.push.result (λ (e : c.push.new.self ≡ c.args.votes.now ++ record { txn = t; coord = coord; count = count; sets = c.in_ok-copy-in-Voted.field-0 } ∷ []).
    e ∙ ap (λ (s : Sets). c.args.votes.now ++ record { txn = t; coord = coord; count = count; sets = s } ∷ []) sets
    ∙ ap (λ (entry : Entry). c.args.votes.now ++ vote_told (sets_at b) t entry) (sym c.in-Voted.is)) c.push.ensures.ok
