use Rattle.std.proofs.Common.{ap, ◌∙◌}
use Rattle.co_state.specs.Effects.{restored}
use Rattle.co_state.specs.Table.{look}
use Rattle.co_state.proofs.Tables.{on_ok}
use Rattle.co_pairs.specs.Votes.{votes_of}
use Rattle.co_undecided.proofs.Restoring.{one_vote, not_there}
use Rattle.co_undecided.proofs.undecideds.enter.Goals as goal

pub returns : goal.returns
returns c = λ ps so_far clear.
    let p = c.args.vote.now in
    on_ok c.put.result (λ e. record {
      indexed = λ kind records. c.in_ok-enter.ensures (restored kind records (votes_of ps)) (so_far.indexed kind records) (not_there kind records p ps clear);
      entries = λ t. ap (λ es. look es t) e ∙ one_vote c.args.entries.now p ps so_far.entries t;
    }) c.put.ensures
