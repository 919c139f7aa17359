use Rattle.std.proofs.Common.{ap, ◌∙◌}
use Rattle.co_state.specs.declared.engine_state.Vote.{Vote}
use Rattle.co_state.specs.Changes.{sets_of}
use Rattle.co_state.specs.EngineState.{operations_of}
use Rattle.co_state.specs.Table.{look}
use Rattle.co_undecided.proofs.Ballots.{active_undecided}
use Rattle.co_undecided.proofs.Entering.{voted}
use Rattle.co_undecided.proofs.Standing.{not_held, held, voted_apart, left_marks}
use Rattle.co_undecided.proofs.undecideds.Undecideds.cast.Goals as goal

pub returns-clause-stands : goal.returns-clause-stands
returns-clause-stands g c = λ b asked r active unvoted.
    let t = c.args.t in
    let idle = not_held (look b.voted t) unvoted in
    let os = held (look b.active t) active in
    let vote : Vote = record { coord = c.args.coord; count = c.args.count; sets = sets_of (operations_of b t) } in
    record {
      engine = c.cast-2.ensures.state b c.args.coord c.args.count r.engine active;
      index = c.cast.ensures b c.args.coord c.args.count r.index unvoted (c.sets.ensures b r.engine (active_undecided b t active));
      entries = λ u. ap (λ es. look es u) c.change.ensures ∙ voted b asked _ t r.entries c.args.coord c.args.count os.0 idle os.1 u;
      apart = voted_apart b.active b.voted asked r.apart r.marks t vote;
      marks = left_marks b.active b.voted asked r.apart r.marks t;
    }
