use Rattle.co_top.proofs.Snapshots.{snapshots_behind}
use Rattle.co_top.proofs.looking.look_after.Goals as goal

pub returns-clause-looked : goal.returns-clause-looked
returns-clause-looked g c = λ input l.
    let r = c.in_ok-world.ensures.reached input l in
    record { fresh = r.fresh; whole = r.whole; sees = r.sees; serial = snapshots_behind r.fresh c.args.ask.line }
