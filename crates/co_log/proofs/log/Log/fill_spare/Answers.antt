use Rattle.co_log.proofs.Answered.{answer_of}
use Rattle.co_log.specs.Calls.{HasNoBatch}
use Rattle.co_log.specs.Spare.{IsFilling, IsOverfull}
use Rattle.co_log.proofs.log.Log.fill_spare.Goals as goal

pub returns-clause-called : goal.returns-clause-called
returns-clause-called g c =
    let did = c.fill.ensures in
    let log = c.args.self.now in
    let more = c.args.items.now in
    let new = g.H.Home.seen c.fill.new.home in
    record {
      answered = answer_of log.spare.spot (IsFilling log more c.fill.new.self) (IsOverfull log more) (HasNoBatch log new) c.fill.new.self (g.H.Home.seen c.args.home.now) new c.fill.result (λ _. did.filling) did.memory (record {
        held = did.held;
        clean = did.clean;
        full = did.full;
        refused = did.overfull;
        faults = did.faults;
        device = did.device;
        quiet = did.quiet;
      });
      told = did.told;
      current = did.current;
      short = did.short;
      rest = did.rest;
    }
