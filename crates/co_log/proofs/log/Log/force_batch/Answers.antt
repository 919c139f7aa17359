use Rattle.co_log.proofs.Answered.{answer_of}
use Rattle.co_log.specs.Calls.{IsForcedWith, HasOldAlone}
use Rattle.co_log.proofs.log.Log.force_batch.Goals as goal

pub returns : goal.returns
returns g c = λ more is.
    let laid = c.lay_batch.ensures in
    let log = c.args.self.now in
    let after = c.lay_batch.new.self in
    let new = g.H.Home.seen c.lay_batch.new.home in
    record {
      answered = answer_of log.current.spot (IsForcedWith log after more) ⊥ (HasOldAlone log new) after (g.H.Home.seen c.args.home.now) new c.lay_batch.result
          (λ _ items. laid.forced more items is) (λ wants items live. laid.memory items live wants) (record {
            held = laid.held;
            clean = laid.clean;
            full = laid.full;
            refused = λ long. absurd long;
            faults = laid.faults;
            device = laid.device;
            quiet = laid.quiet;
          });
      told = λ items. laid.told more items is;
      current = λ items. laid.current more items is;
      short = laid.short;
      rest = laid.rest;
    }
