use Rattle.co_log.proofs.Answered.{make_answered}
use Rattle.co_log.proofs.log.Log.make.Goals as goal

pub returns : goal.returns
returns g c =
    let did = c.make_current.ensures in
    record {
      answered = make_answered c.args.self.now c.make_current.new.self (g.H.Home.seen c.args.home.now) (g.H.Home.seen c.make_current.new.home) c.make_current.result did.made did.mark did.held did.clean did.faults did.device did.quiet;
      told = did.told;
      current = did.current;
      short = did.short;
      rest = did.rest;
    }
