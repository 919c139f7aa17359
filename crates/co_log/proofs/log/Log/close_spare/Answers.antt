use Rattle.co_log.proofs.Answered.{answer_of, closing_faults, closing_fits}
use Rattle.co_log.specs.Spare.{IsClosing}
use Rattle.co_log.proofs.log.Log.close_spare.Goals as goal

pub returns : goal.returns
returns g c =
    let did = c.close.ensures in
    let log = c.args.self.now in
    let r = c.close.result in
    record {
      answered = answer_of log.spare.spot (IsClosing log c.close.new.self) ⊥ (Unit {0}) c.close.new.self (g.H.Home.seen c.args.home.now) (g.H.Home.seen c.close.new.home) r (λ _. did.closing) (λ _. tt) (record {
        held = did.held;
        clean = did.clean;
        full = closing_fits log.spare.spot r did.faults;
        refused = λ too. absurd too;
        faults = closing_faults log.spare.spot r did.faults;
        device = did.device;
        quiet = did.quiet;
      });
      told = did.told;
      current = did.current;
      short = did.short;
      rest = did.rest;
    }
