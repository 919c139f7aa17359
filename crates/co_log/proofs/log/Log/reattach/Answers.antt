use Rattle.std.proofs.Common.{subst}
use Rattle.co_log.specs.LogView.{LogView, IsHeld}
use Rattle.co_log.proofs.Answered.{reattach_answered}
use Rattle.co_log.proofs.log.Log.reattach.Goals as goal

pub returns-clause-called : goal.returns-clause-called
returns-clause-called g c =
    let did = c.reread_both.ensures in
    record {
      answered = reattach_answered g.H.Home.gives g.H.Home.seen c.args.self.now c.args.home.now c.reread_both.new.home c.reread_both.result did.same did.faults did.device did.quiet;
      current = did.current;
      spare = did.spare;
      held = subst (λ (l : LogView). IsHeld (g.H.Home.seen c.reread_both.new.home) l) did.log did.held;
      rest = did.rest;
    }
