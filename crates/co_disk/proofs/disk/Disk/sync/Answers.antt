use Rattle.co_disk.specs.DiskModel.{after_sync}
use Rattle.co_disk.proofs.Answered.{call_answered, passed_if, sync_has_memory, write_of_sync}
use Rattle.co_disk.proofs.disk.Disk.sync.Goals as goal

pub returns-clause-called : goal.returns-clause-called
returns-clause-called g c =
    let did = c.make_stable.ensures in
    let disk = c.args.self.now in
    let home = g.H.Home.seen c.make_stable.new.home in
    let done = after_sync disk.state in
    record {
      spot = did.spot;
      answered = call_answered done disk.state ⊥ disk c.make_stable.new.self (g.H.Home.seen c.args.home.now) home c.make_stable.result
          (passed_if done disk c.make_stable.new.self home c.make_stable.result did.synced did.passed did.counted did.agrees)
          (λ call is. record { stopped = did.stopped call is; agrees = (did.left call is).0; clean = (did.left call is).1 })
          (write_of_sync c.make_stable.result did.faults) (sync_has_memory c.make_stable.result did.faults) did.device did.quiet;
      image = did.image;
      short = did.short;
      rest = did.rest;
    }
