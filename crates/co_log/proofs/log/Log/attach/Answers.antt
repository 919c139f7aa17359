use Rattle.co_log.proofs.Answered.{attach_answered, attached_if}
use Rattle.co_log.proofs.log.Log.attach.Goals as goal

pub returns : goal.returns
returns g c =
    let did = c.open.ensures in
    let old = g.H.Home.seen c.args.home.now in
    let new = g.H.Home.seen c.open.new.home in
    record {
      answered = attach_answered c.args.node c.args.resume old new c.open.result (attached_if c.args.node c.args.resume old new c.open.result did.attached did.unused did.fresh did.short did.held) did.faults did.device did.quiet;
      file_a = did.file_a;
      file_b = did.file_b;
      rest = did.rest;
    }
