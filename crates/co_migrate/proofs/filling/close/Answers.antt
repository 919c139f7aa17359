use Rattle.co_migrate.proofs.Closings.{unturned_after, closed_after, close_failed, close_wants}
use Rattle.co_migrate.proofs.filling.close.Goals as goal

pub returns-in-Ok-clause-unturned : goal.returns-in-Ok-clause-unturned
returns-in-Ok-clause-unturned g c = unturned_after c.args.log.now (g.H.Home.seen c.args.home.now) c.requires c.close_spare.new.self (g.H.Home.seen c.close_spare.new.home) c.close_spare.result c.close_spare.ensures

pub returns-in-Err-Device-clause-unturned : goal.returns-in-Err-Device-clause-unturned
returns-in-Err-Device-clause-unturned g c = unturned_after c.args.log.now (g.H.Home.seen c.args.home.now) c.requires c.close_spare.new.self (g.H.Home.seen c.close_spare.new.home) c.close_spare.result c.close_spare.ensures

pub returns-in-Err-Memory-clause-unturned : goal.returns-in-Err-Memory-clause-unturned
returns-in-Err-Memory-clause-unturned g c = unturned_after c.args.log.now (g.H.Home.seen c.args.home.now) c.requires c.close_spare.new.self (g.H.Home.seen c.close_spare.new.home) c.close_spare.result c.close_spare.ensures

pub returns-in-Ok-clause-closed : goal.returns-in-Ok-clause-closed
returns-in-Ok-clause-closed g c = closed_after c.args.log.now (g.H.Home.seen c.args.home.now) c.requires c.close_spare.new.self (g.H.Home.seen c.close_spare.new.home) c.in-Ok.field-0 c.in-Ok.ensures

pub returns-in-Err-Device-clause-closed : goal.returns-in-Err-Device-clause-closed
returns-in-Err-Device-clause-closed g c =
    close_failed c.args.log.now (g.H.Home.seen c.args.home.now) c.requires c.close_spare.new.self (g.H.Home.seen c.close_spare.new.home) c.in-Err-Device.field-0 c.in-Err-Device.ensures c.in-Err-Device.spot c.in-Err-Device.field-0-is

pub returns-in-Err-Memory-clause-closed : goal.returns-in-Err-Memory-clause-closed
returns-in-Err-Memory-clause-closed g c =
    close_wants c.args.log.now (g.H.Home.seen c.args.home.now) c.requires c.close_spare.new.self (g.H.Home.seen c.close_spare.new.home) c.in-Err-Memory.field-0 c.in-Err-Memory.ensures c.in-Err-Memory.field-0-is
