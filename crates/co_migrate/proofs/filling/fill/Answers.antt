use Rattle.co_log.proofs.Spots.{spare_only}
use Rattle.co_migrate.proofs.Fillings.{may_fill, filled_after, fill_failed, fill_full, fill_wants}
use Rattle.co_migrate.proofs.filling.fill.Goals as goal

pub fill_spare-requires-clause-ready : goal.fill_spare-requires-clause-ready
fill_spare-requires-clause-ready g c = may_fill c.args.log (g.H.Home.seen c.args.home.now) c.requires.rest c.requires.closed

pub returns-in-Ok-clause-filled : goal.returns-in-Ok-clause-filled
returns-in-Ok-clause-filled g c =
    filled_after c.args.log (g.H.Home.seen c.args.home.now) c.requires.rest c.fill_spare.new.self c.args.records.now (g.H.Home.seen c.fill_spare.new.home) c.in-Ok.field-0 c.in-Ok.ensures.called

pub returns-in-Err-Device-clause-filled : goal.returns-in-Err-Device-clause-filled
returns-in-Err-Device-clause-filled g c =
    fill_failed c.args.log (g.H.Home.seen c.args.home.now) c.requires.rest c.fill_spare.new.self c.args.records.now (g.H.Home.seen c.fill_spare.new.home) c.in-Err-Device.field-0 c.in-Err-Device.ensures.called c.in-Err-Device.spot c.in-Err-Device.field-0-is

pub returns-in-Err-Full-clause-filled : goal.returns-in-Err-Full-clause-filled
returns-in-Err-Full-clause-filled g c =
    fill_full c.args.log (g.H.Home.seen c.args.home.now) c.requires.rest c.fill_spare.new.self c.args.records.now (g.H.Home.seen c.fill_spare.new.home) c.in-Err-Full.field-0 c.in-Err-Full.ensures.called c.in-Err-Full.spot c.in-Err-Full.field-0-is

pub returns-in-Err-Memory-clause-filled : goal.returns-in-Err-Memory-clause-filled
returns-in-Err-Memory-clause-filled g c =
    fill_wants c.args.log (g.H.Home.seen c.args.home.now) c.requires.rest c.fill_spare.new.self c.args.records.now (g.H.Home.seen c.fill_spare.new.home) c.in-Err-Memory.field-0 c.in-Err-Memory.ensures.called c.in-Err-Memory.field-0-is

pub returns-in-Ok-clause-others : goal.returns-in-Ok-clause-others
returns-in-Ok-clause-others g c = spare_only c.args.log c.requires.rest.held.spots (g.H.Home.seen c.args.home.now) (g.H.Home.seen c.fill_spare.new.home) c.fill_spare.ensures.called.rest

pub returns-in-Err-Device-clause-others : goal.returns-in-Err-Device-clause-others
returns-in-Err-Device-clause-others g c = spare_only c.args.log c.requires.rest.held.spots (g.H.Home.seen c.args.home.now) (g.H.Home.seen c.fill_spare.new.home) c.fill_spare.ensures.called.rest

pub returns-in-Err-Full-clause-others : goal.returns-in-Err-Full-clause-others
returns-in-Err-Full-clause-others g c = spare_only c.args.log c.requires.rest.held.spots (g.H.Home.seen c.args.home.now) (g.H.Home.seen c.fill_spare.new.home) c.fill_spare.ensures.called.rest

pub returns-in-Err-Memory-clause-others : goal.returns-in-Err-Memory-clause-others
returns-in-Err-Memory-clause-others g c = spare_only c.args.log c.requires.rest.held.spots (g.H.Home.seen c.args.home.now) (g.H.Home.seen c.fill_spare.new.home) c.fill_spare.ensures.called.rest
