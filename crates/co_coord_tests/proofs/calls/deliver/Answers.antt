use Rattle.co_plain.specs.Coordinator.{coord_deliver}
use Rattle.co_coord_tests.proofs.Events.{whole_laws, writable_laws, plain_up, delivered, played}
use Rattle.co_coord_tests.proofs.calls.deliver.Goals as goal

pub returns : goal.returns
returns c =
    let x = c.args.coord.now in
    let p = c.requires.played in
    let m = c.args.message.now in
    let up = plain_up c.args.home.now x p c.requires.up in
    let served = c.in_ok-deliver.ensures.answered p.plain p.stands in
    played c.args.home.now x p c.deliver.new.home c.deliver.new.self (coord_deliver x.number p.plain m) c.in_ok-deliver.field-0 c.deliver.ensures.same served.1.held (c.in_ok-deliver.ensures.did p.plain p.stands)
    (delivered _ _ x.number p.plain (whole_laws c.args.home.now x p) p.whole m up) (delivered _ _ x.number p.plain (writable_laws c.args.home.now x p) p.writable m up)
