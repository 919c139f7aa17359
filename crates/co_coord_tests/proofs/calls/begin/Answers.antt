use Rattle.co_plain.specs.Coordinator.{coord_begin}
use Rattle.co_coord_tests.proofs.Events.{whole_laws, writable_laws, plain_up, played_quietly}
use Rattle.co_coord_tests.proofs.calls.begin.Goals as goal

pub returns : goal.returns
returns c =
    let x = c.args.coord.now in
    let p = c.requires.played in
    let up = plain_up c.args.home.now x p c.requires.up in
    let new = c.in_ok-need_new.ensures p.plain p.stands p.whole.waiting in
    played_quietly c.args.home.now x p c.begin.new.self (coord_begin p.plain c.args.t) c.in_ok-begin.field-0 c.begin.ensures.same c.begin.ensures.log (c.in_ok-begin.ensures.did p.plain p.stands)
    ((whole_laws c.args.home.now x p).begin c.args.t up new) ((writable_laws c.args.home.now x p).begin c.args.t up new)
