use Rattle.co_plain.specs.Coordinator.{coord_commit}
use Rattle.co_coord_tests.proofs.Events.{whole_laws, writable_laws, plain_up, played}
use Rattle.co_coord_tests.proofs.calls.commit.Goals as goal

pub returns : goal.returns
returns c =
    let x = c.args.coord.now in
    let p = c.requires.played in
    let up = plain_up c.args.home.now x p c.requires.up in
    let named = c.in_ok-need_named.ensures in
    let served = c.in_ok-commit.ensures.answered p.plain p.stands in
    played c.args.home.now x p c.commit.new.home c.commit.new.self (coord_commit x.number p.plain c.args.t c.args.parts.now) c.in_ok-commit.field-0 c.commit.ensures.same served.1.held (c.in_ok-commit.ensures.did p.plain p.stands)
    ((whole_laws c.args.home.now x p).commit c.args.t c.args.parts.now up named.0) ((writable_laws c.args.home.now x p).commit c.args.t c.args.parts.now up named)
