use Rattle.std.proofs.Common.{sym}
use Rattle.co_coop.proofs.Asked.{coord_in_head, home_own}
use Rattle.co_coop.proofs.asking.told_at_turn.Goals as goal

pub knows-phase-requires-clause-up : goal.knows-phase-requires-clause-up
knows-phase-requires-clause-up g c = let w = c.requires.asks in (w.0, w.1, sym (c.if-not-up.ensures w.0 w.1))

pub up-coord_up-requires : goal.up-coord_up-requires
up-coord_up-requires g c =
    let w = c.requires.asks in
    record { in_head = coord_in_head g.E.Engine.takes g.E.Engine.stands_for c.args.world.now w.0 w.1 c.args.doubt.now.coord (home_own w.0 w.2 c.args.doubt.now.txn c.args.doubt.now.coord w.3.home) }
