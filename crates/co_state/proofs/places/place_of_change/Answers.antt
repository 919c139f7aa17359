use Rattle.std.proofs.Common.{sym, ◌∙◌}
use Rattle.co_state.proofs.Placing.{change_stands}
use Rattle.co_state.proofs.places.place_of_change.Goals as goal

pub returns-in-Equal-clause-put : goal.returns-in-Equal-clause-put
returns-in-Equal-clause-put c =
    change_stands c.args.change.now c.args.changes.now c.loop-place.place c.index-changes-place.result c.loop-place-test.true c.index-changes-place.is (sym c.cmp.ensures ∙ c.in-Equal.is) c.loop-place.invariant
