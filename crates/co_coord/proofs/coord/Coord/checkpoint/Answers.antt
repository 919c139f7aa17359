use Rattle.std.proofs.Common.{Bool, sym, subst, ◌∙◌}
use Rattle.std.specs.Prelude.{IfOk}
use Rattle.co_base.specs.declared.node.Node.TheVariants as node
use Rattle.co_plain.specs.CoordLog.{coord_checkpoint_by}
use Rattle.co_coord.specs.Restating.{IsCheckpointed}
use Rattle.co_coord.specs.Standing.{HasDone, written_by}
use Rattle.co_coord.proofs.coord.Coord.checkpoint.Goals as goal

pub fill-requires-clause-stands : goal.fill-requires-clause-stands
fill-requires-clause-stands g c =
    let y = c.requires.stands.0 in
    let r = c.requires.stands.1 in
    (y, r, sym (c.spare_closed.ensures (node.Coord c.args.self.now.number) y.log r.log) ∙ c.if-spare_closed.true, c.requires.stands.2)

pub close-requires-clause-stands : goal.close-requires-clause-stands
close-requires-clause-stands g c =
    let y = c.requires.stands.0 in
    let r = c.requires.stands.1 in
    (y, r, sym (c.spare_closed.ensures (node.Coord c.args.self.now.number) y.log r.log) ∙ c.if-spare_closed.false)

pub returns-then-spare_closed-clause-did : goal.returns-then-spare_closed-clause-did
returns-then-spare_closed-clause-did g c = λ y r.
    let n = c.args.self.now.number in
    let closed = sym (c.spare_closed.ensures (node.Coord n) y.log r.log) ∙ c.if-spare_closed.true in
    subst (λ (b : Bool). IfOk c.fill.result (λ d. HasDone (coord_checkpoint_by n y b) d c.fill.new.self)) (sym closed) (c.fill.ensures.did y r)

pub returns-then-spare_closed-clause-answered : goal.returns-then-spare_closed-clause-answered
returns-then-spare_closed-clause-answered g c = λ y r.
    let x = c.args.self.now in
    let n = node.Coord x.number in
    let old = g.H.Home.seen c.args.home.now in
    let new = g.H.Home.seen c.fill.new.home in
    let closed = sym (c.spare_closed.ensures n y.log r.log) ∙ c.if-spare_closed.true in
    subst (λ (b : Bool). IsCheckpointed b n y x.log c.fill.new.self.log old new (written_by c.fill.result)) (sym closed) (c.fill.ensures.answered y r)

pub returns-else-spare_closed-clause-did : goal.returns-else-spare_closed-clause-did
returns-else-spare_closed-clause-did g c = λ y r.
    let n = c.args.self.now.number in
    let closed = sym (c.spare_closed.ensures (node.Coord n) y.log r.log) ∙ c.if-spare_closed.false in
    subst (λ (b : Bool). IfOk c.close.result (λ d. HasDone (coord_checkpoint_by n y b) d c.close.new.self)) (sym closed) (c.close.ensures.did y r)

pub returns-else-spare_closed-clause-answered : goal.returns-else-spare_closed-clause-answered
returns-else-spare_closed-clause-answered g c = λ y r.
    let x = c.args.self.now in
    let n = node.Coord x.number in
    let old = g.H.Home.seen c.args.home.now in
    let new = g.H.Home.seen c.close.new.home in
    let closed = sym (c.spare_closed.ensures n y.log r.log) ∙ c.if-spare_closed.false in
    subst (λ (b : Bool). IsCheckpointed b n y x.log c.close.new.self.log old new (written_by c.close.result)) (sym closed) (c.close.ensures.answered y r)
