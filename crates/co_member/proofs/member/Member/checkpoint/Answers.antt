use Rattle.std.proofs.Common.{Bool, sym, subst, ◌∙◌}
use Rattle.co_base.specs.declared.node.Node.TheVariants as node
use Rattle.co_member.specs.Checkpoint.{IsAnsweredIn}
use Rattle.co_member.specs.Standing.{written_by}
use Rattle.co_member.proofs.member.Member.checkpoint.Goals as goal

pub fill-requires-clause-stands : goal.fill-requires-clause-stands
fill-requires-clause-stands g c =
    let x = c.requires.stands.0 in
    let r = c.requires.stands.1 in
    (x, r, sym (c.spare_closed.ensures (node.Member c.args.self.now.number) x.log r.log) ∙ c.if-spare_closed.true, c.requires.stands.2)

pub close-requires-clause-stands : goal.close-requires-clause-stands
close-requires-clause-stands g c =
    let x = c.requires.stands.0 in
    let r = c.requires.stands.1 in
    (x, r, sym (c.spare_closed.ensures (node.Member c.args.self.now.number) x.log r.log) ∙ c.if-spare_closed.false)

pub returns-then-spare_closed-clause-answered : goal.returns-then-spare_closed-clause-answered
returns-then-spare_closed-clause-answered g c = λ x r.
    let m = c.args.self.now in
    let is = sym c.if-spare_closed.true ∙ c.spare_closed.ensures (node.Member m.number) x.log r.log in
    subst (λ (b : Bool). IsAnsweredIn b m.number x m.log c.fill.new.self.log (g.H.Home.seen c.args.home.now)
    (g.H.Home.seen c.fill.new.home) (written_by c.fill.result)) is (c.fill.ensures.answered x r)

pub returns-else-spare_closed-clause-answered : goal.returns-else-spare_closed-clause-answered
returns-else-spare_closed-clause-answered g c = λ x r.
    let m = c.args.self.now in
    let is = sym c.if-spare_closed.false ∙ c.spare_closed.ensures (node.Member m.number) x.log r.log in
    subst (λ (b : Bool). IsAnsweredIn b m.number x m.log c.close.new.self.log (g.H.Home.seen c.args.home.now)
    (g.H.Home.seen c.close.new.home) (written_by c.close.result)) is (c.close.ensures.answered x r)
