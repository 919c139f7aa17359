use Rattle.std.proofs.Common.{sym, ap, ◌∙◌, subst}
use Rattle.co_law_coop.specs.declared.told.Told.{Told}
use Rattle.co_law_coop.specs.Consulting.{done_for}
use Rattle.co_coop.specs.Consulted.{DoesAlong}
use Rattle.co_coop.specs.Turn.{is_verdict}
use Rattle.co_coop.proofs.Aborting.{verdict_voted, verdict_up}
use Rattle.co_coop.proofs.consulting.follow.Goals as goal

pub hand-requires-clause-voted : goal.hand-requires-clause-voted
hand-requires-clause-voted g c =
    let w = c.requires.asks in
    (w.0, w.1, verdict_voted w.0 w.2 c.args.doubt.now c.args.other w.3 (ap is_verdict (sym w.4 ∙ c.in-Commit.is)))

pub abort-requires-clause-asks : goal.abort-requires-clause-asks
abort-requires-clause-asks g c =
    let w = c.requires.asks in
    let verdict = ap is_verdict (sym w.4 ∙ c.in-Abort.is) in
    (w.0, w.1, w.2, w.3, verdict_voted w.0 w.2 c.args.doubt.now c.args.other w.3 verdict, verdict_up w.0 w.2 c.args.doubt.now c.args.other w.3 verdict)

pub returns-in-Commit-clause-did : goal.returns-in-Commit-clause-did
returns-in-Commit-clause-did g c = λ s r reached may e.
    let d = c.args.doubt.now in
    let o = c.args.other in
    subst (λ (x : Told). DoesAlong g.E.Engine.takes g.E.Engine.stands_for s c.args.number (done_for x (s.member o) d.txn d.member o) c.args.items.now c.hand.new.items c.hand.new.world (g.H.Home.seen c.hand.new.home).file c.hand.result)
    (sym c.in-Commit.is ∙ e) (c.hand.ensures.did s r (verdict_voted s reached d o may (ap is_verdict (sym e ∙ c.in-Commit.is))))

pub returns-in-Abort-clause-did : goal.returns-in-Abort-clause-did
returns-in-Abort-clause-did g c = λ s r reached may e.
    let d = c.args.doubt.now in
    let o = c.args.other in
    subst (λ (x : Told). DoesAlong g.E.Engine.takes g.E.Engine.stands_for s c.args.number (done_for x (s.member o) d.txn d.member o) c.args.items.now c.abort.new.items c.abort.new.world (g.H.Home.seen c.abort.new.home).file c.abort.result)
    (sym c.in-Abort.is ∙ e) (c.abort.ensures.did s r reached may (verdict_voted s reached d o may (ap is_verdict (sym e ∙ c.in-Abort.is))))
