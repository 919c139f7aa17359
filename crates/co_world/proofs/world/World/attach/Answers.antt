use Rattle.std.proofs.Common.{◌≡◌, ◌≤◌, ℕ, List, length, subst}
use Rattle.co_opening.specs.Opened.{IsOfFound}
use Rattle.co_outside.specs.declared.spot.Spot.{Spot}
use Rattle.co_durable.specs.declared.fault.WorldFault.TheVariants.{Device, Memory}
use Rattle.co_opening.proofs.Handed.{not_err}
use Rattle.co_opening.proofs.OpenedOnce.{refused_exactly, fit_or_refused}
use Rattle.co_cluster.proofs.Ending.{passed_on}
use Rattle.co_world.proofs.Openings.{attached_over}
use Rattle.co_world.proofs.world.World.attach.Goals as goal

pub returns-in_err-nodes-clause-untouched : goal.returns-in_err-nodes-clause-untouched
returns-in_err-nodes-clause-untouched g c =
    passed_on c.from_residual.result c.in_err-nodes.field-0.0 (λ fault. IsOfFound fault → (s : Spot) → (g.H.Home.seen c.open_nodes.new.home).file s ≡ (g.H.Home.seen c.args.home.now).file s) c.from_residual.ensures c.in_err-nodes.ensures.untouched

pub returns-clause-opened : goal.returns-clause-opened
returns-clause-opened g c =
    let made = c.in_ok-opened.ensures in
    attached_over g.E.Engine.takes g.E.Engine.stands_for (g.H.Home.seen c.args.home.now).file c.args.head.now c.args.resume c.in_ok-nodes.nodes _ c.in_ok-opened.opened.1 c.args.head.now.members c.args.head.now.coordinators c.in_ok-nodes.ensures.opened made.nodes.0 made.nodes.1 made.clients.0 made.clients.1 made.told

pub returns-in_err-nodes-clause-exact : goal.returns-in_err-nodes-clause-exact
returns-in_err-nodes-clause-exact g c = λ told.
    refused_exactly (g.H.Home.seen c.args.home.now).file c.args.head.now c.args.resume told c.from_residual.result c.in_err-nodes.field-0.0 c.from_residual.ensures c.in_err-nodes.ensures.refused

pub returns-in_err-opened-clause-exact : goal.returns-in_err-opened-clause-exact
returns-in_err-opened-clause-exact g c = λ told.
    refused_exactly (g.H.Home.seen c.args.home.now).file c.args.head.now c.args.resume told c.from_residual-in_err-opened.result Memory c.from_residual-in_err-opened.ensures tt

pub returns-clause-exact : goal.returns-clause-exact
returns-clause-exact g c = λ told why of u.
    let n = c.in_ok-nodes.ensures.opened in
    fit_or_refused (g.H.Home.seen c.args.home.now).file c.args.head.now c.args.resume told n.found_member n.found_coord why of n.fit n.found (subst (λ (ts : List ℕ). length ts ≤ 65536) n.used n.few) u

pub returns-in_err-opened-clause-untouched : goal.returns-in_err-opened-clause-untouched
returns-in_err-opened-clause-untouched g c =
    passed_on c.from_residual-in_err-opened.result Memory (λ fault. IsOfFound fault → (s : Spot) → (g.H.Home.seen c.open_nodes.new.home).file s ≡ (g.H.Home.seen c.args.home.now).file s) c.from_residual-in_err-opened.ensures (λ found. absurd found)

pub returns-clause-quiet : goal.returns-clause-quiet
returns-clause-quiet g c = λ never. c.in_ok-nodes.ensures.quiet (λ spot. not_err c.in_ok-nodes.nodes (Device spot))
