use Rattle.std.proofs.Common.{◌≡◌, ℕ, sym, ap, subst, ◌∙◌}
use Rattle.std.specs.Prelude.{IfOk}
use Rattle.co_base.specs.declared.node.Node.TheVariants as node
use Rattle.co_plain.specs.Coordinator.{coord_deliver}
use Rattle.co_plain.specs.declared.coord_state.Entry.{Entry}
use Rattle.co_state.specs.Table.{Table, look}
use Rattle.co_coord.specs.Plans.{carried_out, deliver_plan, txn_of}
use Rattle.co_coord.specs.Standing.{HasDone, marks_in, written_by}
use Rattle.co_node.specs.Writing.{MayWriteOne, IsAnsweredFor}
use Rattle.co_coord.specs.declared.plan.Plan.{Plan}
use Rattle.co_coord.proofs.Carrying.{planned}
use Rattle.co_node.proofs.Directories.{wants_memory}
use Rattle.co_coord.proofs.Steps.{deliver_is}
use Rattle.co_coord.proofs.Writable.{deliver_may}
use Rattle.co_coord.proofs.coord.Coord.deliver.Goals as goal

pub returns-in_err-plan-clause-answered : goal.returns-in_err-plan-clause-answered
returns-in_err-plan-clause-answered g c = λ y r.
    let x = c.args.self.now in
    let m = c.args.message.now in
    wants_memory marks_in (node.Coord x.number) (deliver_plan x.number m (look y.table (txn_of m))).writes y.log x.log (g.H.Home.seen c.args.home.now) c.from_residual.result
    c.from_residual.ensures r.log c.requires.held c.lengths.ensures.within

pub carry_out-requires-clause-stands : goal.carry_out-requires-clause-stands
carry_out-requires-clause-stands g c = (c.requires.stands.0, c.requires.stands.1)

pub carry_out-requires-clause-writes : goal.carry_out-requires-clause-writes
carry_out-requires-clause-writes g c =
    let m = c.args.message.now in
    let same = c.requires.stands.1.table c.table.result.now c.table.ensures in
    let plain : _ ≡ _ = ap (λ (u : Table Entry). look u (txn_of m)) same in
    subst (λ (p : Plan). MayWriteOne p.writes) (sym c.in_ok-plan.ensures)
    (deliver_may c.args.self.now.number m (look c.table.result.now (txn_of m)) (λ parts yeses is. c.requires.stands.2 (txn_of m) parts yeses (plain ∙ is)))

pub returns-clause-did : goal.returns-clause-did
returns-clause-did g c = λ y r.
    let n = c.args.self.now.number in
    let m = c.args.message.now in
    let done = subst (λ (t : ℕ). IfOk c.carry_out.result (λ d. HasDone (carried_out n y t c.in_ok-plan.plan) d c.carry_out.new.self)) c.txn_of.ensures (c.carry_out.ensures.did y r) in
    planned (coord_deliver n y m) n (txn_of m) y (deliver_plan n m) c.table.result.now c.in_ok-plan.plan c.carry_out.result c.carry_out.new.self (deliver_is n y m) (r.table c.table.result.now c.table.ensures) c.in_ok-plan.ensures done

pub returns-clause-answered : goal.returns-clause-answered
returns-clause-answered g c = λ y r.
    let x = c.args.self.now in
    let m = c.args.message.now in
    let same = ap (λ (u : Table Entry). deliver_plan x.number m (look u (txn_of m))) (r.table c.table.result.now c.table.ensures) in
    let made : c.in_ok-plan.plan ≡ deliver_plan x.number m (look y.table (txn_of m)) = c.in_ok-plan.ensures ∙ sym same in
    subst (λ (p : Plan). IsAnsweredFor p.writes (node.Coord x.number) y.log x.log c.carry_out.new.self.log (g.H.Home.seen c.args.home.now)
    (g.H.Home.seen c.carry_out.new.home) (written_by c.carry_out.result)) made (c.carry_out.ensures.answered y r)
