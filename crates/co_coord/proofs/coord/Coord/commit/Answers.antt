use Rattle.std.proofs.Common.{◌≡◌, sym, ap, subst, ◌∙◌}
use Rattle.co_base.specs.declared.node.Node.TheVariants as node
use Rattle.co_plain.specs.Coordinator.{coord_commit}
use Rattle.co_plain.specs.declared.coord_state.Entry.{Entry}
use Rattle.co_state.specs.Table.{Table, look}
use Rattle.co_coord.specs.Plans.{commit_plan}
use Rattle.co_coord.specs.Standing.{marks_in, written_by}
use Rattle.co_node.specs.Writing.{MayWriteOne, IsAnsweredFor}
use Rattle.co_coord.specs.declared.plan.Plan.{Plan}
use Rattle.co_coord.proofs.Carrying.{planned}
use Rattle.co_node.proofs.Directories.{wants_memory}
use Rattle.co_coord.proofs.Steps.{commit_is}
use Rattle.co_coord.proofs.Writable.{commit_may}
use Rattle.co_coord.proofs.coord.Coord.commit.Goals as goal

pub returns-in_err-plan-clause-answered : goal.returns-in_err-plan-clause-answered
returns-in_err-plan-clause-answered g c = λ y r.
    let x = c.args.self.now in
    wants_memory marks_in (node.Coord x.number) (commit_plan x.number c.args.t c.args.parts.now (look y.table c.args.t)).writes y.log x.log (g.H.Home.seen c.args.home.now) c.from_residual.result
    c.from_residual.ensures r.log c.requires.held c.lengths.ensures.within

pub carry_out-requires-clause-writes : goal.carry_out-requires-clause-writes
carry_out-requires-clause-writes g c =
    subst (λ (p : Plan). MayWriteOne p.writes) (sym c.in_ok-plan.ensures) (commit_may c.args.self.now.number c.args.t c.args.parts.now (look c.table.result.now c.args.t))

pub returns-clause-did : goal.returns-clause-did
returns-clause-did g c = λ y r.
    let n = c.args.self.now.number in
    planned (coord_commit n y c.args.t c.args.parts.now) n c.args.t y (commit_plan n c.args.t c.args.parts.now) c.table.result.now c.in_ok-plan.plan c.carry_out.result c.carry_out.new.self (commit_is n c.args.t y c.args.parts.now) (r.table c.table.result.now c.table.ensures)
    c.in_ok-plan.ensures (c.carry_out.ensures.did y r)

pub returns-clause-answered : goal.returns-clause-answered
returns-clause-answered g c = λ y r.
    let x = c.args.self.now in
    let same = ap (λ (u : Table Entry). commit_plan x.number c.args.t c.args.parts.now (look u c.args.t)) (r.table c.table.result.now c.table.ensures) in
    let made : c.in_ok-plan.plan ≡ commit_plan x.number c.args.t c.args.parts.now (look y.table c.args.t) = c.in_ok-plan.ensures ∙ sym same in
    subst (λ (p : Plan). IsAnsweredFor p.writes (node.Coord x.number) y.log x.log c.carry_out.new.self.log (g.H.Home.seen c.args.home.now)
    (g.H.Home.seen c.carry_out.new.home) (written_by c.carry_out.result)) made (c.carry_out.ensures.answered y r)
