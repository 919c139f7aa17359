use Rattle.std.proofs.Common.{sym, subst}
use Rattle.std.specs.Prelude.{IfOk}
use Rattle.co_base.specs.declared.node.Node.TheVariants as node
use Rattle.co_member.specs.Plans.{carried_out, plan_of, IsSingleIn}
use Rattle.co_member.specs.Standing.{HasDone, Suits, written_by}
use Rattle.co_node.specs.Writing.{MayWrite, IsAnsweredFor}
use Rattle.co_member.specs.declared.plan.Course.{Course}
use Rattle.co_member.proofs.Writable.{may_one}
use Rattle.co_member.proofs.member.Member.follow.Goals as goal

pub carry_out-requires-clause-stands : goal.carry_out-requires-clause-stands
carry_out-requires-clause-stands g c = (c.requires.stands.0, c.requires.stands.1)

pub carry_out-requires-clause-writes : goal.carry_out-requires-clause-writes
carry_out-requires-clause-writes g c =
    may_one c.in-Carries.plan.writes (subst (λ (k : Course). MayWrite (plan_of k c.args.self.now.number c.requires.stands.0 c.args.t).writes) c.in-Carries.is c.requires.stands.3) (subst IsSingleIn c.in-Carries.is c.requires.single)

pub grant_local-requires-clause-stands : goal.grant_local-requires-clause-stands
grant_local-requires-clause-stands g c =
    let n = c.args.self.now.number in
    let x = c.requires.stands.0 in
    let active = subst (λ (k : Course). Suits x c.args.t (plan_of k n x c.args.t).change) c.in-GrantsLocal.is c.requires.stands.2 in
    let may = subst (λ (k : Course). MayWrite (plan_of k n x c.args.t).writes) c.in-GrantsLocal.is c.requires.stands.3 in
    (x, c.requires.stands.1, active, may)

pub returns-in-GrantsLocal-clause-did : goal.returns-in-GrantsLocal-clause-did
returns-in-GrantsLocal-clause-did g c = λ x r suits.
    let n = c.args.self.now.number in
    let t = c.args.t in
    let it = subst (λ (k : Course). Suits x t (plan_of k n x t).change) c.in-GrantsLocal.is suits in
    subst (λ (k : Course). IfOk c.grant_local.result (λ d. HasDone g.E.Engine.stands_for (carried_out n x t (plan_of k n x t)) d c.grant_local.new.self)) (sym c.in-GrantsLocal.is) (c.grant_local.ensures.did x r it)

pub returns-in-GrantsLocal-clause-answered : goal.returns-in-GrantsLocal-clause-answered
returns-in-GrantsLocal-clause-answered g c = λ x r suits.
    let n = c.args.self.now.number in
    let t = c.args.t in
    let it = subst (λ (k : Course). Suits x t (plan_of k n x t).change) c.in-GrantsLocal.is suits in
    let old = g.H.Home.seen c.args.home.now in
    let new = g.H.Home.seen c.grant_local.new.home in
    subst (λ (k : Course). IsAnsweredFor (plan_of k n x t).writes (node.Member n) x.log c.args.self.now.log c.grant_local.new.self.log old new (written_by c.grant_local.result)) (sym c.in-GrantsLocal.is) (c.grant_local.ensures.answered x r it)

pub grant-requires-clause-stands : goal.grant-requires-clause-stands
grant-requires-clause-stands g c =
    let n = c.args.self.now.number in
    let x = c.requires.stands.0 in
    let active = subst (λ (k : Course). Suits x c.args.t (plan_of k n x c.args.t).change) c.in-Grants.is c.requires.stands.2 in
    let may = subst (λ (k : Course). MayWrite (plan_of k n x c.args.t).writes) c.in-Grants.is c.requires.stands.3 in
    (x, c.requires.stands.1, active, may.0)

pub returns-in-Carries-clause-did : goal.returns-in-Carries-clause-did
returns-in-Carries-clause-did g c = λ x r suits.
    let n = c.args.self.now.number in
    let t = c.args.t in
    let it = subst (λ (k : Course). Suits x t (plan_of k n x t).change) c.in-Carries.is suits in
    subst (λ (k : Course). IfOk c.carry_out.result (λ d. HasDone g.E.Engine.stands_for (carried_out n x t (plan_of k n x t)) d c.carry_out.new.self)) (sym c.in-Carries.is) (c.carry_out.ensures.did x r it)

pub returns-in-Carries-clause-answered : goal.returns-in-Carries-clause-answered
returns-in-Carries-clause-answered g c = λ x r suits.
    let n = c.args.self.now.number in
    let t = c.args.t in
    let old = g.H.Home.seen c.args.home.now in
    let new = g.H.Home.seen c.carry_out.new.home in
    subst (λ (k : Course). IsAnsweredFor (plan_of k n x t).writes (node.Member n) x.log c.args.self.now.log c.carry_out.new.self.log old new (written_by c.carry_out.result)) (sym c.in-Carries.is) (c.carry_out.ensures.answered x r)

pub returns-in-Grants-clause-did : goal.returns-in-Grants-clause-did
returns-in-Grants-clause-did g c = λ x r suits.
    let n = c.args.self.now.number in
    let t = c.args.t in
    let it = subst (λ (k : Course). Suits x t (plan_of k n x t).change) c.in-Grants.is suits in
    subst (λ (k : Course). IfOk c.grant.result (λ d. HasDone g.E.Engine.stands_for (carried_out n x t (plan_of k n x t)) d c.grant.new.self)) (sym c.in-Grants.is) (c.grant.ensures.did x r it)

pub returns-in-Grants-clause-answered : goal.returns-in-Grants-clause-answered
returns-in-Grants-clause-answered g c = λ x r suits.
    let n = c.args.self.now.number in
    let t = c.args.t in
    let it = subst (λ (k : Course). Suits x t (plan_of k n x t).change) c.in-Grants.is suits in
    let old = g.H.Home.seen c.args.home.now in
    let new = g.H.Home.seen c.grant.new.home in
    subst (λ (k : Course). IsAnsweredFor (plan_of k n x t).writes (node.Member n) x.log c.args.self.now.log c.grant.new.self.log old new (written_by c.grant.result)) (sym c.in-Grants.is) (c.grant.ensures.answered x r it)
