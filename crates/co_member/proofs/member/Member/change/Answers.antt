use Rattle.std.proofs.Common.{refl}
use Rattle.co_state.proofs.Tables.{on_ok}
use Rattle.co_member.specs.Plans.{changed}
use Rattle.co_member.specs.Standing.{RepresentsRunning}
use Rattle.co_member.proofs.member.Member.change.Goals as goal

pub returns-clause-running : goal.returns-clause-running
returns-clause-running g c = λ x r suits.
    let kind = c.args.self.now.kind in
    on_ok c.change.result (λ (now : RepresentsRunning g.E.Engine.stands_for kind c.change.new.self (changed x c.args.t c.args.change)). (c.change.new.self, refl, now))
    (c.change.ensures.stands kind x (r.running c.in-Some.running c.in-Some.is) suits)
