use Rattle.std.proofs.Common.{◌≡◌, sym, ap, ◌∙◌}
use Rattle.co_plain.specs.MemberView.{with_number}
use Rattle.co_state.proofs.Tables.{on_ok}
use Rattle.co_state.specs.Table.{holds, put}
use Rattle.co_member.proofs.Changing.{installed_kind}
use Rattle.co_member.proofs.Standings.{held_voted}
use Rattle.co_member.proofs.running.Running.install.Goals as goal

pub returns-clause-stands : goal.returns-clause-stands
returns-clause-stands g c = λ kind x s at.
    let t = c.args.t in
    let held = held_voted (holds x.engine.active t) (holds x.engine.voted t) (holds x.committed t) at in
    let now = c.in_ok-install.ensures.stands x.engine x.asked s.undecided held.1 held.0 in
    on_ok c.insert.result (λ (e : c.insert.new.self ≡ put c.args.self.now.committed t tt).
    record { undecided = now; committed = ap (λ n. with_number n t) s.committed ∙ sym e; kind = installed_kind x.engine t ∙ s.kind }) c.insert.ensures.ok
