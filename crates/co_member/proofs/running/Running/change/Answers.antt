use Rattle.std.proofs.Common.{refl, sym, subst}
use Rattle.std.specs.Prelude.{OnOk}
use Rattle.co_plain.specs.Member.{voted_state}
use Rattle.co_state.specs.Table.{look, holds}
use Rattle.co_member.specs.Plans.{changed}
use Rattle.co_member.specs.Standing.{RepresentsRunning, Suits}
use Rattle.co_member.specs.declared.plan.Change.{Change}
use Rattle.co_member.proofs.Changing.{cast_stands, keeps}
use Rattle.co_member.proofs.Standings.{held_active, unvoted_active}
use Rattle.co_member.proofs.running.Running.change.Goals as goal

pub returns-in-Casts-clause-stands : goal.returns-in-Casts-clause-stands
returns-in-Casts-clause-stands g c = λ kind x s suits.
    let t = c.args.t in
    let at = subst (λ (ch : Change). Suits x t ch) c.in-Casts.is suits in
    let active = held_active (holds x.engine.active t) (holds x.engine.voted t) (holds x.committed t) at in
    let unvoted = unvoted_active (look x.engine.active t) (look x.engine.voted t) (s.undecided.apart t) active in
    let now = c.cast.ensures.stands x.engine x.asked s.undecided active unvoted in
    subst (λ (ch : Change). RepresentsRunning g.E.Engine.stands_for kind (record { undecided = c.cast.new.self; committed = c.args.self.now.committed }) (changed x t ch)) (sym c.in-Casts.is)
    (keeps g.E.Engine.stands_for kind c.args.self.now c.cast.new.self x (voted_state x t c.in-Casts.coord c.in-Casts.count) s now refl refl)

pub returns-in-Drops-clause-stands : goal.returns-in-Drops-clause-stands
returns-in-Drops-clause-stands g c = λ kind x s suits.
    subst (λ (ch : Change). RepresentsRunning g.E.Engine.stands_for kind c.forget.new.self (changed x c.args.t ch)) (sym c.in-Drops.is) (c.forget.ensures.stands kind x s)

pub returns-in-CastsAndInstalls-clause-stands : goal.returns-in-CastsAndInstalls-clause-stands
returns-in-CastsAndInstalls-clause-stands g c = λ kind x s suits.
    let t = c.args.t in
    let arm = c.in-CastsAndInstalls in
    let at = subst (λ (ch : Change). Suits x t ch) arm.is suits in
    let active = held_active (holds x.engine.active t) (holds x.engine.voted t) (holds x.committed t) at in
    let unvoted = unvoted_active (look x.engine.active t) (look x.engine.voted t) (s.undecided.apart t) active in
    let now = c.cast-in-CastsAndInstalls.ensures.stands x.engine x.asked s.undecided active unvoted in
    let voted = keeps g.E.Engine.stands_for kind c.args.self.now c.cast-in-CastsAndInstalls.new.self x (voted_state x t arm.coord arm.count) s now refl refl in
    subst (λ (ch : Change). OnOk c.install-in-CastsAndInstalls.result (RepresentsRunning g.E.Engine.stands_for kind c.install-in-CastsAndInstalls.new.self (changed x t ch))) (sym arm.is)
    (c.install-in-CastsAndInstalls.ensures.stands kind (voted_state x t arm.coord arm.count) voted (cast_stands x t arm.coord arm.count))
