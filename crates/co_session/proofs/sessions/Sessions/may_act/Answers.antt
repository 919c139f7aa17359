use Rattle.std.proofs.Common.{ℕ, ◌≡◌, ◌∙◌, ap, sym, subst, refl, is_some, Option, None, Some, Result, Ok, Err, OnOk}
use Rattle.co_plain.specs.Sessions.{leave_to_end, leave_to_visit}
use Rattle.co_plain.specs.declared.session.Session.{Session}
use Rattle.co_state.specs.Table.{look}
use Rattle.co_session.proofs.Tables.{looked}
use Rattle.co_session.specs.Leaves.{IsLeave, leave_by}
use Rattle.co_session.specs.declared.fault.SessionFault.TheVariants.{NotBegun}
use Rattle.co_session.proofs.sessions.Sessions.may_act.Goals as goal

-- who was not begun may not act anywhere
absent : (session : Option Session) (at : Option ℕ) → session ≡ None → IsLeave (leave_by session at) (Err NotBegun)
absent session None e = subst (λ s. IsLeave (leave_to_end s) (Err NotBegun)) (sym e) refl
absent session (Some m) e = subst (λ s. IsLeave (leave_to_visit s m) (Err NotBegun)) (sym e) refl

pub returns-in-None-clause-leave : goal.returns-in-None-clause-leave
returns-in-None-clause-leave c =
    absent (look c.args.self.now.sessions c.args.t) c.args.at
    (ap (λ x. look x.sessions c.args.t) (sym c.self.view_is) ∙ looked c.self.inside.begun.entries c.args.t ∙ sym c.in-None.ensures.value)

pub returns-in-Some-clause-leave : goal.returns-in-Some-clause-leave
returns-in-Some-clause-leave c =
    let was : look c.args.self.now.sessions c.args.t ≡ Some c.in-Some.client.now =
    ap (λ x. look x.sessions c.args.t) (sym c.self.view_is) ∙ looked c.self.inside.begun.entries c.args.t ∙ sym c.in-Some.ensures.value in
    subst (λ session. IsLeave (leave_by session c.args.at) c.may_act.result) (sym was) c.may_act.ensures

on_any : {T E A : Type 0} (r : Result T E) → A → OnOk r A
on_any (Ok x) a = a
on_any (Err e) a = tt

pub returns-in-Some-clause-begun : goal.returns-in-Some-clause-begun
returns-in-Some-clause-begun c =
    let was : look c.args.self.now.sessions c.args.t ≡ Some c.in-Some.client.now =
    ap (λ x. look x.sessions c.args.t) (sym c.self.view_is) ∙ looked c.self.inside.begun.entries c.args.t ∙ sym c.in-Some.ensures.value in
    on_any c.may_act.result (ap is_some was)
