use Rattle.std.proofs.Common.{◌≡◌, Bool, true, ◌||◌, List, Option, None, Some, is_some, refl, sym, ◌∙◌}
use Rattle.co_plain.specs.MemberStep.{dropped}
use Rattle.co_state.specs.Table.{look}
use Rattle.co_state.specs.declared.engine_state.Operation.{Operation}
use Rattle.co_state.specs.declared.engine_state.Vote.{Vote}
use Rattle.co_undecided.specs.Kept.{mark_of}
use Rattle.co_member.proofs.Changing.{drop_none, keeps}
use Rattle.co_member.proofs.running.Running.forget.Goals as goal

undecided_here : (os : Option (List Operation)) (vote : Option Vote) (f : Bool) → mark_of os vote ≡ Some f → (is_some os || is_some vote) ≡ true
undecided_here (Some os) vote f e = refl
undecided_here None (Some vote) f e = refl
undecided_here None None f e = absurd (let z : None ≡ Some f = e in cc)

pub returns-in-Some-clause-stands : goal.returns-in-Some-clause-stands
returns-in-Some-clause-stands g c = λ kind x s.
    let t = c.args.t in
    let mark = sym (c.has_voted.ensures x.engine x.asked s.undecided) ∙ c.in-Some.is in
    let now = c.drop_txn.ensures.stands x.engine x.asked s.undecided (undecided_here (look x.engine.active t) (look x.engine.voted t) c.in-Some.field-0 mark) in
    keeps g.E.Engine.stands_for kind c.args.self.now c.drop_txn.new.self x (dropped x t) s now refl refl

pub returns-in-None-clause-stands : goal.returns-in-None-clause-stands
returns-in-None-clause-stands g c = λ kind x s.
    let mark = sym (c.has_voted.ensures x.engine x.asked s.undecided) ∙ c.in-None.is in
    keeps g.E.Engine.stands_for kind c.args.self.now c.args.self.now.undecided x (dropped x c.args.t) s (drop_none g.E.Engine.stands_for c.args.self.now.undecided x.engine x.asked c.args.t mark s.undecided) refl refl
