use Rattle.std.proofs.Common.{ap, sym, ◌∙◌, subst}
use Rattle.co_state.specs.Table.{put}
use Rattle.co_stamps.specs.Bearing.{Agree}
use Rattle.co_state.proofs.Tables.{put-without}
use Rattle.co_stamps.proofs.Agreeing.{agree_added, agree_undone, gone_without}
use Rattle.co_stamps.proofs.stamps.Stamps.insert.Goals as goal

pub invariant_of-self-in-Ok : goal.invariant_of-self-in-Ok
invariant_of-self-in-Ok c =
    agree_added c.self.inside.numbers c.insert.new.self c.self.inside.bearers c.add.new.self c.args.number c.args.t c.self.invariant
    (gone_without c.args.self.now c.self.inside.numbers c.args.t (c.self.view_is ∙ c.remove.ensures.rest)) c.in-Ok.ensures.ok c.in_ok-add.ensures.ok

pub invariant_of-self-in-Err : goal.invariant_of-self-in-Err
invariant_of-self-in-Err c =
    subst (λ m. Agree m c.remove-in-Err.new.self) (sym c.in-Err.ensures.err)
    (agree_undone c.self.inside.numbers c.self.inside.bearers c.add.new.self c.remove-in-Err.new.self c.args.number c.args.t c.self.invariant
    (gone_without c.args.self.now c.self.inside.numbers c.args.t (c.self.view_is ∙ c.remove.ensures.rest)) c.in_ok-add.ensures.ok c.remove-in-Err.ensures)

pub returns-in-Ok-clause-ok : goal.returns-in-Ok-clause-ok
returns-in-Ok-clause-ok c = c.in-Ok.ensures.ok ∙ ap (λ m. put m c.args.t c.args.number) (c.self.view_is ∙ c.remove.ensures.rest) ∙ put-without c.args.self.now c.args.t c.args.number
