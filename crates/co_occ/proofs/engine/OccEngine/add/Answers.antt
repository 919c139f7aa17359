use Rattle.std.proofs.Common.{ap, ◌∙◌}
use Rattle.co_state.proofs.Tables.{on_ok}
use Rattle.co_state.specs.Table.{look, put, without}
use Rattle.co_occ.specs.Kept.{or_unread, with_read}
use Rattle.co_occ.proofs.Standing.{stands_with}
use Rattle.co_occ.proofs.engine.OccEngine.add.Goals as goal

pub returns : goal.returns
returns c = λ b s h.
    let o = c.args.self.now in
    on_ok c.add.result
    (λ e. stands_with o b c.args.t c.args.op.now _ _ s h (e ∙ ap (λ r. put (without o.reads c.args.t) c.args.t (with_read r o.installs (or_unread (look o.reads c.args.t)))) c.in_ok-range.ensures) c.in_ok-grow.ensures)
    c.add.ensures
