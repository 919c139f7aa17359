use Rattle.std.proofs.Common.{sym, ap, ◌∙◌}
use Rattle.co_state.specs.Table.{without}
use Rattle.co_state.proofs.Tables.{put-without, on_ok}
use Rattle.co_occ.specs.Reading.{with_oldest}
use Rattle.co_occ.proofs.Registering.{renumbered, same_stamp}
use Rattle.co_occ.proofs.register.renumber.Goals as goal

pub returns-then-eq-clause-ok : goal.returns-then-eq-clause-ok
returns-then-eq-clause-ok c = renumbered c.args.stamps.now c.args.t c.args.oldest (sym c.get.ensures ∙ same_stamp c.get.result c.args.oldest (sym c.eq.ensures ∙ c.if-eq.true))

pub returns-in-Some-clause-ok : goal.returns-in-Some-clause-ok
returns-in-Some-clause-ok c =
    on_ok c.insert.result
    (λ e. e ∙ sym (put-without c.args.stamps.now c.args.t c.in-Some.stamp) ∙ sym (ap (with_oldest (without c.args.stamps.now c.args.t) c.args.t) c.in-Some.is))
    c.insert.ensures.ok
