use Rattle.std.proofs.Common.{ap, sym, ◌∙◌, is_some}
use Rattle.std.specs.FinMap.{get, insert, from_entries, nat_cmp-IsAntisymmetric}
use Rattle.std.specs.Ordering.{nat_cmp}
use Rattle.std.specs.Cmp.{nat_cmp_total}
use Rattle.co_serial.proofs.MapViews.{view-get, view-insert}
use Rattle.co_state.specs.Table.{put, no_entries}
use Rattle.co_state.proofs.Tables.{on_ok}
use Rattle.co_stamps.specs.Bearing.{or_nobody}
use Rattle.co_stamps.proofs.Agreeing.{put-same, on_err}
use Rattle.co_stamps.proofs.bearers.Bearers.add.Goals as goal

pub returns-clause-ok : goal.returns-clause-ok
returns-clause-ok c = on_ok c.insert.result (λ e.
    let es = c.self.inside.map.entries in
    let there = sym (ap is_some c.in-Some.ensures.value) in
    let txns = c.insert.new.self in
    view-insert nat_cmp_total nat_cmp-IsAntisymmetric es (c.get_mut.follows.lender txns).entries c.args.number txns ((c.get_mut.follows.holds txns).3 there).0
    ∙ ap (λ m. insert m c.args.number txns) c.self.view_is
    ∙ ap (insert c.args.self.now c.args.number) e
    ∙ ap (λ o. put c.args.self.now c.args.number (put (or_nobody o) c.args.t tt)) (c.in-Some.ensures.value ∙ sym (view-get nat_cmp_total _ _) ∙ ap (λ m. get m c.args.number) c.self.view_is))
    c.insert.ensures.ok

pub returns-clause-err : goal.returns-clause-err
returns-clause-err c = on_err c.insert.result (λ e.
    let es = c.self.inside.map.entries in
    let there = sym (ap is_some c.in-Some.ensures.value) in
    let txns = c.insert.new.self in
    view-insert nat_cmp_total nat_cmp-IsAntisymmetric es (c.get_mut.follows.lender txns).entries c.args.number txns ((c.get_mut.follows.holds txns).3 there).0
    ∙ ap (λ m. insert m c.args.number txns) c.self.view_is
    ∙ ap (insert c.args.self.now c.args.number) e
    ∙ put-same c.args.self.now c.args.number c.in-Some.txns.now (c.in-Some.ensures.value ∙ sym (view-get nat_cmp_total _ _) ∙ ap (λ m. get m c.args.number) c.self.view_is))
    c.insert.ensures.err

pub returns-in_default-clause-ok : goal.returns-in_default-clause-ok
returns-in_default-clause-ok c = on_ok c.begin.result (λ e.
    e
    ∙ ap (λ m. put m c.args.number (put no_entries c.args.t tt)) (ap (λ m. from_entries {R = nat_cmp} m.entries) c.get_mut.follows.holds-at-none ∙ c.self.view_is)
    ∙ ap (λ o. put c.args.self.now c.args.number (put (or_nobody o) c.args.t tt)) (c.in_default.ensures.value ∙ sym (view-get nat_cmp_total _ _) ∙ ap (λ m. get m c.args.number) c.self.view_is))
    c.begin.ensures.ok
