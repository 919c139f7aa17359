use Rattle.std.proofs.Common.{ap, sym, ◌∙◌, is_some}
use Rattle.std.specs.FinMap.{get, insert, from_entries, nat_cmp-IsAntisymmetric}
use Rattle.std.specs.Ordering.{nat_cmp}
use Rattle.std.specs.Cmp.{nat_cmp_total}
use Rattle.co_serial.proofs.MapViews.{view-get, view-insert}
use Rattle.co_stamps.specs.Bearing.{without_in}
use Rattle.co_stamps.proofs.bearers.Bearers.take_away.Goals as goal

pub returns-in_default : goal.returns-in_default
returns-in_default c =
    ap (λ m. from_entries {R = nat_cmp} m.entries) c.get_mut.follows.holds-at-none ∙ c.self.view_is
    ∙ ap (without_in c.args.self.now c.args.number c.args.t) (c.in_default.ensures.value ∙ sym (view-get nat_cmp_total _ _) ∙ ap (λ m. get m c.args.number) c.self.view_is)

pub returns : goal.returns
returns c =
    let es = c.self.inside.map.entries in
    let there = sym (ap is_some c.in-Some.ensures.value) in
    let txns = c.remove.new.self in
    view-insert nat_cmp_total nat_cmp-IsAntisymmetric es (c.get_mut.follows.lender txns).entries c.args.number txns ((c.get_mut.follows.holds txns).3 there).0
    ∙ ap (λ m. insert m c.args.number txns) c.self.view_is
    ∙ ap (insert c.args.self.now c.args.number) c.remove.ensures.rest
    ∙ ap (without_in c.args.self.now c.args.number c.args.t) (c.in-Some.ensures.value ∙ sym (view-get nat_cmp_total _ _) ∙ ap (λ m. get m c.args.number) c.self.view_is)
