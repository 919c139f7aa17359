use Rattle.std.proofs.Common.{true, ap, sym, ◌∙◌}
use Rattle.std.specs.FinMap.{get, from_entries, nat_cmp-IsAntisymmetric}
use Rattle.std.specs.Ordering.{nat_cmp}
use Rattle.std.specs.Cmp.{nat_cmp_total}
use Rattle.std.specs.Prelude.{is_some}
use Rattle.co_serial.proofs.MapViews.{view-get, view-insert}
use Rattle.co_state.specs.Table.{put}
use Rattle.co_index.specs.Touching.{marked_from}
use Rattle.co_index.proofs.touchers.Touchers+bool.mark.Goals as goal

pub returns-in_default : goal.returns-in_default
returns-in_default c =
    ap (λ m. from_entries {R = nat_cmp} m.entries) c.get_mut.follows.holds-at-none ∙ c.self.view_is
    ∙ ap (marked_from c.args.self.now c.args.t) (c.in_default.ensures.value ∙ sym (view-get nat_cmp_total _ _) ∙ ap (λ m. get m c.args.t) c.self.view_is)

pub returns : goal.returns
returns c =
    let es = c.self.inside.entries.entries in
    let there = sym (ap is_some c.in-Some.ensures.value) in
    view-insert nat_cmp_total nat_cmp-IsAntisymmetric es (c.get_mut.follows.lender true).entries c.args.t true ((c.get_mut.follows.holds true).3 there).0
    ∙ ap (λ m. put m c.args.t true) c.self.view_is
    ∙ ap (marked_from c.args.self.now c.args.t) (c.in-Some.ensures.value ∙ sym (view-get nat_cmp_total _ _) ∙ ap (λ m. get m c.args.t) c.self.view_is)
