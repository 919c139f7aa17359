use Rattle.std.proofs.Common.{ap, sym, ◌∙◌, is_some, subst, List}
use Rattle.std.specs.FinMap.{get, insert, from_entries, slice_cmp-IsAntisymmetric, nat_cmp-IsAntisymmetric}
use Rattle.std.proofs.lemmas.Cmp.{nat_list_cmp_total}
use Rattle.co_base.specs.Order.{key_cmp}
use Rattle.co_serial.proofs.MapViews.{view-get, view-insert}
use Rattle.co_mv.specs.declared.version.Version.{Version}
use Rattle.co_mv.specs.Chains.{chain_in, narrowed_in}
use Rattle.co_mv.specs.Kept.{needed, WereKept}
use Rattle.co_mv.specs.Versions.{stays}
use Rattle.co_mv.proofs.chains.Chains.narrow.Goals as goal

pub returns-in_default : goal.returns-in_default
returns-in_default c = λ were.
    ap (λ m. from_entries {R = key_cmp} m.entries) c.get_mut.follows.holds-at-none ∙ c.self.view_is
    ∙ ap (narrowed_in (stays c.args.number (needed c.args.snapshots.now)) c.args.self.now c.args.key.now) (c.in_default.ensures.value ∙ sym (view-get nat_list_cmp_total _ _) ∙ ap (λ m. get m c.args.key.now) c.self.view_is)

pub returns : goal.returns
returns c = λ were.
    let es = c.self.inside.map.entries in
    let found = c.in-Some.ensures.value ∙ sym (view-get nat_list_cmp_total _ _) ∙ ap (λ m. get m c.args.key.now) c.self.view_is in
    let there = sym (ap is_some c.in-Some.ensures.value) in
    let after : List Version = c.prune.new.self in
    view-insert nat_list_cmp_total (slice_cmp-IsAntisymmetric nat_cmp-IsAntisymmetric) es (c.get_mut.follows.lender after).entries c.args.key.now after ((c.get_mut.follows.holds after).3 there).0
    ∙ ap (λ m. insert m c.args.key.now after) c.self.view_is
    ∙ ap (insert c.args.self.now c.args.key.now) (c.prune.ensures (subst (λ o. WereKept c.args.snapshots.now c.args.number (chain_in o)) (sym found) were))
    ∙ ap (narrowed_in (stays c.args.number (needed c.args.snapshots.now)) c.args.self.now c.args.key.now) found
