use Rattle.std.proofs.Common.{ap, sym, ◌∙◌}
use Rattle.std.specs.FinMap.{get, insert, from_entries}
use Rattle.std.specs.Prelude.{is_some}
use Rattle.co_base.specs.Order.{key_cmp}
use Rattle.co_serial.proofs.MapViews.{view-get, view-insert}
use Rattle.co_state.proofs.Tables.{on_ok}
use Rattle.co_locktab.specs.Holding.{changed, joined}
use Rattle.co_locktab.proofs.Orders.{keys_total, keys_apart}
use Rattle.co_locktab.proofs.key_index.KeyIndex.join.Goals as goal

pub returns-in_default : goal.returns-in_default
returns-in_default c =
    ap (λ m. from_entries {R = key_cmp} m.entries) c.get_mut.follows.holds-at-none ∙ c.self.view_is
    ∙ ap (changed c.args.self.now c.args.key.now (joined c.args.t)) (c.in_default.ensures.value ∙ sym (view-get keys_total _ _) ∙ ap (λ m. get m c.args.key.now) c.self.view_is)

pub returns : goal.returns
returns c =
    let es = c.self.inside.map.entries in
    let there = sym (ap is_some c.in-Some.ensures.value) in
    on_ok c.join.result
    (λ e. view-insert keys_total keys_apart es (c.get_mut.follows.lender c.join.new.self).entries c.args.key.now c.join.new.self ((c.get_mut.follows.holds c.join.new.self).3 there).0
    ∙ ap (λ m. insert m c.args.key.now c.join.new.self) c.self.view_is ∙ ap (insert c.args.self.now c.args.key.now) e
    ∙ ap (changed c.args.self.now c.args.key.now (joined c.args.t)) (c.in-Some.ensures.value ∙ sym (view-get keys_total _ _) ∙ ap (λ m. get m c.args.key.now) c.self.view_is))
    c.join.ensures
