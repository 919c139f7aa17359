use Rattle.std.proofs.Common.{◌≡◌, Bool, true, false, Some, None, is_some, ap, sym, ◌∙◌, if◌then◌else◌}
use Rattle.std.specs.FinMap.{get, remove}
use Rattle.co_serial.proofs.MapViews.{view-get, view-remove}
use Rattle.co_locktab.proofs.Orders.{spans_total, spans_apart}
use Rattle.co_locktab.proofs.range_holders.RangeHolders.forget.Goals as goal

pub returns-in_default-clause-rest : goal.returns-in_default-clause-rest
returns-in_default-clause-rest c = view-remove spans_total spans_apart _ _ c.args.range.now c.remove_entry.ensures.updates.0 ∙ ap (λ m. remove m c.args.range.now) c.self.view_is

pub returns-in_default-clause-ended : goal.returns-in_default-clause-ended
returns-in_default-clause-ended c =
    let range = c.args.range.now in
    let gone : is_some (get c.args.self.now range) ≡ false =
    ap is_some (sym (c.in_default.ensures.value ∙ sym (view-get spans_total c.self.inside.map.entries range) ∙ ap (λ m. get m range) c.self.view_is)) in
    sym (ap (λ (b : Bool). if b then Some range else None) gone)

pub returns-clause-rest : goal.returns-clause-rest
returns-clause-rest c = view-remove spans_total spans_apart _ _ c.args.range.now c.remove_entry.ensures.updates.0 ∙ ap (λ m. remove m c.args.range.now) c.self.view_is

pub returns-clause-ended : goal.returns-clause-ended
returns-clause-ended c =
    let range = c.args.range.now in
    let there : is_some (get c.args.self.now range) ≡ true =
    ap is_some (sym (c.in-Some.ensures.value ∙ sym (view-get spans_total c.self.inside.map.entries range) ∙ ap (λ m. get m range) c.self.view_is)) in
    sym (ap (λ (b : Bool). if b then Some range else None) there ∙ ap Some (spans_apart range c.in-Some.forgotten c.in-Some.ensures.same_key))
