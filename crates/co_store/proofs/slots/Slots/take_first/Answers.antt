use Rattle.std.proofs.Common.{◌<◌, ◌∷◌, length, true≢false, ap, sym, ◌∙◌, arith}
use Rattle.std.specs.FinMap.{entries, slice_cmp-IsAntisymmetric, nat_cmp-IsAntisymmetric}
use Rattle.std.proofs.lemmas.Cmp.{nat_list_cmp_total}
use Rattle.co_serial.proofs.MapViews.{view-entries}
use Rattle.co_store.proofs.Laying.{no_length}
use Rattle.co_store.proofs.slots.Slots.take_first.Goals as goal

pub returns-then-len-eq0 : goal.returns-then-len-eq0
returns-then-len-eq0 c =
    ap entries (sym c.self.view_is) ∙ view-entries nat_list_cmp_total (slice_cmp-IsAntisymmetric nat_cmp-IsAntisymmetric) _ c.len.ensures.ordered
    ∙ no_length c.self.inside.map.entries (sym c.len.ensures.len ∙ c.if-len-eq0.true)

pub returns-in_default : goal.returns-in_default
returns-in_default c =
    let some : 0 < length c.self.inside.map.entries = omega (arith, c.if-len-eq0.false, c.len.ensures.len) in
    absurd (true≢false (sym (c.in_default.ensures.variant.1 some)))

pub returns : goal.returns
returns c =
    ap entries (sym c.self.view_is) ∙ view-entries nat_list_cmp_total (slice_cmp-IsAntisymmetric nat_cmp-IsAntisymmetric) _ c.len.ensures.ordered
    ∙ c.in-Some.ensures.removal
    ∙ ap (λ es. c.in-Some.first ∷ es) (sym (view-entries nat_list_cmp_total (slice_cmp-IsAntisymmetric nat_cmp-IsAntisymmetric) _ c.in-Some.ensures.ordered))
