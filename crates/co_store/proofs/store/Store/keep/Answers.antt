use Rattle.std.proofs.Common.{ap, ◌∙◌}
use Rattle.std.specs.FinMap.{entries}
use Rattle.co_state.specs.Table.{look, without}
use Rattle.co_store.specs.Images.{or_nothing, settled_all}
use Rattle.co_store.specs.StoreState.{with_kept}
use Rattle.co_store.proofs.Showing.{shown_kept, shown_alike, shown_along}
use Rattle.co_store.proofs.store.Store.keep.Goals as goal

pub returns : goal.returns
returns c = λ s h.
    let old = c.args.self.now in
    shown_along (with_kept s c.args.t)
    (c.settle_all.ensures ∙ ap (λ m. settled_all old.slots (entries m)) (c.take_images-images.ensures.value ∙ ap (λ us. or_nothing (look us c.args.t)) h.undos_are))
    (c.take_images-images.ensures.rest ∙ ap (λ us. without us c.args.t) h.undos_are)
    (shown_kept old.slots s c.args.t (shown_alike old.slots old.undos s h))
