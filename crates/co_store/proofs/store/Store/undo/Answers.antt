use Rattle.std.proofs.Common.{ap, ◌∙◌}
use Rattle.std.specs.FinMap.{entries}
use Rattle.co_state.specs.Table.{look, without}
use Rattle.co_store.specs.Images.{or_nothing, restored_all}
use Rattle.co_store.specs.StoreState.{with_undone}
use Rattle.co_store.proofs.Showing.{shown_undone, shown_alike, shown_along}
use Rattle.co_store.proofs.store.Store.undo.Goals as goal

pub returns : goal.returns
returns c = λ s h.
    let old = c.args.self.now in
    shown_along (with_undone s c.args.t)
    (c.lay_back.ensures ∙ ap (λ m. restored_all old.slots (entries m)) (c.take_images-images.ensures.value ∙ ap (λ us. or_nothing (look us c.args.t)) h.undos_are))
    (c.take_images-images.ensures.rest ∙ ap (λ us. without us c.args.t) h.undos_are)
    (shown_undone old.slots s c.args.t (shown_alike old.slots old.undos s h))
