use Rattle.std.proofs.Common.{ap, sym, ◌∙◌}
use Rattle.std.specs.FinMap.{get}
use Rattle.co_state.specs.Table.{look, put}
use Rattle.co_state.proofs.Tables.{on_ok, put-without}
use Rattle.co_store.specs.Images.{or_nothing, with_image, value_in}
use Rattle.co_store.specs.StoreState.{with_put}
use Rattle.co_store.proofs.Showing.{shown_put, shown_alike, shown_along}
use Rattle.co_store.proofs.store.Store.put.Goals as goal

pub returns : goal.returns
returns c = λ s h free.
    let old = c.args.self.now in
    let t = c.args.t in
    let key = c.args.key in
    on_ok c.lay.result
    (λ e.
    shown_along (with_put s t key c.args.value)
    e
    (c.in_ok-insert.ensures.ok
    ∙ ap (λ us. put us t c.keep_image.new.images) c.take_images-images.ensures.rest
    ∙ put-without old.undos t c.keep_image.new.images
    ∙ ap (put old.undos t) (c.in_ok-keep_image.ensures ∙ ap (λ m. with_image m key (value_in (get old.slots key))) c.take_images-images.ensures.value)
    ∙ (λ i. put (h.undos_are i) t (with_image (or_nothing (look (h.undos_are i) t)) key (sym (h.values_are key) i))))
    (shown_put old.slots s t key c.args.value (shown_alike old.slots old.undos s h) free))
    c.lay.ensures
