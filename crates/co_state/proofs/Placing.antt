-- A change laid in its place, found by going along the changes.
use Rattle.std.proofs.Common.{◌≡◌, ℕ, ◌+◌, ◌<◌, List, ◌∷◌, ◌++◌, length, take, drop, get_or, set, sym, ap, ◌∙◌, add-one}
use Rattle.std.proofs.lemmas.List.{drop_more, set_split}
use Rattle.std.specs.declared.cmp.Ordering.TheVariants.{Equal}
use Rattle.std.specs.FinMap.Entries.{by_order}
use Rattle.co_base.specs.Order.{key_cmp}
use Rattle.co_base.specs.declared.written.Written.{Written}
use Rattle.co_state.specs.Changes.{put_change}

-- it replaces the one of its key
pub change_stands : (change : Written) (ws : List Written) (i : ℕ) (w : Written) → i < length ws → w ≡ get_or ws i w → key_cmp change.key w.key ≡ Equal
    → put_change change ws ≡ take i ws ++ put_change change (drop i ws) → put_change change ws ≡ set ws i change
change_stands change ws i w h is e inv =
    inv ∙ ap (λ vs. take i ws ++ put_change change vs) (drop_more ws i w h ∙ ap (λ v. v ∷ drop (i + 1) ws) (sym is))
    ∙ ap (λ r. take i ws ++ by_order r (change ∷ w ∷ drop (i + 1) ws) (change ∷ drop (i + 1) ws) (w ∷ put_change change (drop (i + 1) ws))) e
    ∙ ap (λ k. take i ws ++ change ∷ drop k ws) (add-one i) ∙ sym (set_split ws i change h)
