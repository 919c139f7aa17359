-- Changes laid over others, from the last one on.
use Rattle.std.proofs.Common.{◌≡◌, ℕ, ◌+◌, ◌<◌, List, [], ◌∷◌, ◌++◌, length, take, get_or, refl, sym, ap, ◌∙◌}
use Rattle.std.proofs.lemmas.List.{take_more}
use Rattle.co_base.specs.declared.written.Written.{Written}
use Rattle.co_state.specs.Changes.{put_change}
use Rattle.co_state.specs.Effects.{joined}

joined-push : (ws : List Written) (w : Written) (changes : List Written) → joined (ws ++ w ∷ []) changes ≡ joined ws (put_change w changes)
joined-push [] w changes = refl
joined-push (v ∷ ws) w changes = ap (put_change v) (joined-push ws w changes)

-- one more change is laid over
pub joined_more : (ws : List Written) (p place : ℕ) (w : Written) (changes : List Written) → p < length ws → p + 1 ≡ place → w ≡ get_or ws p w
    → joined (take p ws) (put_change w changes) ≡ joined (take place ws) changes
joined_more ws p place w changes h e is =
    sym (joined-push (take p ws) w changes) ∙ ap (λ vs. joined vs changes) (ap (λ v. take p ws ++ v ∷ []) is ∙ sym (take_more ws p w h) ∙ ap (λ n. take n ws) e)
